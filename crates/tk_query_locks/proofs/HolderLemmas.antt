-- The executions in the lists, and those that an execution meets.
use Rattle.std.proofs.Common.{◌≡◌, ℕ, zero, suc, ◌+◌, ◌<◌, ◌≤◌, Bool, true, false, ◌⊎◌, inl, inr, ⊎_elim, List, [], get_or, length, Option, Some, None, Bor, refl, sym, ap, ◌∙◌, subst, arith}
use Rattle.std.specs.Prelude.{◌↔◌, IsTrue, MatchOption, OnOk, Result, Ok, Err, is_some}
use Rattle.std.specs.List.{Contains}
use Rattle.std.specs.Option.{option_and_then}
use Rattle.std.proofs.lemmas.Bool.{cases_lt, cases_order, false≢true}
use Rattle.std.proofs.lemmas.List.{get_or_default, get_or_past}
use Rattle.std.proofs.lemmas.Option.{same_Some, none-some}
use Rattle.indexmap.specs.IndexSet.{IndexSet}
use Rattle.tk_ids.specs.declared.descriptors.Descriptor.{Descriptor}
use Rattle.tk_record.specs.Entries.{desc}
use Rattle.tk_record.specs.Recorded.{Recorded}
use Rattle.tk_ids.specs.declared.locks.LockMode.{LockMode}
use Rattle.tk_ids.specs.declared.locks.LockMode.TheVariants.{Read, ReadWrite}
use Rattle.tk_ids.specs.declared.locks.Lock.{Lock}
use Rattle.tk_query_locks.specs.Conflicts.{ConflictAt, ConflictOver, Holds, IsTestWithoutChild, Uses, Writes, descriptor_at, global_name, key_at, lock}
use Rattle.tk_query_locks.specs.declared.holders.Holders.{Holders}
use Rattle.tk_query_locks.specs.declared.holders.Running.{Running}
use Rattle.tk_query_locks.specs.steps.Conflicts.{IsDescribed, IsLeastLock}
use Rattle.tk_query_locks.specs.steps.Parents.{IsUnwritten}
use Rattle.tk_query_locks.proofs.ConflictLemmas.{at_key, at_place, at_swap, each_more, not_itself}
use Rattle.tk_query_locks.specs.steps.Holders.{AreLasting, AreListed, AreReady, HaveAllLists, HaveLists, IsFirstMeeting, IsFirstMet, IsLeastAt, IsListed, IsListedAs, Keeps, LockIsListed, LockMeetsNone, Meet, MeetsNone, Repeats, Stands, end_of, locks_at, locks_of, under_global}
use Rattle.tk_query_locks.specs.steps.LockNumbers.{IsUnshared, number_of, numbers_bound}
use Rattle.tk_query_locks.specs.declared.lock_numbers.NumberedLock.{NumberedLock}
use Rattle.tk_query_locks.proofs.NumberLemmas.{global_number}

-- the descriptor of an entry is one of the record
pub described_at : (r : Recorded) (p : ℕ) (d : Descriptor) → descriptor_at r p ≡ Some d → IsDescribed r d
described_at r p d is = by (key_at r p) is
  where
    by : (o : Option ℕ) → option_and_then (desc r) o ≡ Some d → IsDescribed r d
    by None none = absurd (none-some d none)
    by (Some key) some = (key, some)

-- no execution starts past the end
pub start_within : (h : Holders) (p : ℕ) → 0 < end_of h p → p < length h.ends.items
start_within h p some = ⊎_elim {C = p < length h.ends.items}
    (λ (lt : p < length h.ends.items). lt)
    (λ (past : length h.ends.items ≤ p). let none = get_or_past h.ends.items p 0 past in absurd (omega arith))
    (cases_lt p (length h.ends.items))

-- what a loop over locks names past their end
abbrev pub no_lock : NumberedLock
no_lock = record { number = 0; mode = Read }

-- ---- whom an execution meets

-- a lock of the descriptor of an entry, by its number
abbrev numbered : Holders → Lock → NumberedLock
numbered h k = record { number = number_of h.numbers k.name; mode = k.mode }

module _ (h : Holders) (ready : AreReady h) where
  -- the lock has a number, or none
  numbered_at : (p : ℕ) (d : Descriptor) (k : Lock) → descriptor_at h.conflicts p ≡ Some d → Contains d.locks k → Contains (locks_at h p) (numbered h k) ⊎ IsUnshared h.numbers k.name
  numbered_at p d k at has = by (key_at h.conflicts p) at
    where
      by : (o : Option ℕ) → option_and_then (desc h.conflicts) o ≡ Some d → Contains (locks_of h o) (numbered h k) ⊎ IsUnshared h.numbers k.name
      by None none = absurd (none-some d none)
      by (Some key) is = ready.numbered.each key d is k has

  -- over a lock without a number no entries conflict
  unshared_none : (name : List ℕ) (p q : ℕ) → IsUnshared h.numbers name → ¬ ConflictAt h.conflicts name p q
  unshared_none name p q unshared c =
      let first = described_at h.conflicts p c.a c.first in
      let second = described_at h.conflicts q c.b c.second in
      ready.shared.none first.0 second.0 c.a c.b first.1 second.1 name unshared c.over

  number_within : (p : ℕ) (k : NumberedLock) → Contains (locks_at h p) k → k.number ≤ numbers_bound h.numbers
  number_within p k = by (key_at h.conflicts p)
    where
      by : (o : Option ℕ) → Contains (locks_of h o) k → k.number ≤ numbers_bound h.numbers
      by None has = absurd (let lt = has.1 in omega arith)
      by (Some key) has = ready.numbered.within key k has

  -- there are lists for the number of each lock
  pub lists_at : (running : Running) → HaveAllLists h running → (q i : ℕ) (d : NumberedLock) (locks : List NumberedLock) → locks ≡ locks_at h q → i < length locks → HaveLists running (get_or locks i d).number
  lists_at running all q i d locks are within =
      all (get_or locks i d).number (number_within q (get_or locks i d)
      (subst (λ (l : List NumberedLock). Contains l (get_or locks i d)) are (i, within, sym (get_or_default locks i d (get_or locks i d) within))))

module _ (h : Holders) (ready : AreReady h) (running : Running) (q : ℕ)
    (locks_none : (k : NumberedLock) → Contains (locks_at h q) k → LockMeetsNone h running k q)
    (global_none : (d : Descriptor) → descriptor_at h.conflicts q ≡ Some d → IsTestWithoutChild h.conflicts d → ((p : ℕ) → Contains (under_global h running.writers) p → ¬ Meet h p q) ⊎ IsUnwritten h.conflicts global_name) where
  module _ (p : ℕ) (listed : IsListed h running p) (met : Meet h p q) where
    -- the lock over which they conflict has a number
    has_number : (i : ℕ) (e : Descriptor) (mode : LockMode) → descriptor_at h.conflicts i ≡ Some e → Contains e.locks (lock met.name mode) → Contains (locks_at h i) (numbered h (lock met.name mode))
    has_number i e mode is has = ⊎_elim {C = Contains (locks_at h i) (numbered h (lock met.name mode))}
        (λ (there : Contains (locks_at h i) (numbered h (lock met.name mode))). there)
        (λ (unshared : IsUnshared h.numbers met.name). absurd (unshared_none h ready met.name p q unshared met.conflict))
        (numbered_at h ready i e (lock met.name mode) is has)

    first_writes : Writes met.name met.conflict.a → Uses h.conflicts met.name met.conflict.b → ⊥
    first_writes writes uses =
        let there = listed.locks (numbered h (lock met.name ReadWrite)) (has_number p met.conflict.a ReadWrite met.conflict.first writes) in
        ⊎_elim {C = ⊥}
        (λ (holds : Holds met.name met.conflict.b).
        (locks_none (numbered h (lock met.name holds.0)) (has_number q met.conflict.b holds.0 met.conflict.second holds.1)).writers p there met)
        (λ (test : (met.name ≡ global_name) × IsTestWithoutChild h.conflicts met.conflict.b). ⊎_elim {C = ⊥}
        (λ (none : (p : ℕ) → Contains (under_global h running.writers) p → ¬ Meet h p q).
        none p (subst (λ n. Contains (get_or running.writers n []) p) (ap (number_of h.numbers) test.0 ∙ global_number h.numbers) there) met)
        (λ (unwritten : IsUnwritten h.conflicts global_name).
        let is = described_at h.conflicts p met.conflict.a met.conflict.first in
        unwritten is.0 met.conflict.a is.1 (subst (λ n. Writes n met.conflict.a) test.0 writes))
        (global_none met.conflict.b met.conflict.second test.1))
        uses

    second_writes : Writes met.name met.conflict.b → Uses h.conflicts met.name met.conflict.a → ⊥
    second_writes writes uses =
        let none = locks_none (numbered h (lock met.name ReadWrite)) (has_number q met.conflict.b ReadWrite met.conflict.second writes) in
        ⊎_elim {C = ⊥}
        (λ (holds : Holds met.name met.conflict.a).
        by none holds.0 (listed.locks (numbered h (lock met.name holds.0)) (has_number p met.conflict.a holds.0 met.conflict.first holds.1)))
        (λ (test : (met.name ≡ global_name) × IsTestWithoutChild h.conflicts met.conflict.a). ⊎_elim {C = ⊥}
        (λ (there : Contains (under_global h running.readers) p).
        none.readers refl p (subst (λ n. Contains (get_or running.readers n []) p) (sym (ap (number_of h.numbers) test.0 ∙ global_number h.numbers)) there) met)
        (λ (unwritten : IsUnwritten h.conflicts global_name).
        let is = described_at h.conflicts q met.conflict.b met.conflict.second in
        unwritten is.0 met.conflict.b is.1 (subst (λ n. Writes n met.conflict.b) test.0 writes))
        (listed.global met.conflict.a met.conflict.first test.1))
        uses
      where
        by : LockMeetsNone h running (numbered h (lock met.name ReadWrite)) q → (mode : LockMode) → LockIsListed running (numbered h (lock met.name mode)) p → ⊥
        by none Read has = none.readers refl p has met
        by none ReadWrite has = none.writers p has met

    listed_meets_none : ⊥
    listed_meets_none = ⊎_elim {C = ⊥}
        (λ (one : Writes met.name met.conflict.a × Uses h.conflicts met.name met.conflict.b). first_writes one.0 one.1)
        (λ (two : Writes met.name met.conflict.b × Uses h.conflicts met.name met.conflict.a). second_writes two.0 two.1)
        met.conflict.over.one_writes

  pub meets_none : AreListed h q running → MeetsNone h q
  meets_none listed p order met =
      let stands = listed.each p order met.running in
      listed_meets_none stands.at stands.listed (record {
        running = stands.as_long q (start_within h q met.starts) met.running;
        starts = met.starts;
        name = met.name;
        conflict = at_key h.conflicts met.name p q stands.at stands.same met.conflict;
      })

-- ---- what stands in the lists

pub keeps_all : (h : Holders) (q : ℕ) (running : Running) → Keeps h q running running
keeps_all h q running = record { writers = λ n p le has. has; readers = λ n p le has. has; lists = λ n have. have }

pub keeps_trans : (h : Holders) (q : ℕ) (a b c : Running) → Keeps h q a b → Keeps h q b c → Keeps h q a c
keeps_trans h q a b c first second = record {
  writers = λ n p lt has. second.writers n p lt (first.writers n p lt has);
  readers = λ n p lt has. second.readers n p lt (first.readers n p lt has);
  lists = λ n have. second.lists n (first.lists n have);
}

-- what stands under the number of a lock stays there
pub listed_kept : (h : Holders) (q : ℕ) (old new : Running) → Keeps h q old new → (k : NumberedLock) (p : ℕ) → q < end_of h p → LockIsListed old k p → LockIsListed new k p
listed_kept h q old new keeps k p lt = by k.mode
  where
    by : (mode : LockMode) → IsListedAs mode (get_or old.writers k.number []) (get_or old.readers k.number []) p → IsListedAs mode (get_or new.writers k.number []) (get_or new.readers k.number []) p
    by Read has = keeps.readers _ p lt has
    by ReadWrite has = keeps.writers _ p lt has

is_kept : (h : Holders) (q : ℕ) (old new : Running) → Keeps h q old new → (p : ℕ) → q < end_of h p → IsListed h old p → IsListed h new p
is_kept h q old new keeps p lt is = record {
  locks = λ k has. listed_kept h q old new keeps k p lt (is.locks k has);
  global = λ d at test. ⊎_elim {C = Contains (under_global h new.readers) p ⊎ IsUnwritten h.conflicts global_name}
      (λ (there : Contains (under_global h old.readers) p). inl (keeps.readers _ p lt there))
      (λ (unwritten : IsUnwritten h.conflicts global_name). inr unwritten)
      (is.global d at test);
}

-- what stands in the lists, and has not ended, stands there still
stands_still : (h : Holders) (q : ℕ) (old new : Running) → Keeps h q old new → (p : ℕ) → q < length h.ends.items → q < end_of h p → Stands h old p → Stands h new p
stands_still h q old new keeps p within running stands = record {
  at = stands.at;
  not_after = stands.not_after;
  same = stands.same;
  as_long = stands.as_long;
  listed = is_kept h q old new keeps stands.at (stands.as_long q within running) stands.listed;
}

-- one start more
pub listed_more : (h : Holders) (q : ℕ) (old new : Running) → AreListed h q old → Keeps h q old new → q < length h.ends.items → (q < end_of h q → Stands h new q) → AreListed h (q + 1) new
listed_more h q old new are keeps within own = record {
  lists = λ n le. keeps.lists n (are.lists n le);
  each = λ p lt running. ⊎_elim {C = Stands h new p}
      (λ (before : p < q). stands_still h q old new keeps p within (omega arith) (are.each p before (omega arith)))
      (λ (from : q ≤ p). let same : q ≡ p = omega arith in subst (Stands h new) same (own (subst (λ n. q < end_of h n) (sym same) (omega arith))))
      (cases_lt p q);
}

itself : (h : Holders) (running : Running) (p : ℕ) → IsListed h running p → Stands h running p
itself h running p listed = record { at = p; not_after = omega arith; same = refl; as_long = λ i within lt. lt; listed = listed }

-- a start of no execution
pub listed_past : (h : Holders) (q : ℕ) (running : Running) → AreListed h q running → q < length h.ends.items → end_of h q ≡ 0 → AreListed h (q + 1) running
listed_past h q running are within none = listed_more h q running running are (keeps_all h q running) within (λ lt. absurd (omega arith))

-- ---- a key that starts again, and of which an execution lasts to the end

module _ (h : Holders) (q : ℕ) (within : q < length h.ends.items) (again : Repeats h q) where
  pub again_meets_none : ((j : ℕ) → j < q → MeetsNone h j) → MeetsNone h q
  again_meets_none before p order met =
      let at = again.at in
      let sooner = again.sooner in
      let lasts = again.lasts in
      let running = met.running in
      let there : ConflictAt h.conflicts met.name at p =
      at_key h.conflicts met.name q p at again.of_key (at_swap h.conflicts met.name p q met.conflict) in
      ⊎_elim {C = ⊥}
      (λ (same : p ≡ at). not_itself h.conflicts met.name p q met.conflict
      (ap (descriptor_at h.conflicts) same ∙ ap (option_and_then (desc h.conflicts)) again.of_key))
      (λ (apart : (p < at) ⊎ (at < p)). ⊎_elim {C = ⊥}
      (λ (first : p < at). before at sooner p first (record {
        running = omega arith;
        starts = omega arith;
        name = met.name;
        conflict = at_swap h.conflicts met.name at p there;
      }))
      (λ (later : at < p). before p order at later (record {
        running = omega arith;
        starts = omega arith;
        name = met.name;
        conflict = there;
      }))
      apart)
      (cases_order p at)

  pub again_listed : (running : Running) → AreListed h q running → AreListed h (q + 1) running
  again_listed running are =
      let lasts = again.lasts in
      listed_more h q running running are (keeps_all h q running) within (λ lt.
      let stands = are.each again.at again.sooner (omega arith) in
      let not_after = stands.not_after in
      let sooner = again.sooner in
      record {
        at = stands.at;
        not_after = omega arith;
        same = stands.same ∙ again.of_key;
        as_long = λ i inside _. stands.as_long i inside (omega arith);
        listed = stands.listed;
      })

-- of the same keys an execution lasts to the end
pub lasting_more : {S : Type 0} (h : Holders) (q : ℕ) (keys : IndexSet ℕ S) → AreLasting h q keys → AreLasting h (q + 1) keys
lasting_more h q keys are key has =
    let it = are key has in
    let sooner = it.sooner in
    record { at = it.at; sooner = omega arith; of_key = it.of_key; lasts = it.lasts }

-- an execution that isn't there meets none
pub no_start : (h : Holders) (q : ℕ) → end_of h q ≡ 0 → MeetsNone h q
no_start h q none p order met = let some = met.starts in omega arith

pub listed_first : (h : Holders) (running : Running) → HaveAllLists h running → AreListed h 0 running
listed_first h running have = record { lists = have; each = λ p lt run. absurd (omega arith) }

-- ---- conflicts at positions

pub no_first : (r : Recorded) (p q : ℕ) → None ≡ descriptor_at r p → (name : List ℕ) → ¬ ConflictAt r name p q
no_first r p q none name c = none-some c.a (none ∙ c.first)

pub no_second : (r : Recorded) (p q : ℕ) → None ≡ descriptor_at r q → (name : List ℕ) → ¬ ConflictAt r name p q
no_second r p q none name c = none-some c.b (none ∙ c.second)

module _ (r : Recorded) (p q : ℕ) (a b : Descriptor) (first : descriptor_at r p ≡ Some a) (second : descriptor_at r q ≡ Some b) where
  over_at : (name : List ℕ) → ConflictOver r name a b → ConflictAt r name p q
  over_at name over = record { a = a; b = b; first = first; second = second; over = over }

  over_from : (name : List ℕ) → ConflictAt r name p q → ConflictOver r name a b
  over_from name c =
      subst (λ (d : Descriptor). ConflictOver r name d b) (same_Some c.a a (sym c.first ∙ first))
      (subst (λ (d : Descriptor). ConflictOver r name c.a d) (same_Some c.b b (sym c.second ∙ second)) c.over)

  -- the least lock of two descriptors is that of their entries
  pub least_at : (o : Option (Bor (List ℕ))) →
      MatchOption o ((name : List ℕ) → ¬ ConflictOver r name a b) (λ name. IsLeastLock r a b name.now) →
      MatchOption o ((name : List ℕ) → ¬ ConflictAt r name p q) (λ name. IsLeastAt r p q name.now)
  least_at None none = λ name c. none name (over_from name c)
  least_at (Some name) found = record {
    over = over_at name.now found.over;
    least = λ other c. found.least other (over_from other c);
  }

-- executions meet where the first still runs, the second is one, and they conflict over some lock
pub meet_is : (h : Holders) (p q : ℕ) (o : Option (Bor (List ℕ))) → q < end_of h p → 0 < end_of h q →
    MatchOption o ((name : List ℕ) → ¬ ConflictAt h.conflicts name p q) (λ name. IsLeastAt h.conflicts p q name.now) →
    IsTrue (is_some o) ↔ Meet h p q
meet_is h p q None running starts none = (λ yes. absurd (false≢true yes), λ met. absurd (none met.name met.conflict))
meet_is h p q (Some name) running starts found = (
  λ yes. record { running = running; starts = starts; name = name.now; conflict = found.over },
  λ met. refl,
)

-- ---- the locks of one execution

-- what holds of the first elements, and of one more
pub one_more : {A : Type 0} (P : A → Type 0) (xs : List A) (count : ℕ) (d : A) → count < length xs → ((i : ℕ) (e : A) → i < count → P (get_or xs i e)) → P (get_or xs count d) →
    (i : ℕ) (e : A) → i < count + 1 → P (get_or xs i e)
one_more P xs count d within each own = each_more P xs count (get_or xs count d) (get_or_default xs count d (get_or xs count d) within) within each own

-- the execution that starts at q stands under the first of its locks
pub record AreTaken (h : Holders) (q : ℕ) (first running : Running) (locks : List NumberedLock) (count : ℕ) : Type 0 where
  pub keeps : Keeps h q first running
  pub each : q < end_of h q → (i : ℕ) (d : NumberedLock) → i < count → LockIsListed running (get_or locks i d) q

pub none_taken : (h : Holders) (q : ℕ) (running : Running) (locks : List NumberedLock) → AreTaken h q running running locks 0
none_taken h q running locks = record { keeps = keeps_all h q running; each = λ open_there i d lt. absurd (omega arith) }

pub one_taken : (h : Holders) (q : ℕ) (first old new : Running) (locks : List NumberedLock) (count : ℕ) (d : NumberedLock) → AreTaken h q first old locks count →
    Keeps h q old new → LockIsListed new (get_or locks count d) q → count < length locks → AreTaken h q first new locks (count + 1)
one_taken h q first old new locks count d taken keeps own within = record {
  keeps = keeps_trans h q first old new taken.keeps keeps;
  each = λ open_there. one_more (λ (x : NumberedLock). LockIsListed new x q) locks count d within
      (λ i e lt. listed_kept h q old new keeps (get_or locks i e) q open_there (taken.each open_there i e lt)) own;
}

-- the execution that starts at q stands in the lists of what it uses
pub all_taken : (h : Holders) (q : ℕ) (first old new : Running) (count : ℕ) →
    AreListed h q first → q < length h.ends.items → AreTaken h q first old (locks_at h q) count → length (locks_at h q) ≤ count →
    Keeps h q old new → ((d : Descriptor) → descriptor_at h.conflicts q ≡ Some d → IsTestWithoutChild h.conflicts d → Contains (under_global h new.readers) q ⊎ IsUnwritten h.conflicts global_name) →
    AreListed h (q + 1) new
all_taken h q first old new count are within taken all keeps global =
    listed_more h q first new are (keeps_trans h q first old new taken.keeps keeps) within
    (λ open_there. itself h new q (record {
      locks = λ k has. listed_kept h q old new keeps k q open_there
          (at_place (λ (x : NumberedLock). LockIsListed old x q) (locks_at h q) k
          (λ i x lt. taken.each open_there i x (omega arith)) has);
      global = global;
    }))

abbrev is_write : LockMode → Bool
is_write Read = false
is_write ReadWrite = true

pub read_not_write : Read ≡ ReadWrite → ⊥
read_not_write e = false≢true (ap is_write e)

-- ---- the first that meet

pub on_ok_both : {X E A B C : Type 0} (o : Result X E) → OnOk o A → OnOk o B → (A → B → C) → OnOk o C
on_ok_both (Ok x) a b f = f a b
on_ok_both (Err e) a b f = a

pub no_end : (n : ℕ) → ¬ (0 < n) → n ≡ 0
no_end zero none = refl
no_end (suc n) none = absurd (none (omega arith))

-- one position more at which none is met
pub none_more : (h : Holders) (q : ℕ) → ((j : ℕ) → j < q → MeetsNone h j) → MeetsNone h q → (j : ℕ) → j < q + 1 → MeetsNone h j
none_more h q before own j lt = ⊎_elim {C = MeetsNone h j}
    (λ (lower : j < q). before j lower)
    (λ (from : q ≤ j). let same : q ≡ j = omega arith in subst (MeetsNone h) same own)
    (cases_lt j q)

pub none_met : (h : Holders) (q : ℕ) (o : Option ℕ) → o ≡ None → MatchOption o (MeetsNone h q) (IsFirstMet h q) → MeetsNone h q
none_met h q (Some p) is met = absurd (none-some p (sym is))
none_met h q None is none = none

-- past the end no execution starts
pub none_past : (h : Holders) (count : ℕ) → length h.ends.items ≤ count → ((j : ℕ) → j < count → MeetsNone h j) → (q : ℕ) → MeetsNone h q
none_past h count all before q = ⊎_elim {C = MeetsNone h q}
    (λ (lower : q < count). before q lower)
    (λ (from : count ≤ q). no_start h q (get_or_past h.ends.items q 0 (omega arith)))
    (cases_lt q count)

-- executions that meet conflict over some lock
pub never_least : (h : Holders) (p q : ℕ) (o : Option (Bor (List ℕ))) → o ≡ None →
    MatchOption o ((name : List ℕ) → ¬ ConflictAt h.conflicts name p q) (λ name. IsLeastAt h.conflicts p q name.now) →
    IsFirstMeeting h (p, q) → ⊥
never_least h p q (Some name) is found first = none-some name (sym is)
never_least h p q None is none first = none first.met.met.name first.met.met.conflict
