-- Names of locks that descriptors hold, and those that a second one holds.
use Rattle.std.proofs.Common.{◌≡◌, ℕ, zero, suc, ◌+◌, ◌<◌, ◌≤◌, ◌⊎◌, inl, inr, ⊎_elim, Bool, true, false, cond, List, [], ◌∷◌, ◌++◌, length, get_or, Some, None, refl, sym, ap, ◌∙◌, subst, arith}
use Rattle.std.specs.Prelude.{bytes_eq, if◌then◌else◌, nat_eq, nat_lt, unwrap_or}
use Rattle.std.specs.Cmp.Lexicographic.{pointwise}
use Rattle.std.specs.List.{Contains, position, position_or_len}
use Rattle.indexmap.specs.IndexSet.{index_of_by, index_set_len}
use Rattle.std.proofs.lemmas.Bool.{cases_lt, cases_order, ltb-true}
use Rattle.std.proofs.lemmas.List.{length-append}
use Rattle.std.proofs.lemmas.Option.{same_Some}
use Rattle.tk_ids.specs.declared.descriptors.Descriptor.{Descriptor}
use Rattle.tk_ids.specs.declared.locks.Lock.{Lock}
use Rattle.tk_ids.specs.declared.locks.LockMode.TheVariants.{ReadWrite}
use Rattle.tk_record.specs.Entries.{desc}
use Rattle.tk_record.specs.Record.{IsRecord}
use Rattle.tk_record.specs.Recorded.{Recorded}
use Rattle.tk_query_locks.specs.Conflicts.{ConflictOver, Holds, IsTestWithoutChild, Uses, Writes, global_name}
use Rattle.tk_query_locks.specs.declared.lock_numbers.LockNumbers.{LockNumbers}
use Rattle.tk_query_locks.specs.steps.LockNumbers.{AddsLocks, AddsName, AreNumbered, AreNumberedOf, AreShared, IsHeld, IsNumbered, IsSharedName, IsUnshared, number_of, numbers_bound}
use Rattle.tk_query_locks.specs.declared.lock_numbers.NumberedLock.{NumberedLock}
use Rattle.tk_query_locks.proofs.ConflictLemmas.{at_place, each_more}
use Rattle.tk_query_locks.proofs.DescentLemmas.{not_apart_itself}
use Rattle.tk_query_locks.proofs.ParentLemmas.{lock_within}

-- ---- the locks of one descriptor

-- the first of the locks are added
pub record AreAdded (old new : LockNumbers) (locks : List Lock) (count : ℕ) : Type 0 where
  pub held : (i : ℕ) (d : Lock) → i < count → IsHeld new (get_or locks i d).name
  pub shared : (i : ℕ) (d : Lock) → i < count → IsHeld old (get_or locks i d).name → IsSharedName new (get_or locks i d).name
  pub keeps_held : (t : List ℕ) → IsHeld old t → IsHeld new t
  pub keeps_shared : (t : List ℕ) → IsSharedName old t → IsSharedName new t

pub none_added : (n : LockNumbers) (locks : List Lock) → AreAdded n n locks 0
none_added n locks = record {
  held = λ i d lt. absurd (omega arith);
  shared = λ i d lt. absurd (omega arith);
  keeps_held = λ t has. has;
  keeps_shared = λ t has. has;
}

pub one_added :
    (first old new : LockNumbers) (locks : List Lock) (count : ℕ) (k : Lock) →
    AreAdded first old locks count → AddsName k.name old new → k ≡ get_or locks count k → count < length locks →
    AreAdded first new locks (count + 1)
one_added first old new locks count k are adds is within = record {
  held = each_more (λ (x : Lock). IsHeld new x.name) locks count k is within
      (λ i d lt. adds.keeps_held _ (are.held i d lt)) adds.held;
  shared = each_more (λ (x : Lock). IsHeld first x.name → IsSharedName new x.name) locks count k is within
      (λ i d lt has. adds.keeps_shared _ (are.shared i d lt has))
      (λ has. adds.shared (are.keeps_held k.name has));
  keeps_held = λ t has. adds.keeps_held t (are.keeps_held t has);
  keeps_shared = λ t has. adds.keeps_shared t (are.keeps_shared t has);
}

pub all_added : (d : Descriptor) (old new : LockNumbers) (count : ℕ) → AreAdded old new d.locks count → length d.locks ≤ count → AddsLocks d old new
all_added d old new count are all = record {
  held = λ name holds. at_place (λ (x : Lock). IsHeld new x.name) d.locks _ (λ i x lt. are.held i x (omega arith)) holds.1;
  shared = λ name holds. at_place (λ (x : Lock). IsHeld old x.name → IsSharedName new x.name) d.locks _
      (λ i x lt. are.shared i x (omega arith)) holds.1;
  keeps_held = are.keeps_held;
  keeps_shared = are.keeps_shared;
}

-- ---- the locks of all descriptors

-- the locks of the static descriptors before a key are added
pub record AreNoted (r : Recorded) (n : LockNumbers) (count : ℕ) : Type 0 where
  pub held : (key : ℕ) (d : Descriptor) → key < count → desc r key ≡ Some d → (name : List ℕ) → Holds name d → IsHeld n name
  pub shared : (key other : ℕ) (d e : Descriptor) → key < other → other < count → desc r key ≡ Some d → desc r other ≡ Some e →
      (name : List ℕ) → Holds name d → Holds name e → IsSharedName n name

pub none_noted : (r : Recorded) (n : LockNumbers) → AreNoted r n 0
none_noted r n = record {
  held = λ key d lt. absurd (omega arith);
  shared = λ key other d e order lt. absurd (omega arith);
}

pub one_noted : (r : Recorded) (old new : LockNumbers) (count : ℕ) (x : Descriptor) → AreNoted r old count → desc r count ≡ Some x → AddsLocks x old new → AreNoted r new (count + 1)
one_noted r old new count x are is adds = record {
  held = λ key d lt at name holds. ⊎_elim {C = IsHeld new name}
      (λ (before : key < count). adds.keeps_held name (are.held key d before at name holds))
      (λ (from : count ≤ key). let same : key ≡ count = omega arith in
      adds.held name (subst (Holds name) (same_Some d x (sym at ∙ ap (desc r) same ∙ is)) holds))
      (cases_lt key count);
  shared = λ key other d e order lt at beside name holds too. ⊎_elim {C = IsSharedName new name}
      (λ (before : other < count). adds.keeps_shared name (are.shared key other d e order before at beside name holds too))
      (λ (from : count ≤ other). let same : other ≡ count = omega arith in
      adds.shared name (subst (Holds name) (same_Some e x (sym beside ∙ ap (desc r) same ∙ is)) too)
      (are.held key d (omega arith) at name holds))
      (cases_lt other count);
}

pub no_more : (r : Recorded) (n : LockNumbers) (count : ℕ) → AreNoted r n count → ((d : Descriptor) → desc r count ≡ Some d → ⊥) → AreNoted r n (count + 1)
no_more r n count are none = record {
  held = λ key d lt at. ⊎_elim {C = (name : List ℕ) → Holds name d → IsHeld n name}
      (λ (before : key < count). are.held key d before at)
      (λ (from : count ≤ key). let same : key ≡ count = omega arith in absurd (none d (ap (desc r) (sym same) ∙ at)))
      (cases_lt key count);
  shared = λ key other d e order lt at beside. ⊎_elim {C = (name : List ℕ) → Holds name d → Holds name e → IsSharedName n name}
      (λ (before : other < count). are.shared key other d e order before at beside)
      (λ (from : count ≤ other). let same : other ≡ count = omega arith in absurd (none e (ap (desc r) (sym same) ∙ beside)))
      (cases_lt other count);
}

pub shared_all : (r : Recorded) (n : LockNumbers) (count : ℕ) → IsRecord r → length r.table ≤ count → AreNoted r n count → AreShared r n
shared_all r n count is all are = record { none = apart }
  where
    within : (key : ℕ) (d : Descriptor) (name : List ℕ) → desc r key ≡ Some d → Holds name d → key < count
    within key d name at holds = let lt = lock_within r key d is at holds.1 in omega arith

    both : (key other : ℕ) (d e : Descriptor) → desc r key ≡ Some d → desc r other ≡ Some e → (name : List ℕ) → IsUnshared n name → ConflictOver r name d e → Holds name d → Holds name e → ⊥
    both key other d e at beside name unshared over holds too = ⊎_elim {C = ⊥}
        (λ (same : key ≡ other). not_apart_itself d.id e.id
        (ap (λ (x : Descriptor). x.id) (same_Some d e (sym at ∙ ap (desc r) same ∙ beside))) over.apart)
        (λ (order : (key < other) ⊎ (other < key)). ⊎_elim {C = ⊥}
        (λ (first : key < other). unshared.alone (are.shared key other d e first (within other e name beside too) at beside name holds too))
        (λ (second : other < key). unshared.alone (are.shared other key e d second (within key d name at holds) beside at name too holds))
        order)
        (cases_order key other)

    held : (name : List ℕ) (d : Descriptor) → IsUnshared n name → Uses r name d → Holds name d
    held name d unshared uses = ⊎_elim {C = Holds name d}
        (λ (holds : Holds name d). holds)
        (λ (test : (name ≡ global_name) × IsTestWithoutChild r d). absurd (unshared.other test.0))
        uses

    apart : (key other : ℕ) (d e : Descriptor) → desc r key ≡ Some d → desc r other ≡ Some e → (name : List ℕ) → IsUnshared n name → ¬ ConflictOver r name d e
    apart key other d e at beside name unshared over = ⊎_elim {C = ⊥}
        (λ (one : Writes name d × Uses r name e). both key other d e at beside name unshared over (ReadWrite, one.0) (held name e unshared one.1))
        (λ (two : Writes name e × Uses r name d). both key other d e at beside name unshared over (held name d unshared two.1) (ReadWrite, two.0))
        over.one_writes

-- ---- numbers

-- `global` has the greatest number
pub global_number : (n : LockNumbers) → number_of n global_name ≡ numbers_bound n
unfolding number_of
global_number n = refl

position_within : {A : Type 0} (test : A → Bool) (xs : List A) → unwrap_or (position test xs) (length xs) ≤ length xs
position_within test xs = by (nat_lt (position_or_len test xs) (length xs)) refl
  where
    by : (b : Bool) → nat_lt (position_or_len test xs) (length xs) ≡ b → unwrap_or (cond b (Some (position_or_len test xs)) None) (length xs) ≤ length xs
    by true below = let lt = ltb-true (position_or_len test xs) (length xs) below in omega arith
    by false past = omega arith

-- no number is greater
number_least : (n : LockNumbers) (name : List ℕ) → number_of n name ≤ numbers_bound n
unfolding number_of
number_least n name = by (bytes_eq name global_name)
  where
    by : (b : Bool) → (if b then index_set_len n.shared else unwrap_or (index_of_by (pointwise nat_eq name) n.shared) (index_set_len n.shared)) ≤ index_set_len n.shared
    by true = omega arith
    by false = position_within (pointwise nat_eq name) n.shared.keys

-- ---- the numbered locks of one descriptor

-- the first of the locks are numbered
pub record AreNumberedTo (n : LockNumbers) (list : List NumberedLock) (locks : List Lock) (count : ℕ) : Type 0 where
  pub each : (i : ℕ) (d : Lock) → i < count → IsNumbered n list (get_or locks i d)
  pub within : (k : NumberedLock) → Contains list k → k.number ≤ numbers_bound n

pub none_numbered : (n : LockNumbers) (locks : List Lock) → AreNumberedTo n [] locks 0
none_numbered n locks = record {
  each = λ i d lt. absurd (omega arith);
  within = λ k has. absurd (let lt = has.1 in omega arith);
}

-- what stands in a list stands in a longer one
still : {A : Type 0} (xs : List A) (x y : A) → Contains xs y → Contains (xs ++ x ∷ []) y
still [] x y has = absurd (let lt = has.1 in omega arith)
still (z ∷ xs) x y (zero, lt, e) = (0, omega arith, e)
still (z ∷ xs) x y (suc i, lt, e) = let later = still xs x y (i, omega arith, e) in let within = later.1 in (suc later.0, omega arith, later.2)

-- the last one stands in the list
at_end : {A : Type 0} (xs : List A) (x : A) → Contains (xs ++ x ∷ []) x
at_end [] x = (0, omega arith, refl)
at_end (z ∷ xs) x = let later = at_end xs x in let within = later.1 in (suc later.0, omega arith, later.2)

-- what stands in the longer list is the last one, or stood in the list
before_or_last : {A : Type 0} (xs : List A) (x y : A) → Contains (xs ++ x ∷ []) y → Contains xs y ⊎ (x ≡ y)
before_or_last [] x y (zero, lt, e) = inr e
before_or_last [] x y (suc i, lt, e) = absurd (omega arith)
before_or_last (z ∷ xs) x y (zero, lt, e) = inl (0, omega arith, e)
before_or_last (z ∷ xs) x y (suc i, lt, e) = ⊎_elim {C = Contains (z ∷ xs) y ⊎ (x ≡ y)}
    (λ (has : Contains xs y). let within = has.1 in inl (suc has.0, omega arith, has.2))
    (λ (same : x ≡ y). inr same)
    (before_or_last xs x y (i, omega arith, e))

pub one_numbered : (n : LockNumbers) (list : List NumberedLock) (locks : List Lock) (count : ℕ) (k : Lock) (number : ℕ) →
    AreNumberedTo n list locks count → number ≡ number_of n k.name → k ≡ get_or locks count k → count < length locks →
    AreNumberedTo n (list ++ record { number = number; mode = k.mode } ∷ []) locks (count + 1)
one_numbered n list locks count k number are is at within = record {
  each = each_more (λ (x : Lock). IsNumbered n longer x) locks count k at within
      (λ i d lt. stays (get_or locks i d) (are.each i d lt))
      (inl (subst (λ m. Contains longer (record { number = m; mode = k.mode })) is (at_end list last)));
  within = λ x has. ⊎_elim {C = x.number ≤ numbers_bound n}
      (λ (there : Contains list x). are.within x there)
      (λ (same : last ≡ x). subst (λ m. m ≤ numbers_bound n) (sym is ∙ ap (λ (y : NumberedLock). y.number) same) (number_least n k.name))
      (before_or_last list last x has);
}
  where
    last : NumberedLock
    last = record { number = number; mode = k.mode }

    longer : List NumberedLock
    longer = list ++ record { number = number; mode = k.mode } ∷ []

    stays : (x : Lock) → IsNumbered n list x → IsNumbered n longer x
    stays x is = ⊎_elim {C = IsNumbered n longer x}
        (λ (there : Contains list (record { number = number_of n x.name; mode = x.mode })). inl (still list last _ there))
        (λ (unshared : IsUnshared n x.name). inr unshared)
        is

pub none_left_out : (n : LockNumbers) (list : List NumberedLock) (locks : List Lock) (count : ℕ) (k : Lock) →
    AreNumberedTo n list locks count → IsUnshared n k.name → k ≡ get_or locks count k → count < length locks → AreNumberedTo n list locks (count + 1)
none_left_out n list locks count k are unshared at within = record {
  each = each_more (λ (x : Lock). IsNumbered n list x) locks count k at within are.each (inr unshared);
  within = are.within;
}

pub all_numbered : (n : LockNumbers) (list : List NumberedLock) (d : Descriptor) (count : ℕ) → AreNumberedTo n list d.locks count → length d.locks ≤ count → AreNumberedOf n list d
all_numbered n list d count are all = record {
  each = λ k has. at_place (λ (x : Lock). IsNumbered n list x) d.locks k (λ i x lt. are.each i x (omega arith)) has;
  within = are.within;
}

-- ---- the numbered locks of all static descriptors

pub record AreListsTo (r : Recorded) (n : LockNumbers) (lists : List (List NumberedLock)) (count : ℕ) : Type 0 where
  pub size : length lists ≡ count
  pub each : (key : ℕ) (d : Descriptor) → key < count → desc r key ≡ Some d → (k : Lock) → Contains d.locks k → IsNumbered n (get_or lists key []) k
  pub within : (key : ℕ) (k : NumberedLock) → Contains (get_or lists key []) k → k.number ≤ numbers_bound n

pub no_lists : (r : Recorded) (n : LockNumbers) → AreListsTo r n [] 0
no_lists r n = record {
  size = refl;
  each = λ key d lt. absurd (omega arith);
  within = λ key k has. absurd (let lt = has.1 in omega arith);
}

pushed_before : {A : Type 0} (xs : List (List A)) (x : List A) (i : ℕ) → i < length xs → get_or (xs ++ x ∷ []) i [] ≡ get_or xs i []
pushed_before [] x i lt = absurd (omega arith)
pushed_before (y ∷ xs) x zero lt = refl
pushed_before (y ∷ xs) x (suc i) lt = pushed_before xs x i (omega arith)

pushed_at : {A : Type 0} (xs : List (List A)) (x : List A) → get_or (xs ++ x ∷ []) (length xs) [] ≡ x
pushed_at [] x = refl
pushed_at (y ∷ xs) x = pushed_at xs x

pushed_past : {A : Type 0} (xs : List (List A)) (x : List A) (i : ℕ) → length xs < i → get_or (xs ++ x ∷ []) i [] ≡ []
pushed_past [] x zero lt = absurd (omega arith)
pushed_past [] x (suc i) lt = refl
pushed_past (y ∷ xs) x zero lt = absurd (omega arith)
pushed_past (y ∷ xs) x (suc i) lt = pushed_past xs x i (omega arith)

pub one_list : (r : Recorded) (n : LockNumbers) (lists : List (List NumberedLock)) (count : ℕ) (list : List NumberedLock) → AreListsTo r n lists count →
    ((d : Descriptor) → desc r count ≡ Some d → (k : Lock) → Contains d.locks k → IsNumbered n list k) →
    ((k : NumberedLock) → Contains list k → k.number ≤ numbers_bound n) → AreListsTo r n (lists ++ list ∷ []) (count + 1)
one_list r n lists count list are own bound = record {
  size = let size = are.size in let longer = length-append lists (list ∷ []) in omega arith;
  each = λ key d lt at k has. ⊎_elim {C = IsNumbered n (get_or (lists ++ list ∷ []) key []) k}
      (λ (before : key < count). subst (λ (l : List NumberedLock). IsNumbered n l k) (sym (pushed_before lists list key (let size = are.size in omega arith))) (are.each key d before at k has))
      (λ (from : count ≤ key). let same : key ≡ count = omega arith in
      subst (λ (l : List NumberedLock). IsNumbered n l k) (sym (here key same)) (own d (ap (desc r) (sym same) ∙ at) k has))
      (cases_lt key count);
  within = λ key k has. ⊎_elim {C = k.number ≤ numbers_bound n}
      (λ (before : key < count). are.within key k (subst (λ (l : List NumberedLock). Contains l k) (pushed_before lists list key (let size = are.size in omega arith)) has))
      (λ (from : count ≤ key). ⊎_elim {C = k.number ≤ numbers_bound n}
      (λ (past : count < key). absurd (let none = subst (λ (l : List NumberedLock). Contains l k) (pushed_past lists list key (let size = are.size in omega arith)) has in let lt = none.1 in omega arith))
      (λ (le : key ≤ count). let same : key ≡ count = omega arith in bound k (subst (λ (l : List NumberedLock). Contains l k) (here key same) has))
      (cases_lt count key))
      (cases_lt key count);
}
  where
    here : (key : ℕ) → key ≡ count → get_or (lists ++ list ∷ []) key [] ≡ list
    here key same = ap (λ i. get_or (lists ++ list ∷ []) i []) (same ∙ sym are.size) ∙ pushed_at lists list

pub all_lists : (r : Recorded) (n : LockNumbers) (lists : List (List NumberedLock)) (count : ℕ) → IsRecord r → length r.table ≤ count → AreListsTo r n lists count → AreNumbered r n lists
all_lists r n lists count is all are = record {
  each = λ key d at k has. are.each key d (let lt = lock_within r key d is at has in omega arith) at k has;
  within = are.within;
}
