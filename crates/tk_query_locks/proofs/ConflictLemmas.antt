-- Whether two descriptors conflict over a lock.
use Rattle.std.proofs.Common.{◌≡◌, ℕ, ◌+◌, ◌<◌, ◌≤◌, arith, Bool, true, false, inl, inr, ⊎_elim, List, length, get_or, Option, Some, None, Bor, refl, sym, ap, ◌∙◌, subst, ◌⊎◌}
use Rattle.std.specs.Prelude.{◌↔◌, IsTrue, IfSome, MatchOption}
use Rattle.std.specs.List.{Contains}
use Rattle.std.proofs.lemmas.Bool.{cases_lt, true≢false}
use Rattle.std.specs.Option.{option_and_then}
use Rattle.std.proofs.lemmas.List.{get_or_default}
use Rattle.std.proofs.lemmas.Option.{same_Some}
use Rattle.tk_record.specs.Entries.{desc}
use Rattle.tk_ids.specs.declared.descriptors.Descriptor.{Descriptor}
use Rattle.tk_record.specs.Recorded.{Recorded}
use Rattle.tk_ids.specs.declared.locks.LockMode.TheVariants.{ReadWrite}
use Rattle.tk_ids.specs.declared.locks.Lock.{Lock}
use Rattle.tk_query_locks.specs.Conflicts.{AreApart, ConflictAt, ConflictOver, Holds, IsTestWithoutChild, Uses, Writes, descriptor_at, global_name, key_at, lock}
use Rattle.tk_query_locks.specs.steps.Conflicts.{IsAtMost, IsDescribed, IsLeastLock}
use Rattle.tk_query_locks.specs.steps.Parents.{IsUnwritten}
use Rattle.tk_query_locks.proofs.DescentLemmas.{apart_swap, not_apart_itself}

-- what is used beside a writer is told
pub used_told : (r : Recorded) (name : List ℕ) (writer other : Descriptor) (told : Bool) → IsDescribed r writer → Writes name writer →
    (told ≡ false → Uses r name other → IsUnwritten r name) → Uses r name other → told ≡ true
used_told r name writer other true is writes never uses = refl
used_told r name writer other false is writes never uses =
    absurd (never refl uses is.0 writer is.1 writes)

module _ (r : Recorded) (name : List ℕ) (a b : Descriptor) where
  -- one holds the lock for writing, and the other uses it
  pub conflict_from : AreApart a.id b.id → Writes name a → Uses r name b → ConflictOver r name a b
  conflict_from apart writes uses = record { apart = apart; one_writes = inl (writes, uses) }

  pub conflict_back : AreApart a.id b.id → Writes name b → Uses r name a → ConflictOver r name a b
  conflict_back apart writes uses = record { apart = apart; one_writes = inr (writes, uses) }

  pub first_or_second : (first second : Bool) → (IsTrue first ↔ (Writes name a × Uses r name b)) → (IsTrue second ↔ (Writes name b × Uses r name a)) →
      first ≡ false → ConflictOver r name a b → second ≡ true
  first_or_second first second one two none over = ⊎_elim {C = second ≡ true}
      (λ (is : Writes name a × Uses r name b). absurd (true≢false (sym (one.1 is) ∙ none)))
      (λ (is : Writes name b × Uses r name a). two.1 is)
      over.one_writes

over_swap : (r : Recorded) (name : List ℕ) (a b : Descriptor) → ConflictOver r name a b → ConflictOver r name b a
over_swap r name a b over = record {
  apart = apart_swap a.id b.id over.apart;
  one_writes = ⊎_elim {C = (Writes name b × Uses r name a) ⊎ (Writes name a × Uses r name b)}
      (λ (one : Writes name a × Uses r name b). inr one)
      (λ (two : Writes name b × Uses r name a). inl two)
      over.one_writes;
}

pub at_swap : (r : Recorded) (name : List ℕ) (p q : ℕ) → ConflictAt r name p q → ConflictAt r name q p
at_swap r name p q c = record { a = c.b; b = c.a; first = c.second; second = c.first; over = over_swap r name c.a c.b c.over }

-- another entry of the key conflicts too
pub at_key : (r : Recorded) (name : List ℕ) (p q other : ℕ) → key_at r other ≡ key_at r p → ConflictAt r name p q → ConflictAt r name other q
at_key r name p q other same c = record { a = c.a; b = c.b; first = ap (option_and_then (desc r)) same ∙ c.first; second = c.second; over = c.over }

-- entries of one descriptor don't conflict
pub not_itself : (r : Recorded) (name : List ℕ) (p q : ℕ) → ConflictAt r name p q → descriptor_at r p ≡ descriptor_at r q → ⊥
not_itself r name p q c same =
    not_apart_itself c.a.id c.b.id
    (ap (λ (d : Descriptor). d.id) (same_Some c.a c.b (sym c.first ∙ same ∙ c.second))) c.over.apart

-- ---- the least lock

-- a place in a list where something stands
pub at_place : {A : Type 0} (P : A → Type 0) (xs : List A) (x : A) → ((i : ℕ) (d : A) → i < length xs → P (get_or xs i d)) → Contains xs x → P x
at_place P xs x each has = subst P has.2 (each has.0 x has.1)

module _ (r : Recorded) (a b : Descriptor) (least : Option (Bor (List ℕ)))
    (each : (k : Lock) → Contains a.locks k → ConflictOver r k.name a b → IsAtMost least k.name)
    (global : ConflictOver r global_name a b → IsAtMost least global_name) where
  at_most_all : (name : List ℕ) → ConflictOver r name a b → IsAtMost least name
  at_most_all name over = ⊎_elim {C = IsAtMost least name}
      (λ (one : Writes name a × Uses r name b). each (lock name ReadWrite) one.0 over)
      (λ (two : Writes name b × Uses r name a). ⊎_elim {C = IsAtMost least name}
      (λ (holds : Holds name a). each (lock name holds.0) holds.1 over)
      (λ (test : (name ≡ global_name) × IsTestWithoutChild r a).
      subst (IsAtMost least) (sym test.0) (global (subst (λ n. ConflictOver r n a b) test.0 over)))
      two.1)
      over.one_writes

  pub least_found : IfSome least (λ l. ConflictOver r l.now a b) → MatchOption least ((name : List ℕ) → ¬ ConflictOver r name a b) (λ name. IsLeastLock r a b name.now)
  least_found over = by least over at_most_all
    where
      by : (o : Option (Bor (List ℕ))) → IfSome o (λ l. ConflictOver r l.now a b) → ((name : List ℕ) → ConflictOver r name a b → IsAtMost o name) →
          MatchOption o ((name : List ℕ) → ¬ ConflictOver r name a b) (λ name. IsLeastLock r a b name.now)
      by None over all = λ name conflict. all name conflict
      by (Some l) over all = record { over = over; least = all }

-- one place more
pub each_more :
    {A : Type 0} (P : A → Type 0) (xs : List A) (count : ℕ) (x : A) →
    x ≡ get_or xs count x → count < length xs →
    ((i : ℕ) (d : A) → i < count → P (get_or xs i d)) → P x →
    (i : ℕ) (d : A) → i < count + 1 → P (get_or xs i d)
each_more P xs count x is within each own i d lt = ⊎_elim {C = P (get_or xs i d)}
    (λ (before : i < count). each i d before)
    (λ (from : count ≤ i).
    let same : count ≡ i = omega arith in
    subst (λ n. P (get_or xs n d)) same (subst P (is ∙ get_or_default xs count x d within) own))
    (cases_lt i count)
