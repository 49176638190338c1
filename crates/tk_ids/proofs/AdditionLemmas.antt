-- Adding and inserting descriptors have one answer.
use Rattle.std.proofs.Common.{◌≡◌, ◌≢◌, ℕ, ◌<◌, List, [], ◌∷◌, ◌++◌, length, Option, Some, None, refl, sym, ap, ◌∙◌, subst, arith, Result, Ok, Err}
use Rattle.std.proofs.lemmas.Option.{same_Some, none-some}
use Rattle.tk_ids.specs.declared.id_faults.IdFault.TheVariants as id_faults
use Rattle.tk_ids.specs.declared.tables.TheConstants.{MAX_DESCRIPTORS}
use Rattle.tk_ids.specs.declared.descriptors.DType.{DType}
use Rattle.tk_ids.specs.declared.descriptors.Descriptor.{Descriptor}
use Rattle.tk_ids.specs.declared.tables.TableFault.{TableFault}
use Rattle.tk_ids.specs.declared.tables.TableFault.TheVariants.{NoParent, Twice, Full, Id, Memory}
use Rattle.tk_ids.specs.IdText.{SegmentView, FitsLimits}
use Rattle.tk_ids.specs.Table.{HasId, child_id, unlocked, addition, IsAddedAs, IsInsertedAs}
use Rattle.tk_ids.specs.Laws.{AdditionIsUnique, InsertionIsUnique}

not_full : (old : List Descriptor) → length old < MAX_DESCRIPTORS → length old ≡ MAX_DESCRIPTORS → ⊥
not_full old lt is = omega (arith, lt, is)

module _ (old new other : List Descriptor) (parent : Option ℕ) (segment : SegmentView) (name : List ℕ) (dtype : DType) where
  abbrev Left : Result ℕ TableFault → Type 0
  Left r = IsAddedAs old new (addition parent segment name dtype) r

  abbrev Right : Result ℕ TableFault → Type 0
  Right r = IsAddedAs old other (addition parent segment name dtype) r

  abbrev Same : Result ℕ TableFault → Result ℕ TableFault → Type 0
  Same a b = (a ≡ b) × (new ≡ other)

  -- an id that is made here
  abbrev Made : List SegmentView → Type 0
  Made id = child_id old parent segment ≡ Some id

  one_id : (x y : List SegmentView) → Made x → Made y → x ≡ y
  one_id x y a b = same_Some x y (sym a ∙ b)

  no_id : (x : List SegmentView) → Made x → child_id old parent segment ≡ None → ⊥
  no_id x a b = none-some x (sym b ∙ a)

  added : (a b : Result ℕ TableFault) → Left a → Right b → a ≢ Err Memory → b ≢ Err Memory → Same a b
  added (Err Memory) b h k na nb = absurd (na refl)
  added a (Err Memory) h k na nb = absurd (nb refl)
  added (Ok m) (Ok n) h k na nb = (ap Ok (h.5 ∙ sym k.5), h.6 ∙ ap (λ id. old ++ unlocked id name dtype ∷ []) (one_id h.0 k.0 h.1 k.1) ∙ sym k.6)
  added (Ok m) (Err NoParent) h k na nb = absurd (no_id h.0 h.1 k.0)
  added (Ok m) (Err Twice) h k na nb = absurd (h.3 (subst (HasId old) (one_id k.0 h.0 k.1 h.1) k.2))
  added (Ok m) (Err Full) h k na nb = absurd (not_full old h.4 k.3)
  added (Ok m) (Err (Id id_faults.TooLong)) h k na nb = absurd (k.3 (subst FitsLimits (one_id h.0 k.0 h.1 k.1) h.2))
  added (Ok m) (Err (Id id_faults.Empty)) h k na nb = absurd k
  added (Ok m) (Err (Id (id_faults.BadSegment n))) h k na nb = absurd k
  added (Ok m) (Err (Id (id_faults.BadEscape n))) h k na nb = absurd k
  added (Ok m) (Err (Id id_faults.Memory)) h k na nb = absurd k
  added (Err NoParent) (Ok n) h k na nb = absurd (no_id k.0 k.1 h.0)
  added (Err NoParent) (Err NoParent) h k na nb = (refl, h.1 ∙ sym k.1)
  added (Err NoParent) (Err Twice) h k na nb = absurd (no_id k.0 k.1 h.0)
  added (Err NoParent) (Err Full) h k na nb = absurd (no_id k.0 k.1 h.0)
  added (Err NoParent) (Err (Id id_faults.TooLong)) h k na nb = absurd (no_id k.0 k.1 h.0)
  added (Err NoParent) (Err (Id id_faults.Empty)) h k na nb = absurd k
  added (Err NoParent) (Err (Id (id_faults.BadSegment n))) h k na nb = absurd k
  added (Err NoParent) (Err (Id (id_faults.BadEscape n))) h k na nb = absurd k
  added (Err NoParent) (Err (Id id_faults.Memory)) h k na nb = absurd k
  added (Err Twice) (Ok n) h k na nb = absurd (k.3 (subst (HasId old) (one_id h.0 k.0 h.1 k.1) h.2))
  added (Err Twice) (Err NoParent) h k na nb = absurd (no_id h.0 h.1 k.0)
  added (Err Twice) (Err Twice) h k na nb = (refl, h.3 ∙ sym k.3)
  added (Err Twice) (Err Full) h k na nb = absurd (k.2 (subst (HasId old) (one_id h.0 k.0 h.1 k.1) h.2))
  added (Err Twice) (Err (Id id_faults.TooLong)) h k na nb = absurd (k.2 (subst (HasId old) (one_id h.0 k.0 h.1 k.1) h.2))
  added (Err Twice) (Err (Id id_faults.Empty)) h k na nb = absurd k
  added (Err Twice) (Err (Id (id_faults.BadSegment n))) h k na nb = absurd k
  added (Err Twice) (Err (Id (id_faults.BadEscape n))) h k na nb = absurd k
  added (Err Twice) (Err (Id id_faults.Memory)) h k na nb = absurd k
  added (Err Full) (Ok n) h k na nb = absurd (not_full old k.4 h.3)
  added (Err Full) (Err NoParent) h k na nb = absurd (no_id h.0 h.1 k.0)
  added (Err Full) (Err Twice) h k na nb = absurd (h.2 (subst (HasId old) (one_id k.0 h.0 k.1 h.1) k.2))
  added (Err Full) (Err Full) h k na nb = (refl, h.4 ∙ sym k.4)
  added (Err Full) (Err (Id id_faults.TooLong)) h k na nb = absurd (not_full old k.4 h.3)
  added (Err Full) (Err (Id id_faults.Empty)) h k na nb = absurd k
  added (Err Full) (Err (Id (id_faults.BadSegment n))) h k na nb = absurd k
  added (Err Full) (Err (Id (id_faults.BadEscape n))) h k na nb = absurd k
  added (Err Full) (Err (Id id_faults.Memory)) h k na nb = absurd k
  added (Err (Id id_faults.TooLong)) (Ok n) h k na nb = absurd (h.3 (subst FitsLimits (one_id k.0 h.0 k.1 h.1) k.2))
  added (Err (Id id_faults.TooLong)) (Err NoParent) h k na nb = absurd (no_id h.0 h.1 k.0)
  added (Err (Id id_faults.TooLong)) (Err Twice) h k na nb = absurd (h.2 (subst (HasId old) (one_id k.0 h.0 k.1 h.1) k.2))
  added (Err (Id id_faults.TooLong)) (Err Full) h k na nb = absurd (not_full old h.4 k.3)
  added (Err (Id id_faults.TooLong)) (Err (Id id_faults.TooLong)) h k na nb = (refl, h.5 ∙ sym k.5)
  added (Err (Id id_faults.TooLong)) (Err (Id id_faults.Empty)) h k na nb = absurd k
  added (Err (Id id_faults.TooLong)) (Err (Id (id_faults.BadSegment n))) h k na nb = absurd k
  added (Err (Id id_faults.TooLong)) (Err (Id (id_faults.BadEscape n))) h k na nb = absurd k
  added (Err (Id id_faults.TooLong)) (Err (Id id_faults.Memory)) h k na nb = absurd k
  added (Err (Id id_faults.Empty)) b h k na nb = absurd h
  added (Err (Id (id_faults.BadSegment n))) b h k na nb = absurd h
  added (Err (Id (id_faults.BadEscape n))) b h k na nb = absurd h
  added (Err (Id id_faults.Memory)) b h k na nb = absurd h

pub addition_is_unique : AdditionIsUnique
addition_is_unique old new other d = added old new other d.parent d.segment d.name d.dtype

module _ (old new other : List Descriptor) (d : Descriptor) where
  inserted : (a b : Result ℕ TableFault) → IsInsertedAs old new d a → IsInsertedAs old other d b → a ≢ Err Memory → b ≢ Err Memory → (a ≡ b) × (new ≡ other)
  inserted (Err Memory) b h k na nb = absurd (na refl)
  inserted a (Err Memory) h k na nb = absurd (nb refl)
  inserted (Err (Id f)) b h k na nb = absurd h
  inserted a (Err (Id f)) h k na nb = absurd k
  inserted (Ok m) (Ok n) h k na nb = (ap Ok (h.1 ∙ sym k.1), h.2 ∙ sym k.2)
  inserted (Ok m) (Err NoParent) h k na nb = absurd (k.0 h.0.parent)
  inserted (Ok m) (Err Twice) h k na nb = absurd (h.0.absent k.1)
  inserted (Ok m) (Err Full) h k na nb = absurd (not_full old h.0.room k.2)
  inserted (Err NoParent) (Ok n) h k na nb = absurd (h.0 k.0.parent)
  inserted (Err NoParent) (Err NoParent) h k na nb = (refl, h.1 ∙ sym k.1)
  inserted (Err NoParent) (Err Twice) h k na nb = absurd (h.0 k.0)
  inserted (Err NoParent) (Err Full) h k na nb = absurd (h.0 k.0)
  inserted (Err Twice) (Ok n) h k na nb = absurd (k.0.absent h.1)
  inserted (Err Twice) (Err NoParent) h k na nb = absurd (k.0 h.0)
  inserted (Err Twice) (Err Twice) h k na nb = (refl, h.2 ∙ sym k.2)
  inserted (Err Twice) (Err Full) h k na nb = absurd (k.1 h.1)
  inserted (Err Full) (Ok n) h k na nb = absurd (not_full old k.0.room h.2)
  inserted (Err Full) (Err NoParent) h k na nb = absurd (k.0 h.0)
  inserted (Err Full) (Err Twice) h k na nb = absurd (h.1 k.1)
  inserted (Err Full) (Err Full) h k na nb = (refl, h.3 ∙ sym k.3)

pub insertion_is_unique : InsertionIsUnique
insertion_is_unique = inserted
