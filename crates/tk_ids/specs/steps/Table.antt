-- What private clauses and proofs alone name.
use Rattle.std.specs.Prelude.{◌≡◌, ℕ, ◌<◌, List, length, Option, Some, None, Result, Ok, Err, []}
use Rattle.std.specs.Prelude.{◌∷◌, bytes_eq, if◌then◌else◌}
use Rattle.tk_ids.specs.declared.tables.TheConstants.{MAX_DESCRIPTORS}
use Rattle.tk_ids.specs.declared.descriptors.Descriptor.{Descriptor}
use Rattle.tk_ids.specs.declared.tables.TableFault.{TableFault}
use Rattle.tk_ids.specs.declared.tables.TableFault.TheVariants.{NoParent, Twice, Full, Id, Memory}
use Rattle.tk_ids.specs.IdText.{SegmentView, FitsLimits}
use Rattle.tk_ids.specs.Table.{HasId, child_id, HasParent}
use Rattle.tk_ids.specs.declared.locks.Lock.{Lock}
use Rattle.tk_ids.specs.Locks.{is_before, stronger}
use Rattle.tk_ids.specs.declared.id_faults.IdFault.TheVariants as id_faults

-- what making the id of a child answers, at a table that may be full; the answer may always be
-- `Memory`
abbrev pub IsChildId :
    List Descriptor → Option ℕ → SegmentView → Result (List SegmentView) TableFault → Type 0
IsChildId table parent segment (Ok id) = (child_id table parent segment ≡ Some id) × FitsLimits id
IsChildId table parent segment (Err NoParent) = child_id table parent segment ≡ None
IsChildId table parent segment (Err Twice) = ⊥
IsChildId table parent segment (Err Full) =
    (id : List SegmentView) × (child_id table parent segment ≡ Some id)
    × ¬ (FitsLimits id) × (length table ≡ MAX_DESCRIPTORS)
IsChildId table parent segment (Err (Id id_faults.TooLong)) =
    (id : List SegmentView) × (child_id table parent segment ≡ Some id)
    × ¬ (FitsLimits id) × (length table < MAX_DESCRIPTORS)
IsChildId table parent segment (Err (Id _)) = ⊥
IsChildId table parent segment (Err Memory) = Unit {0}

-- what looking for room for an id answers
abbrev pub IsFreeAs : List Descriptor → List SegmentView → Result (Unit {0}) TableFault → Type 0
IsFreeAs table id (Ok _) = ¬ (HasId table id) × (length table < MAX_DESCRIPTORS)
IsFreeAs table id (Err Twice) = HasId table id
IsFreeAs table id (Err Full) = ¬ (HasId table id) × (length table ≡ MAX_DESCRIPTORS)
IsFreeAs table id (Err _) = ⊥

-- what looking for the parent of an id, and for room for the id, answers; the answer may always be
-- `Memory`
abbrev pub IsInsertableAs :
    List Descriptor → List SegmentView → Result (Unit {0}) TableFault → Type 0
IsInsertableAs table id (Err NoParent) = ¬ HasParent table id
IsInsertableAs table id (Err Memory) = Unit {0}
IsInsertableAs table id answer = HasParent table id × IsFreeAs table id answer

-- the locks, which are in the order of their names, with one more
abbrev pub added : List Lock → Lock → List Lock
added [] l = l ∷ []
added (m ∷ locks) l =
    if is_before m.name l.name then m ∷ added locks l
    else if bytes_eq m.name l.name
    then record { name = m.name; mode = stronger m.mode l.mode } ∷ locks
    else l ∷ m ∷ locks
