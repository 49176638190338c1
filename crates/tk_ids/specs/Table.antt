-- The table of descriptors, as a list.
use Rattle.std.specs.Prelude.{◌≡◌, ℕ, zero, suc, ◌<◌, ◌≤◌, List, [], ◌∷◌, ◌++◌, length, map}
use Rattle.std.specs.Prelude.{Option, Some, None}
use Rattle.std.specs.Prelude.{option_map, slice_get, Result, Ok, Err}
use Rattle.tk_ids.specs.declared.tables.TheConstants.{MAX_DESCRIPTORS}
use Rattle.tk_ids.specs.declared.id_faults.IdFault.TheVariants as id_faults
use Rattle.tk_ids.specs.declared.descriptors.DType.{DType}
use Rattle.tk_ids.specs.declared.descriptors.Descriptor.{Descriptor}
use Rattle.tk_ids.specs.declared.tables.TableFault.{TableFault}
use Rattle.tk_ids.specs.declared.tables.TableFault.TheVariants.{NoParent, Twice, Full, Id, Memory}
use Rattle.std.specs.List.{AllByRecursion}
use Rattle.tk_ids.specs.declared.locks.Lock.{Lock}
use Rattle.tk_ids.specs.declared.tables.LockFault.{LockFault}
use Rattle.tk_ids.specs.declared.tables.LockFault.TheVariants.{NoDescriptor, NoName}
use Rattle.tk_ids.specs.declared.tables.LockFault.TheVariants as lock_faults
use Rattle.tk_ids.specs.Locks.{AreLocks, mode_of, mode_with}
use Rattle.tk_ids.specs.IdText.{SegmentView, IsId, id_text, FitsLimits, parent_of}

-- the descriptor of this id, name and type that declares no lock
abbrev pub unlocked : List SegmentView → List ℕ → DType → Descriptor
unlocked id name dtype = record { id = id; name = name; dtype = dtype; locks = [] }

-- the ids of the descriptors, in the order of their keys
abbrev pub ids_of : List Descriptor → List (List SegmentView)
ids_of table = map (λ d. d.id) table

-- some descriptor has the id
abbrev pub HasId : List Descriptor → List SegmentView → Type 0
HasId table id = (key : ℕ) × (slice_get (ids_of table) key ≡ Some id)

-- no two descriptors have one id
abbrev pub AreDifferent : List Descriptor → Type 0
AreDifferent table =
    (j k : ℕ) (id : List SegmentView) →
    slice_get (ids_of table) j ≡ Some id → slice_get (ids_of table) k ≡ Some id → j ≡ k

-- the id of a child of this parent, or of a root; none where there is no such parent
abbrev pub child_id : List Descriptor → Option ℕ → SegmentView → Option (List SegmentView)
child_id table None segment = Some (segment ∷ [])
child_id table (Some parent) segment =
    option_map (λ d. d.id ++ segment ∷ []) (slice_get table parent)

-- What is added to a table: a descriptor with this name and type, below the parent with this key or
-- as a root. Its id is the parent's with the segment appended, or the segment alone.
pub record Addition : Type 0 where
  pub parent : Option ℕ
  pub segment : SegmentView
  pub name : List ℕ
  pub dtype : DType

abbrev pub addition : Option ℕ → SegmentView → List ℕ → DType → Addition
addition parent segment name dtype =
    record { parent = parent; segment = segment; name = name; dtype = dtype }

-- what adding a descriptor answers, and the table after it; the answer may always be `Memory`
abbrev pub IsAddedAs : List Descriptor → List Descriptor → Addition → Result ℕ TableFault → Type 0
IsAddedAs old new d (Ok key) =
    (id : List SegmentView) × (child_id old d.parent d.segment ≡ Some id)
    × FitsLimits id × ¬ (HasId old id) × (length old < MAX_DESCRIPTORS)
    × (key ≡ length old) × (new ≡ old ++ unlocked id d.name d.dtype ∷ [])
IsAddedAs old new d (Err NoParent) =
    (child_id old d.parent d.segment ≡ None) × (new ≡ old)
IsAddedAs old new d (Err Twice) =
    (id : List SegmentView) × (child_id old d.parent d.segment ≡ Some id)
    × HasId old id × (new ≡ old)
IsAddedAs old new d (Err Full) =
    (id : List SegmentView) × (child_id old d.parent d.segment ≡ Some id)
    × ¬ (HasId old id) × (length old ≡ MAX_DESCRIPTORS) × (new ≡ old)
IsAddedAs old new d (Err (Id id_faults.TooLong)) =
    (id : List SegmentView) × (child_id old d.parent d.segment ≡ Some id)
    × ¬ (HasId old id) × ¬ (FitsLimits id) × (length old < MAX_DESCRIPTORS) × (new ≡ old)
IsAddedAs old new d (Err (Id _)) = ⊥
IsAddedAs old new d (Err Memory) = new ≡ old

-- the entries of the table's map: each descriptor by the text of its id
abbrev pub IsKept : List ℕ × Descriptor → Type 0
IsKept e = (e.0 ≡ id_text e.1.id) × IsId e.1.id × FitsLimits e.1.id

-- the id is a root's, or a descriptor has the id without its last segment
abbrev pub HasParent : List Descriptor → List SegmentView → Type 0
HasParent table id = 1 < length id → HasId table (parent_of id)

-- of each id that isn't a root's, the one above it has a lower key
abbrev pub HasParents : List Descriptor → Type 0
HasParents table =
    (key : ℕ) (id : List SegmentView) → slice_get (ids_of table) key ≡ Some id → 1 < length id →
    (above : ℕ) × (above < key) × (slice_get (ids_of table) above ≡ Some (parent_of id))

-- the locks of each descriptor are in the order of their names, each of which is there once
abbrev pub HaveLocks : List Descriptor → Type 0
HaveLocks table = AllByRecursion (λ d. AreLocks d.locks) table

-- the table in which the descriptor with this key has these locks
abbrev pub with_locks : List Descriptor → ℕ → List Lock → List Descriptor
with_locks [] key locks = []
with_locks (d ∷ table) zero locks =
    record { id = d.id; name = d.name; dtype = d.dtype; locks = locks } ∷ table
with_locks (d ∷ table) (suc key) locks = d ∷ with_locks table key locks

-- the locks of the descriptor with this key
abbrev pub locks_at : List Descriptor → ℕ → List Lock
locks_at [] key = []
locks_at (d ∷ table) zero = d.locks
locks_at (d ∷ table) (suc key) = locks_at table key

-- what adding a lock to the descriptor with this key answers, and the table after it; the answer
-- may always be `Memory`
abbrev pub IsLockedAs :
    List Descriptor → List Descriptor → ℕ → Lock → Result (Unit {0}) LockFault → Type 0
IsLockedAs old new key lock (Ok _) =
    (key < length old) × (0 < length lock.name) × (locks : List Lock)
    × (new ≡ with_locks old key locks)
    × ((name : List ℕ) → mode_of locks name ≡ mode_with (locks_at old key) lock name)
IsLockedAs old new key lock (Err NoDescriptor) = (length old ≤ key) × (new ≡ old)
IsLockedAs old new key lock (Err NoName) =
    (key < length old) × (length lock.name ≡ 0) × (new ≡ old)
IsLockedAs old new key lock (Err lock_faults.Memory) = new ≡ old

-- the descriptor may stand after those of the table
pub record TakesNext (table : List Descriptor) (d : Descriptor) : Type 0 where
  pub parent : HasParent table d.id
  pub absent : ¬ HasId table d.id
  pub room : length table < MAX_DESCRIPTORS

-- what putting a descriptor at the end answers, and the table after it; the answer may always be
-- `Memory`
abbrev pub IsInsertedAs :
    List Descriptor → List Descriptor → Descriptor → Result ℕ TableFault → Type 0
IsInsertedAs old new d (Ok key) = TakesNext old d × (key ≡ length old) × (new ≡ old ++ d ∷ [])
IsInsertedAs old new d (Err NoParent) = ¬ HasParent old d.id × (new ≡ old)
IsInsertedAs old new d (Err Twice) = HasParent old d.id × HasId old d.id × (new ≡ old)
IsInsertedAs old new d (Err Full) =
    HasParent old d.id × ¬ (HasId old d.id) × (length old ≡ MAX_DESCRIPTORS) × (new ≡ old)
IsInsertedAs old new d (Err (Id _)) = ⊥
IsInsertedAs old new d (Err Memory) = new ≡ old
