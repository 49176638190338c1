-- Which descriptors of a record conflict over which locks.
use Rattle.std.specs.Prelude.{◌≡◌, ◌⊎◌, ℕ, true, List, [], ◌∷◌, ◌++◌, Option, Some, codes}
use Rattle.std.specs.Prelude.{map, slice_get}
use Rattle.std.specs.List.{Contains}
use Rattle.std.specs.Option.{option_and_then}
use Rattle.tk_ids.specs.declared.descriptors.Descriptor.{Descriptor}
use Rattle.tk_ids.specs.DTypes.{is_test}
use Rattle.tk_ids.specs.IdText.{SegmentView}
use Rattle.tk_record.specs.Entries.{desc}
use Rattle.tk_record.specs.Recorded.{Recorded}
use Rattle.tk_ids.specs.declared.locks.LockMode.{LockMode}
use Rattle.tk_ids.specs.declared.locks.LockMode.TheVariants.{ReadWrite}
use Rattle.tk_ids.specs.declared.locks.Lock.{Lock}

-- an id begins with the list of segments of another
abbrev pub BeginsWith : List SegmentView → List SegmentView → Type 0
BeginsWith above id = (more : List SegmentView) × (id ≡ above ++ more)

-- neither id begins with the other's list of segments
pub record AreApart (a b : List SegmentView) : Type 0 where
  pub not_below : ¬ BeginsWith a b
  pub not_above : ¬ BeginsWith b a

-- the lock of this name, held in this mode
abbrev pub lock : List ℕ → LockMode → Lock
lock name mode = record { name = name; mode = mode }

-- the descriptor holds the lock of this name for writing
abbrev pub Writes : List ℕ → Descriptor → Type 0
Writes name d = Contains d.locks (lock name ReadWrite)

-- the descriptor holds the lock of this name, for reading or for writing
abbrev pub Holds : List ℕ → Descriptor → Type 0
Holds name d = (mode : LockMode) × Contains d.locks (lock name mode)

-- a descriptor of the record has the id with one segment more
pub record HasChild (r : Recorded) (id : List SegmentView) : Type 0 where
  pub key : ℕ
  pub child : Descriptor
  pub segment : SegmentView
  pub described : desc r key ≡ Some child
  pub below : child.id ≡ id ++ segment ∷ []

-- a test of which no descriptor is a child
pub record IsTestWithoutChild (r : Recorded) (d : Descriptor) : Type 0 where
  pub test : is_test d.dtype ≡ true
  pub childless : ¬ HasChild r d.id

-- the name of the lock that each test without a child uses
abbrev pub global_name : List ℕ
global_name = codes "global"

-- the descriptor holds the lock, or the lock is `global`, and the descriptor a test without a child
abbrev pub Uses : Recorded → List ℕ → Descriptor → Type 0
Uses r name d = Holds name d ⊎ ((name ≡ global_name) × IsTestWithoutChild r d)

-- Two descriptors are apart by descent; one holds the lock for writing, and the other uses it.
pub record ConflictOver (r : Recorded) (name : List ℕ) (a b : Descriptor) : Type 0 where
  pub apart : AreApart a.id b.id
  pub one_writes : (Writes name a × Uses r name b) ⊎ (Writes name b × Uses r name a)

-- the key of the entry at a position
abbrev pub key_at : Recorded → ℕ → Option ℕ
key_at r p = slice_get (map (λ e. e.event.key) r.entries) p

-- the descriptor of the entry at a position
abbrev pub descriptor_at : Recorded → ℕ → Option Descriptor
descriptor_at r p = option_and_then (desc r) (key_at r p)

-- the descriptors of the entries at two positions conflict over the lock of this name
pub record ConflictAt (r : Recorded) (name : List ℕ) (p q : ℕ) : Type 0 where
  pub a : Descriptor
  pub b : Descriptor
  pub first : descriptor_at r p ≡ Some a
  pub second : descriptor_at r q ≡ Some b
  pub over : ConflictOver r name a b
