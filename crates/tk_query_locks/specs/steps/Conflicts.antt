-- What private clauses and proofs alone name.
use Rattle.std.specs.Prelude.{◌≡◌, ℕ, false, List, Option, Some, None}
use Rattle.std.specs.Borrow.{Bor}
use Rattle.tk_events.specs.Event.{is_before}
use Rattle.tk_ids.specs.declared.descriptors.Descriptor.{Descriptor}
use Rattle.tk_record.specs.Entries.{desc}
use Rattle.tk_record.specs.Recorded.{Recorded}
use Rattle.tk_query_locks.specs.Conflicts.{ConflictOver}

-- it is a descriptor of the record
abbrev pub IsDescribed : Recorded → Descriptor → Type 0
IsDescribed r d = (key : ℕ) × (desc r key ≡ Some d)

-- there is a name, and the other text isn't before it
abbrev pub IsAtMost : Option (Bor (List ℕ)) → List ℕ → Type 0
IsAtMost None other = ⊥
IsAtMost (Some name) other = is_before other name.now ≡ false

-- they conflict over the lock of this name, and over none of a lesser name
pub record IsLeastLock (r : Recorded) (a b : Descriptor) (name : List ℕ) : Type 0 where
  pub over : ConflictOver r name a b
  pub least : (other : List ℕ) → ConflictOver r other a b → is_before other name ≡ false
