-- Numbers for the locks over which descriptors may conflict.
use Rattle.std.specs.Prelude.{◌≡◌, ◌≢◌, ◌⊎◌, ◌≤◌, ℕ, true, List, [], Some, nat_eq, get_or}
use Rattle.std.specs.Prelude.{bytes_eq, if◌then◌else◌, unwrap_or}
use Rattle.std.specs.List.{Contains}
use Rattle.std.specs.Cmp.Lexicographic.{pointwise}
use Rattle.indexmap.specs.IndexSet.{contains_by, index_of_by, index_set_len}
use Rattle.tk_ids.specs.declared.descriptors.Descriptor.{Descriptor}
use Rattle.tk_ids.specs.declared.locks.Lock.{Lock}
use Rattle.tk_record.specs.Entries.{desc}
use Rattle.tk_record.specs.Recorded.{Recorded}
use Rattle.tk_query_locks.specs.Conflicts.{ConflictOver, Holds, global_name}
use Rattle.tk_query_locks.specs.declared.lock_numbers.LockNumbers.{LockNumbers}
use Rattle.tk_query_locks.specs.declared.lock_numbers.NumberedLock.{NumberedLock}

-- the name is held by a descriptor
abbrev pub IsHeld : LockNumbers → List ℕ → Type 0
IsHeld n name = contains_by (pointwise nat_eq name) n.held ≡ true

-- the name is held by a second descriptor
abbrev pub IsSharedName : LockNumbers → List ℕ → Type 0
IsSharedName n name = contains_by (pointwise nat_eq name) n.shared ≡ true

-- the name is held; where it was before, it is shared
pub record AddsName (name : List ℕ) (old new : LockNumbers) : Type 0 where
  pub held : IsHeld new name
  pub shared : IsHeld old name → IsSharedName new name
  pub keeps_held : (t : List ℕ) → IsHeld old t → IsHeld new t
  pub keeps_shared : (t : List ℕ) → IsSharedName old t → IsSharedName new t

-- the locks of the descriptor are held; those that were before are shared
pub record AddsLocks (d : Descriptor) (old new : LockNumbers) : Type 0 where
  pub held : (name : List ℕ) → Holds name d → IsHeld new name
  pub shared : (name : List ℕ) → Holds name d → IsHeld old name → IsSharedName new name
  pub keeps_held : (t : List ℕ) → IsHeld old t → IsHeld new t
  pub keeps_shared : (t : List ℕ) → IsSharedName old t → IsSharedName new t

-- the lock has no number
pub record IsUnshared (n : LockNumbers) (name : List ℕ) : Type 0 where
  pub other : name ≢ global_name
  pub alone : ¬ IsSharedName n name

-- over a lock without a number no descriptors of the record conflict
pub record AreShared (r : Recorded) (n : LockNumbers) : Type 0 where
  pub none :
      (key other : ℕ) (d e : Descriptor) → desc r key ≡ Some d → desc r other ≡ Some e →
      (name : List ℕ) → IsUnshared n name → ¬ ConflictOver r name d e

-- the number of `global`, the greatest one
abbrev pub numbers_bound : LockNumbers → ℕ
numbers_bound n = index_set_len n.shared

-- the number of a name
unfoldable pub number_of : LockNumbers → List ℕ → ℕ
number_of n name =
    if bytes_eq name global_name then index_set_len n.shared
    else unwrap_or (index_of_by (pointwise nat_eq name) n.shared) (index_set_len n.shared)

-- the lock stands in the list under its number, or has none
abbrev pub IsNumbered : LockNumbers → List NumberedLock → Lock → Type 0
IsNumbered n list lock =
    Contains list (record { number = number_of n lock.name; mode = lock.mode })
    ⊎ IsUnshared n lock.name

-- each lock of the descriptor stands in the list, or has no number
pub record AreNumberedOf (n : LockNumbers) (list : List NumberedLock) (d : Descriptor)
    : Type 0 where
  pub each : (lock : Lock) → Contains d.locks lock → IsNumbered n list lock
  pub within : (k : NumberedLock) → Contains list k → k.number ≤ numbers_bound n

-- each lock of a key's descriptor stands in the key's list, or has no number
pub record AreNumbered (r : Recorded) (n : LockNumbers) (lists : List (List NumberedLock)) :
    Type 0 where
  pub each :
      (key : ℕ) (d : Descriptor) → desc r key ≡ Some d → (lock : Lock) → Contains d.locks lock →
      IsNumbered n (get_or lists key []) lock
  pub within :
      (key : ℕ) (k : NumberedLock) → Contains (get_or lists key []) k → k.number ≤ numbers_bound n
