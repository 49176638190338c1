-- The locks that a descriptor declares.
use Rattle.std.specs.Prelude.{ℕ, ◌<◌, List, [], ◌∷◌, length, map, Bool, Option, Some, None}
use Rattle.std.specs.Prelude.{bytes_eq, if◌then◌else◌}
use Rattle.std.specs.List.{AllByRecursion}
use Rattle.std.specs.Ordering.{nat_cmp, partial_lt}
use Rattle.std.specs.Cmp.Lexicographic.{slice_cmp}
use Rattle.std.specs.List.Sorted.{IsStrictlySortedBy}
use Rattle.tk_ids.specs.declared.locks.Lock.{Lock}
use Rattle.tk_ids.specs.declared.locks.LockMode.{LockMode}
use Rattle.tk_ids.specs.declared.locks.LockMode.TheVariants.{Read, ReadWrite}

-- whether the first text comes before the second in the order of their bytes
abbrev pub is_before : List ℕ → List ℕ → Bool
is_before x y = partial_lt (λ s t. Some (slice_cmp nat_cmp s t)) x y

-- the names of the locks
abbrev pub lock_names : List Lock → List (List ℕ)
lock_names locks = map (λ l. l.name) locks

-- the locks are in the order of their names' bytes, no two have one name, and no name is empty
pub record AreLocks (locks : List Lock) : Type 0 where
  pub sorted : IsStrictlySortedBy (slice_cmp nat_cmp) (lock_names locks)
  pub named : AllByRecursion (λ name. 0 < length name) (lock_names locks)

-- the mode of the lock of this name, if there is one
abbrev pub mode_of : List Lock → List ℕ → Option LockMode
mode_of [] name = None
mode_of (l ∷ locks) name = if bytes_eq l.name name then Some l.mode else mode_of locks name

-- the mode that admits less beside it
abbrev pub stronger : LockMode → LockMode → LockMode
stronger Read mode = mode
stronger ReadWrite mode = ReadWrite

-- the mode of a lock that is there in the first mode, if in any, and is asked for in the second
abbrev pub strengthened : Option LockMode → LockMode → LockMode
strengthened None mode = mode
strengthened (Some held) mode = stronger held mode

-- the mode of each name where the locks have a further one: of two of one name the stronger stays
abbrev pub mode_with : List Lock → Lock → List ℕ → Option LockMode
mode_with locks l name =
    if bytes_eq l.name name then Some (strengthened (mode_of locks name) l.mode)
    else mode_of locks name
