-- The locks that a node's descriptor declares.
use Rattle.std.specs.Prelude.{ℕ, ◌==◌, ◌&&◌, ◌++◌, List, [], ◌∷◌, Bool, true, false, not, length}
use Rattle.std.specs.Prelude.{map, codes, if◌then◌else◌, bytes_eq}
use Rattle.std.specs.List.{filter, fold, list_any}
use Rattle.std.specs.Ordering.{nat_cmp}
use Rattle.std.specs.Cmp.Lexicographic.{slice_cmp}
use Rattle.std.specs.BTreeSet.{insert_key}
use Rattle.tk_ids.specs.declared.locks.Lock.{Lock}
use Rattle.tk_ids.specs.declared.locks.LockMode.{LockMode}
use Rattle.tk_ids.specs.declared.locks.LockMode.TheVariants.{Read, ReadWrite}
use Rattle.tk_plan.specs.declared.trees.nodes.Node.{Node}

abbrev pub has_name : Lock → Bool
has_name l = not (length l.name == 0)

abbrev pub is_for_writing : LockMode → Bool
is_for_writing Read = false
is_for_writing ReadWrite = true

-- what an isolated node asks for besides its locks: `global` for writing
abbrev pub isolation : Bool → List Lock
isolation is_isolated =
    if is_isolated then record { name = codes "global"; mode = ReadWrite } ∷ [] else []

-- all that a node asks for by a name
abbrev pub asked : Node → List Lock
asked n = isolation n.is_isolated ++ filter has_name n.locks

-- whether one of the locks is of the name and for writing
abbrev pub is_written : List Lock → List ℕ → Bool
is_written locks name = list_any (λ l. bytes_eq l.name name && is_for_writing l.mode) locks

-- the lock of a name: for writing where one of these locks of the name is, else for reading
abbrev pub strongest : List Lock → List ℕ → Lock
strongest locks name =
    record { name = name; mode = if is_written locks name then ReadWrite else Read }

-- the names with that of a lock in its place, where it isn't among them
abbrev pub with_name : List (List ℕ) → Lock → List (List ℕ)
with_name names l = insert_key (slice_cmp nat_cmp) names l.name

-- the names of the locks, each once, in the order of their bytes
abbrev pub names_of : List Lock → List (List ℕ)
names_of locks = fold with_name [] locks

-- for each name of the locks, in the order of the names' bytes, the strongest lock of that name
abbrev pub by_name : List Lock → List Lock
by_name locks = map (strongest locks) (names_of locks)

-- what a node's descriptor declares: for each name that the node asks for, in the order of the
-- names' bytes, the strongest lock of that name
unfoldable pub declared_locks : Node → List Lock
declared_locks n = by_name (asked n)
