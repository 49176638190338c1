-- The lock keys of a plan, by first appearance.
use Rattle.std.specs.Prelude.{ℕ, ◌||◌, ◌++◌, List, [], ◌∷◌, if◌then◌else◌, codes, flat_map}
use Rattle.std.specs.List.{list_any}
use Rattle.std.specs.Str.{bytes_eq}
use Rattle.tk_ids.specs.declared.locks.Lock.{Lock}
use Rattle.tk_plan.specs.declared.trees.nodes.Node.{Node}

-- the keys with one more, unless it is there or is `global`, which has a resource of its own
abbrev pub note_key : List (List ℕ) → List ℕ → List (List ℕ)
note_key keys key =
    if bytes_eq key (codes "global") || list_any (bytes_eq key) keys then keys else keys ++ key ∷ []

-- the keys with those of some locks
abbrev pub note_locks : List (List ℕ) → List Lock → List (List ℕ)
note_locks keys [] = keys
note_locks keys (l ∷ ls) = note_locks (note_key keys l.name) ls

-- the lock keys of some nodes, by first appearance
abbrev pub lock_keys : List Node → List (List ℕ)
lock_keys ns = note_locks [] (flat_map (λ n. n.locks) ns)
