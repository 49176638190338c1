-- What the nodes of a unit ask of the resources.
use Rattle.std.specs.Prelude.{◌≡◌, ℕ, suc, ◌==◌, ◌<◌, List, [], ◌∷◌, Bool, Option}
use Rattle.std.specs.Prelude.{Some, None, if◌then◌else◌, codes, option_map}
use Rattle.std.specs.Str.{bytes_eq}
use Rattle.tk_ids.specs.declared.locks.Lock.{Lock}
use Rattle.tk_ids.specs.declared.locks.LockMode.{LockMode}
use Rattle.tk_ids.specs.declared.locks.LockMode.TheVariants.{Read, ReadWrite}
use Rattle.tk_locks.specs.Needs.{Access, nothing, reads, writes, access}
use Rattle.tk_locks.specs.NeedView.{NeedView}
use Rattle.tk_plan.specs.declared.trees.nodes.Node.{Node}

-- where a key stands in the list; `global` isn't there, and is resource 0 before all others
abbrev pub key_index : List (List ℕ) → List ℕ → Option ℕ
key_index [] key = None
key_index (k ∷ ks) key = if bytes_eq k key then Some 0 else option_map suc (key_index ks key)

-- the resource of a lock key: 0 for `global`, and from 1 on those of the list
abbrev pub resource : List (List ℕ) → List ℕ → Option ℕ
resource keys key =
    if bytes_eq key (codes "global") then Some 0 else option_map suc (key_index keys key)

-- what two asks are together: a write stands over a read
abbrev pub over : Access → Access → Access
over nothing b = b
over reads writes = writes
over reads reads = reads
over reads nothing = reads
over writes b = writes

-- what a lock asks of its resource
abbrev pub access_for : LockMode → Access
access_for Read = reads
access_for ReadWrite = writes

-- an ask of one resource, and nothing of any other
abbrev pub at_resource : Option ℕ → Access → ℕ → Access
at_resource None a r = nothing
at_resource (Some k) a r = if k == r then a else nothing

-- what some locks ask of a resource
abbrev pub lock_asks : List (List ℕ) → List Lock → ℕ → Access
lock_asks keys [] r = nothing
lock_asks keys (l ∷ ls) r =
    over (at_resource (resource keys l.name) (access_for l.mode) r) (lock_asks keys ls r)

-- an isolated node holds resource 0 for writing, any other for reading
abbrev pub global_mode : Bool → LockMode
global_mode is_isolated = if is_isolated then ReadWrite else Read

-- what a node asks of a resource
abbrev pub node_asks : List (List ℕ) → Node → ℕ → Access
node_asks keys n r =
    over (at_resource (Some 0) (access_for (global_mode n.is_isolated)) r)
    (lock_asks keys n.locks r)

-- what some nodes together ask of a resource
abbrev pub nodes_ask : List (List ℕ) → List Node → ℕ → Access
nodes_ask keys [] r = nothing
nodes_ask keys (n ∷ ns) r = over (node_asks keys n r) (nodes_ask keys ns r)

-- A need that asks for what the nodes of a unit ask for. Each node reads resource 0, or writes it.
abbrev pub IsNeed : List (List ℕ) → List Node → NeedView → Type 0
IsNeed keys ns w = (r : ℕ) → r < 16 → access w r ≡ nodes_ask keys ns r
