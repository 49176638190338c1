-- What a need asks of each resource, when two needs conflict, and a need as a word.
use Rattle.std.specs.Prelude.{ℕ, zero, suc, ◌<◌, ◌==◌, if◌then◌else◌}
use Rattle.std.specs.Int.{bit_at}
use Rattle.tk_locks.specs.NeedView.{NeedView}
use Rattle.tk_locks.specs.Words.{packed}

-- what a need asks of one resource
pub data Access : Type 0 where
  nothing : Access
  reads : Access
  writes : Access

-- what the bits of the two masks ask of a resource: a write stands over a read
abbrev pub access_of : ℕ → ℕ → Access
access_of zero zero = nothing
access_of (suc r) zero = reads
access_of r (suc w) = writes

-- what the need asks of resource i
abbrev pub access : NeedView → ℕ → Access
access n i = access_of (bit_at n.reads i) (bit_at n.writes i)

-- the stronger of two accesses to a resource: a write stands over a read
abbrev pub stronger : Access → Access → Access
stronger nothing b = b
stronger reads writes = writes
stronger reads b = reads
stronger writes b = writes

-- what a need asks of resource i, once it asks for this access to a resource too
abbrev pub access_with : NeedView → ℕ → Access → ℕ → Access
access_with n resource a i = if resource == i then stronger (access n i) a else access n i

-- at one resource, one of two needs writes what the other reads or writes
abbrev pub Clash : Access → Access → Type 0
Clash writes reads = Unit {0}
Clash writes writes = Unit {0}
Clash reads writes = Unit {0}
Clash a b = ⊥

-- the needs clash at some resource
abbrev pub Conflict : NeedView → NeedView → Type 0
Conflict n m = (r : ℕ) × (r < 16) × Clash (access n r) (access m r)

-- the four bits of a lane: 15 for a write, 1 for a read, else 0
abbrev pub weight : Access → ℕ
weight nothing = 0
weight reads = 1
weight writes = 15

-- the four bits of the need at resource i
abbrev pub lane : NeedView → ℕ → ℕ
lane n i = weight (access n i)

-- the sixteen lanes as one word
abbrev pub word_of : NeedView → ℕ
word_of n = packed 16 (lane n)
