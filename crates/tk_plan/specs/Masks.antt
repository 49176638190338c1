-- The need of a plan's unit.
use Rattle.std.specs.Prelude.{ℕ, zero, suc, ◌+◌, ◌*◌, Bool, true, false, List, if◌then◌else◌}
use Rattle.tk_locks.specs.NeedView.{NeedView}
use Rattle.tk_locks.specs.Needs.{Access, nothing, reads, writes}
use Rattle.tk_plan.specs.declared.trees.nodes.NumberedNode.{NumberedNode}
use Rattle.tk_plan.specs.Planned.{unit_asks}

-- the number whose bit i, below the k-th, is whether f holds at i
abbrev pub mask : ℕ → (ℕ → Bool) → ℕ
mask zero f = 0
mask (suc k) f = (if f 0 then 1 else 0) + 2 * mask k (λ i. f (suc i))

-- a read, and no write
abbrev pub is_read : Access → Bool
is_read nothing = false
is_read reads = true
is_read writes = false

abbrev pub is_write : Access → Bool
is_write nothing = false
is_write reads = false
is_write writes = true

-- a read of each resource that the unit's nodes read and none writes, and a write of each that one
-- writes
abbrev pub need_of : List NumberedNode → ℕ → NeedView
need_of nodes unit = record {
  reads = mask 16 (λ r. is_read (unit_asks nodes unit r));
  writes = mask 16 (λ r. is_write (unit_asks nodes unit r));
}
