use Rattle.std.proofs.Common.{◌≡◌, ℕ, ◌+◌, ◌-◌, [], get_or}
use Rattle.std.specs.Vec.{vec_len}
use Rattle.tk_query.proofs.open_starts.OpenStarts.make_slot.Given as goal

abbrev pub invariant-loop-alloc : goal.invariant-loop-alloc
invariant-loop-alloc l = (k : ℕ) → get_or l.self-inside.rows.items k [] ≡ get_or l.fn.self k []

abbrev pub decreases-loop-alloc : goal.decreases-loop-alloc
decreases-loop-alloc l = l.row + 1 - vec_len l.self-inside.rows
