use Rattle.std.proofs.Common.{◌≡◌, ℕ, ◌+◌, ◌-◌, ◌≤◌, get_or, length, None}
use Rattle.std.specs.Vec.{vec_len}
use Rattle.tk_query.proofs.open_starts.Row.make_slot.Given as goal

abbrev pub invariant-loop-self : goal.invariant-loop-self
invariant-loop-self l =
    (length l.fn.self ≤ length l.self-inside.slots.items)
    × ((i : ℕ) → get_or l.self-inside.slots.items i None ≡ get_or l.fn.self i None)

abbrev pub decreases-loop-self : goal.decreases-loop-self
decreases-loop-self l = l.index + 1 - vec_len l.self-inside.slots
