use Rattle.std.proofs.Common.{◌≡◌, ◌+◌, ◌-◌, ◌≤◌, length}
use Rattle.std.specs.Vec.{vec_len}
use Rattle.tk_query_lifecycle.specs.steps.KeyStates.{padded}
use Rattle.tk_query_lifecycle.proofs.key_states.Row.put.Given as goal

abbrev pub invariant-loop-self : goal.invariant-loop-self
invariant-loop-self l =
    (length l.self-inside.items.items ≤ 65536)
    × (padded 65536 l.self-inside.items.items ≡ padded 65536 l.fn.self)

abbrev pub decreases-loop-self : goal.decreases-loop-self
decreases-loop-self l = l.index + 1 - vec_len l.self-inside.items
