use Rattle.std.proofs.Common.{◌+◌, ◌-◌, ◌≤◌, ◌^◌, length}
use Rattle.std.specs.Vec.{vec_len}
use Rattle.tk_query_lifecycle.proofs.RowLemmas.{AreFilled}
use Rattle.tk_query_lifecycle.proofs.key_states.KeyStates.put.Given as goal

abbrev pub invariant-loop-alloc : goal.invariant-loop-alloc
invariant-loop-alloc l =
    (length l.self-inside.rows.items ≤ 2 ^ 16)
    × AreFilled l.initial.self-inside.rows.items l.self-inside.rows.items

abbrev pub decreases-loop-alloc : goal.decreases-loop-alloc
decreases-loop-alloc l = l.row + 1 - vec_len l.self-inside.rows
