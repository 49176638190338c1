use Rattle.std.proofs.Common.{◌≡◌, ◌+◌, ◌-◌, ◌^◌, ◌∷◌, min, take}
use Rattle.tk_run_laws.specs.Spines.{count_static}
use Rattle.tk_engine_unit_events.proofs.shapes.end_of_keys.Given as goal

abbrev pub invariant-loop-numbered_node : goal.invariant-loop-numbered_node
invariant-loop-numbered_node l =
    l.end ≡ min (l.tree.top.now.number + count_static
    (l.tree.top.now ∷ take l.numbered_node-index l.tree.below.now)) (2 ^ 32 - 1)
