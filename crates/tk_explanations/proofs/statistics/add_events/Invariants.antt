use Rattle.std.proofs.Common.{◌≡◌, ◌++◌, take}
use Rattle.std.specs.List.{flat_map}
use Rattle.tk_explanations.specs.Statistics.{counted_row}
use Rattle.tk_explanations.proofs.statistics.add_events.Given as goal

abbrev pub invariant-loop-position : goal.invariant-loop-position
invariant-loop-position l =
    l.rows.items ≡ l.fn.rows.items ++ flat_map counted_row (take l.position-index l.positions)
