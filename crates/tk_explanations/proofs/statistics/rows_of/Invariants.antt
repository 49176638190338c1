use Rattle.std.proofs.Common.{◌≡◌, take}
use Rattle.std.specs.List.{flat_map}
use Rattle.tk_explanations.specs.Statistics.{mismatch_rows}
use Rattle.tk_explanations.proofs.statistics.rows_of.Given as goal

abbrev pub invariant-mismatches : goal.invariant-mismatches
invariant-mismatches l =
    l.rows.items ≡ flat_map (mismatch_rows l.events) (take l.mismatch-index l.mismatches)
