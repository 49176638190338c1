use Rattle.std.proofs.Common.{◌≡◌, ◌++◌, drop}
use Rattle.tk_explanations.specs.MatchRows.{found_rows}
use Rattle.tk_explanations.proofs.match_rows.add_found.Given as goal

abbrev pub invariant-loop-number : goal.invariant-loop-number
invariant-loop-number l =
    l.rows.items ++ found_rows l.number (drop l.number l.conditions) (drop l.number l.found)
    ≡ l.fn.rows.items ++ found_rows 0 l.conditions l.found
