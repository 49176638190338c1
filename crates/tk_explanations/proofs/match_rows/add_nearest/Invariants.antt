use Rattle.std.proofs.Common.{◌≡◌, ◌++◌, drop, map}
use Rattle.tk_explanations.specs.MatchRows.{lacking_row}
use Rattle.tk_explanations.proofs.match_rows.add_nearest.Given as goal

abbrev pub invariant-loop-index : goal.invariant-loop-index
invariant-loop-index l =
    l.rows.items ++ map (lacking_row l.«record» l.condition) (drop l.index l.near)
    ≡ l.fn.rows.items ++ map (lacking_row l.«record» l.condition) l.near
