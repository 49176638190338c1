use Rattle.std.proofs.Common.{◌≡◌}
use Rattle.tk_explanations.proofs.UnlikeLemmas.{ArePassed}
use Rattle.tk_explanations.proofs.exactly.add_unlike.Given as goal

abbrev pub invariant-loop-number : goal.invariant-loop-number
invariant-loop-number l = (l.rows.items ≡ l.initial.rows.items) × ArePassed l.events l.flags l.conditions l.number l.low
