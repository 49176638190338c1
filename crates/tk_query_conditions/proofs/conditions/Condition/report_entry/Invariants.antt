use Rattle.std.proofs.Common.{◌≡◌, map, take}
use Rattle.tk_query_conditions.proofs.conditions.Condition.report_entry.Given as goal

abbrev pub invariant-loop-key : goal.invariant-loop-key
invariant-loop-key l = l.copied ≡ map (λ p. (p.0.now, p.1.now)) (take l.key-index l.pairs)
