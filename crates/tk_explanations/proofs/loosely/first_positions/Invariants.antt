use Rattle.tk_explanations.proofs.FirstFits.{AreFoundFirst}
use Rattle.tk_explanations.proofs.loosely.first_positions.Given as goal

abbrev pub invariant-loop-condition : goal.invariant-loop-condition
invariant-loop-condition l = AreFoundFirst l.events l.conditions l.condition-index l.found.items
