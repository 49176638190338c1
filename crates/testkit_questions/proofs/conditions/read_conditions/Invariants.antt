use Rattle.std.proofs.Common.{take, map}
use Rattle.testkit_questions.specs.Questions.{AreConditions}
use Rattle.testkit_questions.proofs.conditions.read_conditions.Given as goal

abbrev pub invariant-loop-number : goal.invariant-loop-number
invariant-loop-number g l = AreConditions (take l.number (map g.T.AsStr.text l.texts)) l.conditions.items
