use Rattle.std.proofs.Common.{◌≡◌, take}
use Rattle.testkit_questions.specs.Answers.{events_where}
use Rattle.testkit_questions.proofs.answers.events_where.Given as goal

abbrev pub invariant-conditions : goal.invariant-conditions
invariant-conditions l = l.events ≡ events_where l.fn.selection (take l.condition-index l.conditions) l.«record»
