use Rattle.std.proofs.Common.{◌+◌, ◌-◌}
use Rattle.std.specs.Vec.{vec_len}
use Rattle.tk_query.specs.steps.Rules.{AreAnswers}
use Rattle.tk_query.proofs.masks.answer_by_key.Given as goal

abbrev pub invariant-loop-answers : goal.invariant-loop-answers
invariant-loop-answers l = AreAnswers l.«record» l.test l.answers.items

abbrev pub decreases-loop-answers : goal.decreases-loop-answers
decreases-loop-answers l = l.index + 1 - vec_len l.answers
