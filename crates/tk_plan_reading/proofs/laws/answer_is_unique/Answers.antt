use Rattle.tk_plan_reading.specs.PlanAnswers.{plan_in}
use Rattle.tk_plan_reading.proofs.PlanLawSteps.{answers_agree}
use Rattle.tk_plan_reading.proofs.laws.answer_is_unique.Goals as goal

pub returns : goal.returns
returns c = λ bytes a b x y m n. answers_agree (plan_in bytes) a b x y m n
