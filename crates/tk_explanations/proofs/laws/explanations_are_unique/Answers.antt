use Rattle.tk_explanations.proofs.OneExplanation.{explanations_are_unique}
use Rattle.tk_explanations.proofs.laws.explanations_are_unique.Goals as goal

pub returns : goal.returns
returns c = explanations_are_unique
