use Rattle.testkit_headline.proofs.WitnessValues.{met}
use Rattle.testkit_headline.proofs.laws.witnesses.Goals as goal

pub returns : goal.returns
returns c = met c.each_worker_has_its_list.ensures
