use Rattle.tk_engine_execute.proofs.WitnessValues.{kept_witnesses}
use Rattle.tk_engine_execute.proofs.laws.kept_witnesses.Goals as goal

pub returns : goal.returns
returns c = kept_witnesses
