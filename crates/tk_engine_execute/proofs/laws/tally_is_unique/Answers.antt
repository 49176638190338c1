use Rattle.tk_engine_execute.proofs.Tokens.{one_tally}
use Rattle.tk_engine_execute.proofs.laws.tally_is_unique.Goals as goal

pub returns : goal.returns
returns c = one_tally
