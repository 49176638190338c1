use Rattle.tk_query.proofs.HoldsLemmas.{engine_is}
use Rattle.tk_query.proofs.judging.is_engine.Goals as goal

pub returns : goal.returns
returns c = engine_is c.args.descriptor.now.id c.is_engine.result c.is_engine.ensures
