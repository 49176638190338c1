use Rattle.tk_plan_json.proofs.EntryPairs.{map_is_increasing}
use Rattle.tk_plan_json.proofs.members.result_members.pairs_of.Goals as goal

pub returns-clause-increasing : goal.returns-clause-increasing
returns-clause-increasing c = map_is_increasing _ c.into_iter-pair-iterator.ensures.into_iter_gives.5
