use Rattle.tk_query_lifecycle.proofs.LifecycleIsUnique.{lifecycle_is_unique, break_is_final}
use Rattle.tk_query_lifecycle.proofs.laws.lifecycle_is_unique.Goals as goal

pub returns-clause-one : goal.returns-clause-one
returns-clause-one c = lifecycle_is_unique

pub returns-clause-broken : goal.returns-clause-broken
returns-clause-broken c = break_is_final
