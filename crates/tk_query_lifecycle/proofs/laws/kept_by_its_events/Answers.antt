use Rattle.tk_query_lifecycle.proofs.KeepLemmas.{in_order_by_its_events, kept_by_its_events}
use Rattle.tk_query_lifecycle.proofs.NeverRanLemmas.{kept_roots_run}
use Rattle.tk_query_lifecycle.proofs.laws.kept_by_its_events.Goals as goal

pub returns-clause-in_order : goal.returns-clause-in_order
returns-clause-in_order c = in_order_by_its_events

pub returns-clause-kept : goal.returns-clause-kept
returns-clause-kept c = kept_by_its_events

pub returns-clause-roots : goal.returns-clause-roots
returns-clause-roots c = kept_roots_run
