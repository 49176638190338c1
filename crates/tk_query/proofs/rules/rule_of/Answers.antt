use Rattle.std.proofs.Common.{ap, ◌&&◌}
use Rattle.tk_events.specs.declared.kinds.Kind.TheVariants as kind
use Rattle.tk_record.specs.Entries.{of_kind}
use Rattle.tk_query_conditions.specs.declared.conditions.Condition as condition
use Rattle.tk_query.specs.Holds.{reports}
use Rattle.tk_query.proofs.HoldsLemmas.{pairs_are}
use Rattle.tk_query.proofs.RuleLemmas.{ruled}
use Rattle.tk_query.proofs.rules.rule_of.Goals as goal

pub returns-in-Entry : goal.returns-in-Entry
returns-in-Entry c = ruled c.args.condition.now (condition.Entry c.in-Entry.pairs) _ c.in-Entry.is
    (λ r e. ap (λ pairs. of_kind kind.Reporting e && reports pairs e.event.payload) (pairs_are c.in-Entry.pairs))
