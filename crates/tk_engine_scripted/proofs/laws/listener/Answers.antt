use Rattle.std.proofs.Common.{subst}
use Rattle.tk_plan.specs.Numbers.{IsNumbered}
use Rattle.tk_plan.specs.Planned.{Outline, IsPlanned}
use Rattle.tk_engine_scripted.proofs.laws.listener.Goals as goal

pub returns : goal.returns
returns c =
    let plan = c.args.engine.now in
    let planned = subst (λ (p : Outline). IsPlanned p.nodes p.table) c.plan.ensures c.table-table.ensures.planned in
    let numbers = subst (λ (p : Outline). IsNumbered p.nodes) c.plan.ensures c.table-table.ensures.numbered in
    c.listener.ensures plan.nodes plan.table c.requires.0 c.args.results.now.recorded planned numbers c.requires.1
