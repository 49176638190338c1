use Rattle.std.proofs.Common.{subst}
use Rattle.tk_plan.specs.Numbers.{IsNumbered}
use Rattle.tk_plan.specs.Planned.{Outline, IsPlanned}
use Rattle.tk_engine_scripted.proofs.laws.lifecycle.Goals as goal

pub returns : goal.returns
returns c =
    let plan = c.args.engine.now in
    let planned = subst (λ (p : Outline). IsPlanned p.nodes p.table) c.plan.ensures c.table-table.ensures.planned in
    let numbers = subst (λ (p : Outline). IsNumbered p.nodes) c.plan.ensures c.table-table.ensures.numbered in record {
      keeps = c.lifecycle.ensures.keeps plan.nodes plan.table c.requires.0 c.args.results.now.recorded planned numbers c.requires.1;
      due = c.lifecycle.ensures.due plan.nodes plan.table c.requires.0 c.args.results.now.recorded planned numbers c.requires.1;
      kept = c.lifecycle.ensures.kept plan.nodes plan.table c.requires.0 c.args.results.now.recorded planned numbers c.requires.1;
    }
