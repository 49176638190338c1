use Rattle.std.proofs.Common.{refl, arith}
use Rattle.tk_plan.proofs.PlanParts.{planned}
use Rattle.tk_plan.proofs.units.cuttings.cut.Goals as goal

pub cut_all-requires-clause-limit : goal.cut_all-requires-clause-limit
cut_all-requires-clause-limit c = omega (arith, c.requires.limit, c.new-cutting.ensures.event_count)

pub returns : goal.returns
returns c =
    let new = c.new-cutting.ensures in
    planned c.args.nodes.now c.args.nodes.now c.args.keys.now _ _ refl c.requires.keys c.requires.trees c.requires.limit c.requires.statics
    new.spine new.unit_keys new.units new.starts new.finishes new.event_count c.in_ok-cut_all.ensures.event_count c.in_ok-cut_all.ensures.adds
