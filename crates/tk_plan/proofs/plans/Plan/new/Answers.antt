use Rattle.std.proofs.Common.{◌≤◌, ap, sym, ◌∙◌, subst, arith, length}
use Rattle.std.specs.Arc.{arc_value}
use Rattle.tk_plan.specs.declared.units.needs.TheConstants.{MAX_KEYS}
use Rattle.tk_plan.specs.Keys.{lock_keys}
use Rattle.tk_plan.specs.CutPlans.{IsPlan, IsCut}
use Rattle.tk_plan.specs.Numbers.{ArePositionsByNumber}
use Rattle.tk_plan.specs.Trees.{contents}
use Rattle.tk_plan.proofs.TableDescriptors.{few_nodes}
use Rattle.tk_plan.proofs.Numberings.{renumbered, numbered_once, same_contents_numbered}
use Rattle.tk_plan.proofs.NumberedPlans.{with_numbers, ready}
use Rattle.tk_plan.proofs.plans.Plan.new.Goals as goal

pub set_numbers-requires : goal.set_numbers-requires
set_numbers-requires c = omega (arith, few_nodes _ _ c.requires.planned, c.len-statics.ensures.limit, ap length c.as_mut_slice.ensures.value)

pub cut-requires : goal.cut-requires
cut-requires c =
    let is = with_numbers c.args.nodes.items _ _ _ c.args.nodes.len _ c.requires.planned (omega (arith, c.args.nodes.ok)) (c.len-statics.ensures.len ∙ ap length c.deref.ensures) c.as_mut_slice.ensures.value c.set_numbers.ensures in
    let here = c.as_slice.ensures.value ∙ is in
    let r = ready c.args.nodes.items _ _ c.requires.planned here in
    record {
      keys = c.requires.keys ∙ ap lock_keys (sym (same_contents_numbered c.args.nodes.items)) ∙ ap (λ ps. lock_keys (contents ps)) (sym here);
      few_keys = subst (λ l. length l ≤ MAX_KEYS) (sym c.requires.keys) c.requires.planned.few_keys;
      trees = r.trees;
      statics = r.statics;
      few = r.few;
      limit = r.events;
    }

pub invariant_of-result : goal.invariant_of-result
invariant_of-result c =
    let is = with_numbers c.args.nodes.items _ _ _ c.args.nodes.len _ c.requires.planned (omega (arith, c.args.nodes.ok)) (c.len-statics.ensures.len ∙ ap length c.deref.ensures) c.as_mut_slice.ensures.value c.set_numbers.ensures in
    let cutting = c.in_ok-cutting.cutting in
    let positions = c.in_ok-positions.positions.items in
    subst (λ ps. IsPlan ps (arc_value c.args.table) cutting positions) (sym is) (record {
      planned = renumbered c.args.nodes.items _ c.requires.planned;
      numbered = numbered_once c.args.nodes.items;
      cut = subst (λ ps. IsCut ps cutting) (c.as_slice.ensures.value ∙ is) c.in_ok-cutting.ensures;
      numbered_node = subst (λ ps. ArePositionsByNumber ps positions) (c.as_slice-2.ensures.value ∙ is) c.in_ok-positions.ensures;
    })

pub returns : goal.returns
returns c =
    let is = with_numbers c.args.nodes.items _ _ _ c.args.nodes.len _ c.requires.planned (omega (arith, c.args.nodes.ok)) (c.len-statics.ensures.len ∙ ap length c.deref.ensures) c.as_mut_slice.ensures.value c.set_numbers.ensures in
    ap (λ ps. record { nodes = ps; table = arc_value c.args.table }) is
