use Rattle.std.proofs.Common.{sym, ◌∙◌, ap, ap₂, slice_get, Some, drop, arith}
use Rattle.tk_plan.specs.Trees.{forest, tree}
use Rattle.tk_plan.specs.Cutting.{pieces_of}
use Rattle.tk_plan.proofs.TreePositions.{nodes_are}
use Rattle.tk_plan.proofs.PlanParts.{unit_bound, unit_piece, unit_found, stands}
use Rattle.tk_plan.proofs.plans.Plan.unit_tree.Goals as goal

pub index-plan_unit-requires : goal.index-plan_unit-requires
index-plan_unit-requires c = omega (arith, unit_bound _ _ _ c.args.unit c.self.invariant.cut (nodes_are _ _ c.self.view_is) c.requires, c.self.inside.cutting.units.ok)

pub tree_at-requires : goal.tree_at-requires
tree_at-requires c =
    let within = unit_bound _ _ _ c.args.unit c.self.invariant.cut (nodes_are _ _ c.self.view_is) c.requires in
    let p = unit_piece _ _ c.args.unit c.index-plan_unit.result.now c.self.invariant.cut within c.index-plan_unit.ensures in
    stands _ _ _ _ p.0 c.as_slice.ensures.value

pub returns-clause-below : goal.returns-clause-below
returns-clause-below c =
    let within = unit_bound _ _ _ c.args.unit c.self.invariant.cut (nodes_are _ _ c.self.view_is) c.requires in
    let p = unit_piece _ _ c.args.unit c.index-plan_unit.result.now c.self.invariant.cut within c.index-plan_unit.ensures in
    (unit_found _ _ _ _ p.0 _ _ p.1 c.as_slice.ensures.value c.tree_at.ensures).trees

pub returns-clause-piece : goal.returns-clause-piece
returns-clause-piece c =
    let within = unit_bound _ _ _ c.args.unit c.self.invariant.cut (nodes_are _ _ c.self.view_is) c.requires in
    let p = unit_piece _ _ c.args.unit c.index-plan_unit.result.now c.self.invariant.cut within c.index-plan_unit.ensures in
    let at = c.tree_at.ensures p.0.top p.0.below p.0.rest (ap (drop c.index-plan_unit.result.now.position) c.as_slice.ensures.value ∙ p.0.position) p.0.span in
    ap (λ ns. slice_get (pieces_of (forest ns)) c.args.unit) (sym (nodes_are _ _ c.self.view_is)) ∙ p.1
    ∙ ap₂ (λ t b. Some (record { tree = tree t.node t.number (forest b); first = c.index-plan_unit.result.now.first })) (sym at.0) (sym at.1)
