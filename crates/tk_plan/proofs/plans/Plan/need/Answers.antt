use Rattle.std.proofs.Common.{◌≡◌, ◌<◌, subst, arith}
use Rattle.std.specs.Prelude.{bit_and}
use Rattle.tk_plan.specs.Planned.{IsNeedOf}
use Rattle.tk_plan.proofs.TreePositions.{nodes_are}
use Rattle.tk_plan.proofs.MaskMarks.{word_needed}
use Rattle.tk_plan.proofs.Masks.{same_need}
use Rattle.tk_plan.proofs.PlanParts.{unit_bound, unit_piece, unit_need}
use Rattle.tk_plan.proofs.plans.Plan.need.Goals as goal

pub index-requires : goal.index-requires
index-requires c = omega (arith, unit_bound _ _ _ c.args.unit c.self.invariant.cut (nodes_are _ _ c.self.view_is) c.requires, c.self.inside.cutting.units.ok)

pub returns-clause-need : goal.returns-clause-need
returns-clause-need c =
    let within = unit_bound _ _ _ c.args.unit c.self.invariant.cut (nodes_are _ _ c.self.view_is) c.requires in
    let p = unit_piece _ _ c.args.unit c.index.result.now c.self.invariant.cut within c.index.ensures in
    subst (λ ps. IsNeedOf ps c.args.unit c.index.result.now.need) (nodes_are _ _ c.self.view_is) (unit_need _ _ _ p.0 p.1)

pub returns-clause-word : goal.returns-clause-word
returns-clause-word c =
    let within = unit_bound _ _ _ c.args.unit c.self.invariant.cut (nodes_are _ _ c.self.view_is) c.requires in
    let p = unit_piece _ _ c.args.unit c.index.result.now c.self.invariant.cut within c.index.ensures in
    word_needed c.args.self.now.nodes c.args.unit c.index.result.now.need (subst (λ ps. IsNeedOf ps c.args.unit c.index.result.now.need) (nodes_are _ _ c.self.view_is) (unit_need _ _ _ p.0 p.1))

pub returns-clause-value : goal.returns-clause-value
returns-clause-value c =
    let within = unit_bound _ _ _ c.args.unit c.self.invariant.cut (nodes_are _ _ c.self.view_is) c.requires in
    let p = unit_piece _ _ c.args.unit c.index.result.now c.self.invariant.cut within c.index.ensures in
    let needed = c.index.result.now.need in
    same_need c.args.self.now.nodes c.args.unit needed
    (subst (λ reads. reads < 65536) c.reads.ensures.value c.reads.type_inv) (subst (λ writes. writes < 65536) c.writes.ensures.value c.writes.type_inv)
    (subst (λ reads. bit_and reads needed.writes ≡ 0) c.reads.ensures.value c.reads.ensures.disjoint)
    (subst (λ ps. IsNeedOf ps c.args.unit needed) (nodes_are _ _ c.self.view_is) (unit_need _ _ _ p.0 p.1))
