use Rattle.std.proofs.Common.{length, All, sym, ap, ◌∙◌, subst, arith}
use Rattle.std.proofs.lemmas.Bool.{false≢true}
use Rattle.tk_plan.specs.Known.{IsKnown}
use Rattle.tk_plan.specs.Script.{stamped}
use Rattle.tk_plan.proofs.TreeMoves.{short_moves, two_steps}
use Rattle.tk_plan.proofs.TreePositions.{nodes_are}
use Rattle.tk_plan.proofs.UnitScripts.{unit_script}
use Rattle.tk_plan.proofs.plans.Plan.short_script.Goals as goal

pub overflow_add-finish : goal.overflow_add-finish
overflow_add-finish c =
    let s = unit_script _ _ _ c.args.unit _ c.self.invariant.cut c.self.invariant.numbered (nodes_are _ _ c.self.view_is) c.requires c.unit_tree-first.ensures.piece in
    omega (arith, s.limit)

pub returns-clause-steps : goal.returns-clause-steps
returns-clause-steps c =
    let tree = c.unit_tree-first.result in
    let s = unit_script _ _ _ c.args.unit _ c.self.invariant.cut c.self.invariant.numbered (nodes_are _ _ c.self.view_is) c.requires c.unit_tree-first.ensures.piece in
    let made = short_moves tree.top.now.node tree.top.now.number tree.below.now (c.is_short.ensures.0 c.if-not-is_short.false) in
    sym (ap (stamped tree.first) made) ∙ sym s.script

pub returns-clause-known : goal.returns-clause-known
returns-clause-known c =
    let tree = c.unit_tree-first.result in
    let s = unit_script _ _ _ c.args.unit _ c.self.invariant.cut c.self.invariant.numbered (nodes_are _ _ c.self.view_is) c.requires c.unit_tree-first.ensures.piece in
    let made = short_moves tree.top.now.node tree.top.now.number tree.below.now (c.is_short.ensures.0 c.if-not-is_short.false) in
    subst (λ ms. All (λ s. IsKnown c.args.self.now.nodes s.node s.act) (stamped tree.first ms)) made s.known

pub returns-then-not-is_short-clause-other : goal.returns-then-not-is_short-clause-other
returns-then-not-is_short-clause-other c = λ two.
    let tree = c.unit_tree-first.result in
    let s = unit_script _ _ _ c.args.unit _ c.self.invariant.cut c.self.invariant.numbered (nodes_are _ _ c.self.view_is) c.requires c.unit_tree-first.ensures.piece in
    let short = two_steps tree.top.now.node tree.top.now.number tree.below.now tree.first (ap length (sym s.script) ∙ two) in
    false≢true (sym c.if-not-is_short.true ∙ c.is_short.ensures.1 short)
