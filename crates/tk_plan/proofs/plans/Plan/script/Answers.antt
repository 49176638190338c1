use Rattle.std.proofs.Common.{◌≡◌, ◌++◌, Result, Ok, Err, List, Vec, Global, All, IfOk, length, sym, ap, ◌∙◌, subst, arith}
use Rattle.tk_plan.specs.declared.scripts.steps.Step.{Step}
use Rattle.tk_plan.specs.Trees.{tree_of}
use Rattle.tk_plan.specs.Script.{moves, stamped}
use Rattle.tk_plan.specs.Cutting.{root_script}
use Rattle.tk_plan.specs.Known.{IsKnown}
use Rattle.tk_plan.specs.Planned.{IsWithin}
use Rattle.tk_plan.specs.Trees.{forest}
use Rattle.tk_plan.proofs.TreeMoves.{moves-length}
use Rattle.tk_plan.proofs.TreePositions.{nodes_are}
use Rattle.tk_plan.proofs.UnitScripts.{unit_script}
use Rattle.tk_plan.proofs.plans.Plan.script.Goals as goal

all_ok : {E : Type 0} (r : Result (Vec Step Global) E) (l : List Step) (P : List Step → Type 0) → IfOk r (λ v. v.items ≡ l) → P l → IfOk r (λ v. P v.items)
all_ok (Ok v) l P e h = subst P (sym e) h
all_ok (Err x) l P e h = e

pub push_tree-requires-clause-limit : goal.push_tree-requires-clause-limit
push_tree-requires-clause-limit c =
    let s = unit_script _ _ _ c.args.unit _ c.self.invariant.cut c.self.invariant.numbered (nodes_are _ _ c.self.view_is) c.requires c.unit_tree-first.ensures.piece in
    omega (arith, s.limit)

pub stamp_all-requires : goal.stamp_all-requires
stamp_all-requires c =
    let s = unit_script _ _ _ c.args.unit _ c.self.invariant.cut c.self.invariant.numbered (nodes_are _ _ c.self.view_is) c.requires c.unit_tree-first.ensures.piece in
    let t = tree_of c.unit_tree-first.result.top.now c.unit_tree-first.result.below.now in
    let made : c.as_slice.result.now ≡ moves t = c.as_slice.ensures.value ∙ c.in_ok-push_tree.ensures ∙ ap (λ l. l ++ moves t) c.new-moves.ensures.items in
    omega (arith, s.limit, ap length made, moves-length t)

pub returns-clause-within : goal.returns-clause-within
returns-clause-within c =
    let s = unit_script _ _ _ c.args.unit _ c.self.invariant.cut c.self.invariant.numbered (nodes_are _ _ c.self.view_is) c.requires c.unit_tree-first.ensures.piece in
    let t = tree_of c.unit_tree-first.result.top.now c.unit_tree-first.result.below.now in
    let first = c.unit_tree-first.result.first in
    let made : c.as_slice.result.now ≡ moves t = c.as_slice.ensures.value ∙ c.in_ok-push_tree.ensures ∙ ap (λ l. l ++ moves t) c.new-moves.ensures.items in
    all_ok _ (stamped first c.as_slice.result.now) (λ l. IsWithin l (root_script (forest c.args.self.now.nodes))) c.stamp_all.ensures
    (subst (λ l. IsWithin l (root_script (forest c.args.self.now.nodes))) (s.script ∙ sym (ap (stamped first) made)) s.within)

pub returns-clause-known : goal.returns-clause-known
returns-clause-known c =
    let s = unit_script _ _ _ c.args.unit _ c.self.invariant.cut c.self.invariant.numbered (nodes_are _ _ c.self.view_is) c.requires c.unit_tree-first.ensures.piece in
    let t = tree_of c.unit_tree-first.result.top.now c.unit_tree-first.result.below.now in
    let first = c.unit_tree-first.result.first in
    let made : c.as_slice.result.now ≡ moves t = c.as_slice.ensures.value ∙ c.in_ok-push_tree.ensures ∙ ap (λ l. l ++ moves t) c.new-moves.ensures.items in
    all_ok _ (stamped first c.as_slice.result.now) (λ l. All (λ s. IsKnown c.args.self.now.nodes s.node s.act) l) c.stamp_all.ensures
    (subst (λ l. All (λ s. IsKnown c.args.self.now.nodes s.node s.act) (stamped first l)) (sym made) s.known)
