use Rattle.std.proofs.Common.{codes, refl, ◌∙◌}
use Rattle.tk_plan_json.proofs.OnePass.{found_first, found_next, found_past, found_all, is_key, is_other}
use Rattle.tk_plan_json.proofs.node_members.NodeMembers.of.Goals as goal

pub loop-name-init : goal.loop-name-init
loop-name-init c = (found_first c.in-Object.members _ c.args.value c.into_iter-name-iterator.ensures.into_iter_gives.0 c.into_iter-name-iterator.ensures.into_iter_gives.6, refl)

pub loop-name-preserved-then-str_eq : goal.loop-name-preserved-then-str_eq
loop-name-preserved-then-str_eq c = (found_next _ _ _ c.in-Some.member _ c.in-Some.ensures.steps _ c.loop-name.invariant.0 (codes "type") (is_key c.in-Some.name.now _ _ c.as_str.ensures.value c.in-type.is), c.loop-name.invariant.1)

pub loop-name-preserved-then-str_eq-2 : goal.loop-name-preserved-then-str_eq-2
loop-name-preserved-then-str_eq-2 c = (found_next _ _ _ c.in-Some.member _ c.in-Some.ensures.steps _ c.loop-name.invariant.0 (codes "segment") (is_key c.in-Some.name.now _ _ c.as_str.ensures.value c.in-segment.is), c.loop-name.invariant.1)

pub loop-name-preserved-then-str_eq-3 : goal.loop-name-preserved-then-str_eq-3
loop-name-preserved-then-str_eq-3 c = (found_next _ _ _ c.in-Some.member _ c.in-Some.ensures.steps _ c.loop-name.invariant.0 (codes "name") (is_key c.in-Some.name.now _ _ c.as_str.ensures.value c.in-name.is), c.loop-name.invariant.1)

pub loop-name-preserved-then-str_eq-4 : goal.loop-name-preserved-then-str_eq-4
loop-name-preserved-then-str_eq-4 c = (found_next _ _ _ c.in-Some.member _ c.in-Some.ensures.steps _ c.loop-name.invariant.0 (codes "mode") (is_key c.in-Some.name.now _ _ c.as_str.ensures.value c.in-mode.is), c.loop-name.invariant.1)

pub loop-name-preserved-then-str_eq-5 : goal.loop-name-preserved-then-str_eq-5
loop-name-preserved-then-str_eq-5 c = (found_next _ _ _ c.in-Some.member _ c.in-Some.ensures.steps _ c.loop-name.invariant.0 (codes "isolated") (is_key c.in-Some.name.now _ _ c.as_str.ensures.value c.in-isolated.is), c.loop-name.invariant.1)

pub loop-name-preserved-then-str_eq-6 : goal.loop-name-preserved-then-str_eq-6
loop-name-preserved-then-str_eq-6 c = (found_next _ _ _ c.in-Some.member _ c.in-Some.ensures.steps _ c.loop-name.invariant.0 (codes "locks") (is_key c.in-Some.name.now _ _ c.as_str.ensures.value c.in-locks.is), c.loop-name.invariant.1)

pub loop-name-preserved-then-str_eq-7 : goal.loop-name-preserved-then-str_eq-7
loop-name-preserved-then-str_eq-7 c = (found_next _ _ _ c.in-Some.member _ c.in-Some.ensures.steps _ c.loop-name.invariant.0 (codes "skip") (is_key c.in-Some.name.now _ _ c.as_str.ensures.value c.in-skip.is), c.loop-name.invariant.1)

pub loop-name-preserved-then-str_eq-8 : goal.loop-name-preserved-then-str_eq-8
loop-name-preserved-then-str_eq-8 c = (found_next _ _ _ c.in-Some.member _ c.in-Some.ensures.steps _ c.loop-name.invariant.0 (codes "result") (is_key c.in-Some.name.now _ _ c.as_str.ensures.value c.in-result.is), c.loop-name.invariant.1)

pub loop-name-preserved-then-str_eq-9 : goal.loop-name-preserved-then-str_eq-9
loop-name-preserved-then-str_eq-9 c = (found_next _ _ _ c.in-Some.member _ c.in-Some.ensures.steps _ c.loop-name.invariant.0 (codes "entries") (is_key c.in-Some.name.now _ _ c.as_str.ensures.value c.in-entries.is), c.loop-name.invariant.1)

pub loop-name-preserved-then-str_eq-10 : goal.loop-name-preserved-then-str_eq-10
loop-name-preserved-then-str_eq-10 c = (found_next _ _ _ c.in-Some.member _ c.in-Some.ensures.steps _ c.loop-name.invariant.0 (codes "children") (is_key c.in-Some.name.now _ _ c.as_str.ensures.value c.in-children.is), c.loop-name.invariant.1)

pub loop-name-preserved : goal.loop-name-preserved
loop-name-preserved c = (found_next _ _ _ c.in-Some.member _ c.in-Some.ensures.steps _ c.loop-name.invariant.0 (codes "dynamic") (is_key c.in-Some.name.now _ _ c.as_str.ensures.value c.in-dynamic.is), c.loop-name.invariant.1)

pub loop-name-preserved-in_default-as_str : goal.loop-name-preserved-in_default-as_str
loop-name-preserved-in_default-as_str c =
    let t = c.as_str.ensures.value in
    let no = c.in_default-as_str in (
      found_past _ _ _ c.in-Some.member _ c.in-Some.ensures.steps _ c.loop-name.invariant.0
          (is_other c.in-Some.name.now _ _ t no.not-type) (is_other c.in-Some.name.now _ _ t no.not-segment) (is_other c.in-Some.name.now _ _ t no.not-name) (is_other c.in-Some.name.now _ _ t no.not-mode) (is_other c.in-Some.name.now _ _ t no.not-isolated) (is_other c.in-Some.name.now _ _ t no.not-locks) (is_other c.in-Some.name.now _ _ t no.not-skip) (is_other c.in-Some.name.now _ _ t no.not-result) (is_other c.in-Some.name.now _ _ t no.not-entries) (is_other c.in-Some.name.now _ _ t no.not-children) (is_other c.in-Some.name.now _ _ t no.not-dynamic),
      c.loop-name.invariant.1,
    )

pub returns-clause-members : goal.returns-clause-members
returns-clause-members c = found_all _ c.in-Object.members (c.loop-name.invariant.1 ∙ c.in-Object.is) _ _ c.into_iter-name-iterator.ensures.into_iter_gives.0 c.in-None.ensures.steps.0 c.loop-name.invariant.0
