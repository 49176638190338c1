use Rattle.std.proofs.Common.{Some, map, ap, sym, ◌∙◌}
use Rattle.tk_plan_json.specs.Checks.{member_at}
use Rattle.tk_plan_json.proofs.UnknownMembers.{is_known, unknown_among, unknown_by_name, next_unknown, next_known}
use Rattle.tk_plan_json.proofs.members.json_members.first_unknown.Goals as goal

pub loop-name-init : goal.loop-name-init
loop-name-init c = λ at.
    let names = map (λ n. n.now) c.args.names.now in
    unknown_by_name names at c.args.members.now.entries ∙ ap (unknown_among names at) (sym (c.into_iter-name-iterator.ensures.into_iter_gives ∙ c.keys-name-items.ensures.rest))

pub returns-then-not-is_among : goal.returns-then-not-is_among
returns-then-not-is_among c = λ at.
    let names = map (λ n. n.now) c.args.names.now in
    next_unknown names at _ _ c.in-Some.name.now c.next.new.self (c.loop-name.invariant at) c.in-Some.ensures.steps (ap (is_known names) (sym c.as_str.ensures.value) ∙ sym c.is_among.ensures ∙ c.if-not-is_among.true)
    ∙ ap (λ k. Some (member_at at k)) (sym c.as_str-then-not-is_among.ensures.value)

pub loop-name-preserved : goal.loop-name-preserved
loop-name-preserved c = λ at.
    let names = map (λ n. n.now) c.args.names.now in
    next_known names at _ _ c.in-Some.name.now c.next.new.self (c.loop-name.invariant at) c.in-Some.ensures.steps (ap (is_known names) (sym c.as_str.ensures.value) ∙ sym c.is_among.ensures ∙ c.if-not-is_among.false)
