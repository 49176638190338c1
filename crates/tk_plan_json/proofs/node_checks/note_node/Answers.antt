use Rattle.std.proofs.Common.{◌++◌, ◌∷◌, [], ◌≤◌, ◌<◌, length, cond, refl, sym, ap, ◌∙◌, subst}
use Rattle.tk_plan.specs.Keys.{note_locks}
use Rattle.tk_plan.specs.Trees.{contents}
use Rattle.tk_plan_json.specs.steps.CodeValues.{json_segment_text}
use Rattle.tk_plan_json.specs.steps.Progress.{addition}
use Rattle.tk_plan_json.proofs.CheckSteps.{twice_fault, full_fault, resource_fault, no_fault, below_limit, not_false, not_true}
use Rattle.tk_plan_json.proofs.node_checks.note_node.Goals as goal

pub returns-then-not-branch : goal.returns-then-not-branch
returns-then-not-branch c = twice_fault (contents c.args.read.now.nodes.items) c.args.siblings.now (addition c.args.is_static (json_segment_text c.args.segment) (note_locks c.args.read.now.keys.keys c.args.locks.now)) (not_false _ _ c.in_ok-insert.ensures.answer c.if-not-branch.true)

pub returns-then-is_full : goal.returns-then-is_full
returns-then-is_full c = full_fault (contents c.args.read.now.nodes.items) c.args.siblings.now (addition c.args.is_static (json_segment_text c.args.segment) (note_locks c.args.read.now.keys.keys c.args.locks.now)) (not_true _ _ c.in_ok-insert.ensures.answer c.if-not-branch.false) (sym c.is_full.ensures ∙ c.if-is_full.true)

pub returns-then-len-gt-MAX_KEYS : goal.returns-then-len-gt-MAX_KEYS
returns-then-len-gt-MAX_KEYS c =
    let many : 15 < length c.note_all.new.keys.keys = rw (← c.len.ensures.len) c.if-len-gt-MAX_KEYS.true in
    resource_fault (contents c.args.read.now.nodes.items) c.args.siblings.now (addition c.args.is_static (json_segment_text c.args.segment) (note_locks c.args.read.now.keys.keys c.args.locks.now)) (not_true _ _ c.in_ok-insert.ensures.answer c.if-not-branch.false) (sym c.is_full.ensures ∙ c.if-is_full.false) (subst (λ l. 15 < length l) c.in_ok-note_all.ensures many)

pub returns : goal.returns
returns c =
    let new = not_true _ _ c.in_ok-insert.ensures.answer c.if-not-branch.false in
    let room = sym c.is_full.ensures ∙ c.if-is_full.false in
    let few : length c.note_all.new.keys.keys ≤ 15 = rw (← c.len.ensures.len) c.if-len-gt-MAX_KEYS.false in
    let few_keys = subst (λ l. length l ≤ 15) c.in_ok-note_all.ensures few in (
      no_fault (contents c.args.read.now.nodes.items) c.args.siblings.now (addition c.args.is_static (json_segment_text c.args.segment) (note_locks c.args.read.now.keys.keys c.args.locks.now)) new room few_keys,
      record {
        nodes = refl;
        descriptors = refl;
        dynamics = refl;
        keys = c.in_ok-note_all.ensures;
        few_keys = few_keys;
        room = below_limit 65536 _ room;
        siblings = c.in_ok-insert.ensures.segments ∙ ap (λ b. cond b (c.args.siblings.now ++ json_segment_text c.args.segment ∷ []) c.args.siblings.now) c.if-not-branch.false;
      },
    )
