use Rattle.std.proofs.Common.{◌≡◌, ◌++◌, ◌∷◌, [], ◌≤◌, length, option_map, None, Some, sym, refl, ap, ap₂, ◌∙◌, subst}
use Rattle.std.proofs.lemmas.Result.{err_from_is_err_and}
use Rattle.tk_plan.specs.Keys.{note_locks}
use Rattle.tk_plan.specs.Trees.{contents}
use Rattle.tk_plan_json.specs.Checks.{first}
use Rattle.tk_plan_json.specs.Verdicts.{id_fault}
use Rattle.tk_plan_json.specs.steps.Progress.{addition, room_checks}
use Rattle.tk_plan_json.specs.steps.CodeValues.{seen, json_segment_text}
use Rattle.tk_plan_json.specs.NodeInputs as spec
use Rattle.tk_plan_json.specs.NodeInputs.{node_of, segment_of}
use Rattle.tk_plan_json.proofs.CheckSteps.{Passes, faults_also, repeat_fault, id_fault_here, room_verdict, keys_as}
use Rattle.tk_plan_json.proofs.node_checks.check_fields.Goals as goal
use Rattle.tk_plan_json.specs.declared.faults.PlanFault.TheVariants.{Id}

pub returns-then-fields : goal.returns-then-fields
returns-then-fields c =
    let q = c.requires in
    repeat_fault _ (seen c.args.siblings.now c.args.node_input) q.level q.members (sym q.fields.content.reports.repeats ∙ c.if-fields.true)

pub returns-in_err-named : goal.returns-in_err-named
returns-in_err-named c =
    let p = err_from_is_err_and c.from_residual.result c.from_residual.ensures.1 in
    let q = c.requires in
    let s : spec.NodeInput = seen c.args.siblings.now c.args.node_input in
    let seg : json_segment_text c.args.fields.now.heading.segment ≡ segment_of s = λ i. record { tag = q.fields.heading.segment.first i; value = q.fields.heading.segment.second i } in
    rw (p.1, p.2) (faults_also _ _ _ (λ e w. id_fault_here _ s e q.level q.members (sym q.fields.content.reports.repeats ∙ c.if-fields.false) (ap (λ x. option_map Id (id_fault s.above x)) (sym seg) ∙ w)) c.in_err-named.ensures)

pub returns-in_err-note_node : goal.returns-in_err-note_node
returns-in_err-note_node c =
    let p = err_from_is_err_and c.from_residual-in_err-note_node.result c.from_residual-in_err-note_node.ensures.1 in
    let q = c.requires in
    let s : spec.NodeInput = seen c.args.siblings.now c.args.node_input in
    let seg : json_segment_text c.args.fields.now.heading.segment ≡ segment_of s = λ i. record { tag = q.fields.heading.segment.first i; value = q.fields.heading.segment.second i } in
    let passes : Passes s = record {
      level = q.level;
      members = q.members;
      once = sym q.fields.content.reports.repeats ∙ c.if-fields.false;
      id = ap (λ x. option_map Id (id_fault s.above x)) (sym seg) ∙ c.in_ok-named.ensures.0;
    } in
    let before = contents c.args.read.now.nodes.items in
    let keys = keys_as before (node_of s) _ (note_locks c.args.read.now.keys.keys c.as_slice.result.now) _ refl q.noted.keys (c.as_slice.ensures ∙ q.fields.concurrency.locks) in
    rw (p.1, p.2) (faults_also _ _ _ (λ e w. room_verdict before s (Some e) passes (sym (ap₂ (λ x k. first (room_checks before s.earlier (addition s.is_static x k))) seg keys) ∙ w)) c.in_err-note_node.ensures)

pub returns : goal.returns
returns c =
    let q = c.requires in
    let n = c.in_ok-named.ensures in
    let e = c.in_ok-note_node.ensures in
    let s : spec.NodeInput = seen c.args.siblings.now c.args.node_input in
    let seg : json_segment_text c.args.fields.now.heading.segment ≡ segment_of s = λ i. record { tag = q.fields.heading.segment.first i; value = q.fields.heading.segment.second i } in
    let passes : Passes s = record {
      level = q.level;
      members = q.members;
      once = sym q.fields.content.reports.repeats ∙ c.if-fields.false;
      id = ap (λ x. option_map Id (id_fault s.above x)) (sym seg) ∙ n.0;
    } in
    let before = contents c.args.read.now.nodes.items in
    let keys = keys_as before (node_of s) _ (note_locks c.args.read.now.keys.keys c.as_slice.result.now) _ refl q.noted.keys (c.as_slice.ensures ∙ q.fields.concurrency.locks) in (
      room_verdict before s None passes (sym (ap₂ (λ x k. first (room_checks before s.earlier (addition s.is_static x k))) seg keys) ∙ e.0),
      record {
        segment = n.1.segment ∙ seg;
        id = n.1.id ∙ ap (λ x. s.above ++ x ∷ []) seg;
        entered = record {
          nodes = e.1.nodes;
          descriptors = e.1.descriptors;
          dynamics = e.1.dynamics;
          keys = e.1.keys ∙ keys;
          few_keys = subst (λ l. length l ≤ 15) keys e.1.few_keys;
          room = e.1.room;
          siblings = e.1.siblings ∙ ap (λ x. s.earlier ++ x ∷ []) seg;
        };
      },
    )
