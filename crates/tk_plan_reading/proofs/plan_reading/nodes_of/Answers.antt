use Rattle.std.proofs.Common.{◌≡◌, ◌≤◌, ◌^◌, [], length, None, Err, option_map, refl, sym, ap, ◌∙◌, subst}
use Rattle.std.proofs.lemmas.Result.{err_from_is_err_and}
use Rattle.serde_json.specs.View.{view}
use Rattle.tk_plan.specs.Trees.{forest}
use Rattle.tk_plan.specs.Script.{moves_below}
use Rattle.std.specs.Option.{option_and_then}
use Rattle.tk_plan_json.proofs.Verdicts.{verdict-located}
use Rattle.tk_plan_reading.specs.FaultyNodes.{faulty_node}
use Rattle.tk_plan_reading.specs.PlanOf.{PlanOf, ok_unless, takes_files_in}
use Rattle.tk_plan_json.specs.NodeInputs.{root_at, node_inputs, grown}
use Rattle.tk_plan_reading.specs.steps.{Follow}
use Rattle.tk_plan_reading.proofs.TableRows.{plan_follows}
use Rattle.tk_plan_reading.proofs.PlanFromNodes.{refuses_as, top_fault, no_faulty_node, faulty_node_here, node_faults, node_named, no_node_fault, trees, too_many, not_many, planned}
use Rattle.tk_plan_reading.proofs.plan_reading.nodes_of.Goals as goal

pub returns-in_err-takes_files : goal.returns-in_err-takes_files
returns-in_err-takes_files c =
    let p = err_from_is_err_and c.from_residual.result c.from_residual.ensures.1 in
    let v = view c.args.value in
    rw (p.1, p.2) (record {
      plan = refuses_as _ (λ e. PlanOf v ≡ Err e) _ (λ path w. top_fault v path w) c.in_err-takes_files.ensures;
      node = (refuses_as _ (λ _. None ≡ faulty_node v) _ (λ path w. no_faulty_node v path w) c.in_err-takes_files.ensures, λ m. refl);
    })

pub returns-in_err-read : goal.returns-in_err-read
returns-in_err-read c =
    let p = err_from_is_err_and c.from_residual-in_err-read.result c.from_residual-in_err-read.ensures.1 in
    let v = view c.args.value in
    let r = view c.in_ok-takes_files.root in
    let s = root_at c.in_ok-takes_files.takes_files r in
    let here : s ≡ root_at (takes_files_in v) r = ap (λ b. root_at b r) c.in_ok-takes_files.ensures.1.0 in
    let top_is_fine = c.in_ok-takes_files.ensures.0 in
    let found = c.in_ok-takes_files.ensures.1.1 in
    rw (p.1, p.2) (record {
      plan = node_faults v r found top_is_fine s _ here c.in_err-read.ensures;
      node = node_named v r found top_is_fine s _ here c.in_err-read.ensures;
    })

pub count_events-requires : goal.count_events-requires
count_events-requires c = trees (root_at c.in_ok-takes_files.takes_files (view c.in_ok-takes_files.root)) refl _ (c.as_slice.ensures.value ∙ c.in_ok-read.ensures.1.nodes)

pub returns-in-None : goal.returns-in-None
returns-in-None c =
    let r = view c.in_ok-takes_files.root in
    let v = view c.args.value in
    let s = root_at c.in_ok-takes_files.takes_files r in
    let here : s ≡ root_at (takes_files_in v) r = ap (λ b. root_at b r) c.in_ok-takes_files.ensures.1.0 in
    let read = c.in_ok-read.ensures in
    let none = verdict-located [] (node_inputs 60 s) ∙ ap (option_map (λ l. l.fault)) read.0 in
    rw c.from.ensures (record {
      plan = no_node_fault v r c.in_ok-takes_files.ensures.1.1 c.in_ok-takes_files.ensures.0 s here none
          ∙ ap (λ o. ok_unless o (grown 60 s)) (too_many s refl _ (c.as_slice.ensures.value ∙ read.1.nodes) c.in-None.ensures);
      node = (sym (ap (option_and_then (λ l. l.node)) read.0) ∙ faulty_node_here v r c.in_ok-takes_files.ensures.1.1 c.in_ok-takes_files.ensures.0 s here, λ m. refl);
    })

pub returns-in-Some-clause-plan : goal.returns-in-Some-clause-plan
returns-in-Some-clause-plan c =
    let r = view c.in_ok-takes_files.root in
    let s = root_at c.in_ok-takes_files.takes_files r in
    let read = c.in_ok-read.ensures in
    let none = verdict-located [] (node_inputs 60 s) ∙ ap (option_map (λ l. l.fault)) read.0 in
    let nodes = c.in_ok-read.read in
    let few = subst (λ l. length (moves_below 0 (forest l)) ≤ 2 ^ 20) c.as_slice.ensures.value (subst (λ x. x ≤ 2 ^ 20) c.in-Some.ensures.0 c.in-Some.ensures.1) in (
      grown 60 s,
      no_node_fault (view c.args.value) r c.in_ok-takes_files.ensures.1.1 c.in_ok-takes_files.ensures.0 s (ap (λ b. root_at b r) c.in_ok-takes_files.ensures.1.0) none
          ∙ ap (λ o. ok_unless o (grown 60 s)) (not_many s refl _ (c.as_slice.ensures.value ∙ read.1.nodes) (subst (λ x. x ≤ 2 ^ 20) c.in-Some.ensures.0 c.in-Some.ensures.1)),
      record {
        nodes = read.1.nodes;
        descriptors = read.1.descriptors;
        noted = read.1.noted;
        follow = subst (Follow []) (sym read.1.descriptors) (plan_follows 60 s refl none);
        planned = planned s refl nodes.nodes.items read.1.nodes nodes _ refl read.1.noted refl none read.1.descriptors refl few;
      },
    )
