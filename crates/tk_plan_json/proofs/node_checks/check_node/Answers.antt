use Rattle.std.proofs.lemmas.Result.{err_from_is_err_and}
use Rattle.std.proofs.lemmas.Bool.{and_from}
use Rattle.tk_plan_json.specs.steps.CodeValues.{seen}
use Rattle.tk_plan_json.specs.NodeInputs as spec
use Rattle.tk_plan_json.proofs.CheckSteps.{faults_also, faults_from_path, deep_fault, field_fault}
use Rattle.tk_plan_json.proofs.node_checks.check_node.Goals as goal

pub returns-then-node_input-gt-MAX_LEVELS : goal.returns-then-node_input-gt-MAX_LEVELS
returns-then-node_input-gt-MAX_LEVELS c = deep_fault _ (seen c.args.siblings.now c.args.node_input) c.if-node_input-gt-MAX_LEVELS.true

pub returns-in_err-fields : goal.returns-in_err-fields
returns-in_err-fields c =
    let p = err_from_is_err_and c.from_residual.result c.from_residual.ensures.1 in
    rw (p.1, p.2) (faults_from_path _ _ _ (λ path w. field_fault _ (seen c.args.siblings.now c.args.node_input) path c.if-node_input-gt-MAX_LEVELS.false w) c.in_err-fields.ensures)

pub returns-in_err-named : goal.returns-in_err-named
returns-in_err-named c =
    let p = err_from_is_err_and c.from_residual-in_err-named.result c.from_residual-in_err-named.ensures.1 in
    rw (p.1, p.2) (faults_also _ _ _ (λ e w. w) c.in_err-named.ensures)

pub returns : goal.returns
returns c =
    let f = c.in_ok-fields.ensures in
    let n = c.in_ok-named.ensures in
    let s : spec.NodeInput = seen c.args.siblings.now c.args.node_input in
    rw c.into_checked.ensures (
      n.0,
      record {
        node = λ i. record {
          is_static = c.args.node_input.place.is_static;
          dtype = f.1.heading.dtype i;
          segment = n.1.segment i;
          name = f.1.heading.name i;
          is_concurrent = f.1.concurrency.is_concurrent i;
          is_isolated = f.1.concurrency.is_isolated i;
          locks = f.1.concurrency.locks i;
          skip = f.1.content.skip i;
          outcome = f.1.content.outcome i;
          entries = f.1.content.reports.entries i;
          files = f.1.content.files.paths i;
        };
        id = n.1.id;
        leaf = f.1.leaf;
        lawful = and_from _ _ f.1.content.reports.increasing f.1.content.files.lawful;
        level = c.if-node_input-gt-MAX_LEVELS.false;
        entered = n.1.entered;
      },
    )
