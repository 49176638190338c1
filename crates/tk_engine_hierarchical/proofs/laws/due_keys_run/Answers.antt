use Rattle.std.proofs.Common.{◌≡◌, sym, ap, subst, ◌∙◌}
use Rattle.std.specs.Prelude.{Some, slice_get}
use Rattle.tk_ids.specs.Table.{AreDifferent, ids_of}
use Rattle.tk_record.specs.Record.{IsRecord}
use Rattle.tk_record.specs.Recorded.{Recorded}
use Rattle.tk_query_lifecycle.specs.Lifecycle.{IsLifecycle}
use Rattle.tk_query_lifecycle.specs.NeverRan.{EachDueKeyRuns}
use Rattle.tk_query_lifecycle.specs.declared.lifecycle_rules.Lifecycle.TheVariants.{Kept}
use Rattle.tk_run_laws.proofs.Turns.{long_ids}
use Rattle.tk_engine_hierarchical.proofs.DueKeys.{due_keys_run}
use Rattle.tk_engine_hierarchical.proofs.laws.due_keys_run.Goals as goal

pub returns : goal.returns
returns g c =
    let s = c.args.engine.now.shape in
    let r = c.args.results.now.recorded in
    let is : IsRecord r = subst IsRecord c.recorded.ensures c.shows_record.ensures in
    let different : AreDifferent r.table = subst AreDifferent
    (c.table.ensures ∙ ap (λ (x : Recorded). x.table) c.recorded-2.ensures)
    c.shows_different_ids.ensures in
    let due : EachDueKeyRuns r = due_keys_run r is c.lifecycle.ensures different
    (λ key id its. long_ids s.plan.nodes s.plan.table c.shows_shape.ensures.planned key id
    (subst (λ t. slice_get (ids_of t) key ≡ Some id) c.requires.1.over its))
    c.turns.ensures in
    record {
      due = due;
      kept = λ answer.
          let kept = (c.kept_by_its_events.ensures.kept r different).1
          (c.lifecycle.ensures, due) in (
            λ is. c.lifecycle_is_unique.ensures.one r answer Kept is kept,
            λ same. subst
                (IsLifecycle r) (sym same) kept,
          );
    }
