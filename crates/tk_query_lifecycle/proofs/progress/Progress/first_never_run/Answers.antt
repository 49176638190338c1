use Rattle.std.proofs.Common.{sym, ap, ◌∙◌}
use Rattle.std.specs.Prelude.{slice_get}
use Rattle.std.specs.Option.{option_copied}
use Rattle.tk_query_lifecycle.proofs.NeverRanLemmas.{each_runs}
use Rattle.tk_query_lifecycle.proofs.progress.Progress.first_never_run.Goals as goal

pub returns : goal.returns
returns c =
    each_runs c.args.record.now c.statics.key c.statics.invariant
    (ap (λ t. slice_get t c.statics.key) (sym c.table-table.ensures) ∙ sym c.get.ensures ∙ ap option_copied c.in_default.is)
