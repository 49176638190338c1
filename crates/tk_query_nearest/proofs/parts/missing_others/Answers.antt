use Rattle.std.proofs.Common.{List, ℕ, not, ap, ◌∙◌}
use Rattle.std.specs.Prelude.{count_by}
use Rattle.tk_record.specs.Record.{entry_of_view}
use Rattle.tk_query_nearest.specs.Parts.{has_key}
use Rattle.tk_query_nearest.proofs.PartLemmas.{entry_lacks}
use Rattle.tk_query_nearest.proofs.parts.missing_others.Goals as goal

pub returns-in-Entry-clause-value : goal.returns-in-Entry-clause-value
returns-in-Entry-clause-value c =
    entry_lacks c.args.«record».now (entry_of_view c.args.event.now) c.in-Entry.pairs
    c.args.member.now c.lack_of_kind-in-Entry.result c.missing_keys.result c.in-Entry.is
    c.lack_of_kind-in-Entry.ensures.value
    (c.missing_keys.ensures.value
    ∙ ap (count_by (λ (p : List ℕ × List ℕ). not (has_key p.0 c.args.event.now.payload.now)))
    c.as_slice.ensures)
