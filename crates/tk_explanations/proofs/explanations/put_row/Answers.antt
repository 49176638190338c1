use Rattle.std.proofs.Common.{ap, ◌∙◌}
use Rattle.tk_events.specs.Fields.{field_text}
use Rattle.tk_streams.proofs.PieceLemmas.{adds_as, adds_both}
use Rattle.tk_explanations.proofs.PieceRows.{◌▹◌}
use Rattle.tk_explanations.proofs.explanations.put_row.Goals as goal

pub returns-in-Condition : goal.returns-in-Condition
returns-in-Condition g c =
    rw c.in-Condition.is
    (adds_both _ _ _ _ _ c.put_number.ensures (adds_both _ _ _ _ _ c.put_byte.ensures
    (adds_as _ _ _ _ (c.as_bytes-in-Condition.ensures.value ∙ c.as_str-in-Condition.ensures)
    c.put-in-Condition.ensures)))

pub returns-in-Counts : goal.returns-in-Counts
returns-in-Counts g c =
    rw c.in-Counts.is
    (c.put_number-in-Counts.ensures ▹ c.put-in-Counts.ensures ▹ c.put_number-in-Counts-2.ensures
    ▹ c.put-in-Counts-2.ensures)

pub returns-in-Overlap : goal.returns-in-Overlap
returns-in-Overlap g c =
    rw c.in-Overlap.is
    (c.put_overlap.ensures
    ▹ adds_as _ _ _ _ (c.as_bytes-in-Overlap.ensures.value ∙ c.writers_words.ensures)
    c.put-in-Overlap.ensures)

pub returns-in-OverlapOver : goal.returns-in-OverlapOver
returns-in-OverlapOver g c =
    rw c.in-OverlapOver.is
    (c.put_overlap-in-OverlapOver.ensures ▹ c.put-in-OverlapOver.ensures
    ▹ adds_as _ _ _ _ (ap field_text c.as_str-in-OverlapOver.ensures) c.put_text.ensures)

pub returns-in-Executions : goal.returns-in-Executions
returns-in-Executions g c =
    rw c.in-Executions.is
    (c.put-in-Executions.ensures ▹ c.put_number-in-Executions.ensures
    ▹ c.put-in-Executions-2.ensures)

pub returns-in-More : goal.returns-in-More
returns-in-More g c =
    rw c.in-More.is
    (c.put-in-More.ensures ▹ c.put_number-in-More.ensures ▹ c.put-in-More-2.ensures)
