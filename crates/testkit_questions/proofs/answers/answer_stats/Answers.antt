use Rattle.std.proofs.Common.{◌∙◌}
use Rattle.tk_record.proofs.PickedEntries.{if_ok_then}
use Rattle.testkit_questions.proofs.AnswerLemmas.{stats_are}
use Rattle.testkit_questions.proofs.answers.answer_stats.Goals as goal

pub returns : goal.returns
returns c =
    if_ok_then c.format_statistics.result _ _
    (λ answer h. stats_are c.args.selection c.args.expected.now c.args.«record».now
    c.in_ok-events.events c.statistics.result c.as_slice.result.now answer
    c.in_ok-events.ensures c.statistics.ensures
    (c.as_slice.ensures.value ∙ c.in_ok-mismatches.ensures) h)
    c.format_statistics.ensures
