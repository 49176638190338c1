use Rattle.testkit_headline.proofs.Sessions.{mixes, nothing_after}
use Rattle.testkit_headline.proofs.Records.{counts, filters, yes_exactly, reported}
use Rattle.tk_locks.specs.LockWord.{holdings}
use Rattle.tk_queue_session.specs.Core.{entries}
use Rattle.testkit_headline.proofs.laws.headline.Goals as goal

pub returns : goal.returns
returns c = record {
  each_event_exactly_once_in_order = λ items views s completes.
      mixes s.layout.workers s.core s.lawful completes;
  nothing_of_a_worker_after_its_end_mark = λ items views s.
      nothing_after s.layout.workers s.core s.lawful;
  a_runs_record_holds_those_events = λ items views s before after r completes whole. record {
    mid = entries s.core.taken;
    whole = whole;
    mix = mixes s.layout.workers s.core s.lawful completes;
  };
  every_statistic_equals_plain_counting = counts;
  every_selection_equals_plain_filtering = filters;
  match_says_yes_exactly_where_its_conditions_hold = yes_exactly;
  no_resource_has_a_writer_beside_another_holder = λ seats s fit.
      (c.writers_are_alone.ensures (holdings s.views)).0 fit.compatible;
  answer_of_ask_is_a_function = c.answer_is_unique.ensures;
  report_of_a_plan_is_a_function_of_bytes_alone = reported;
}
