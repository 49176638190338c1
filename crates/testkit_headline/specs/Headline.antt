-- The headline of README.md as one theorem: each field has a part of it as its comment. What a
-- field speaks of is what the code's own rules say between any two atomic steps, in every schedule:
-- a `Session` of the queue between workers and receiver, a word of a lock book with the notes of
-- all its seats (`HoldingsFitWord`).
use Rattle.std.specs.Prelude.{◌≡◌, ◌↔◌, ℕ, true, List, ◌++◌, filter, All, Option, Ok, Some}
use Rattle.std.specs.Io.KnownBytes.{Appends}
use Rattle.atomic_table.specs.Table.{State}
use Rattle.tk_events.specs.declared.events.Event.{Event}
use Rattle.tk_record.specs.Recorded.{Recorded}
use Rattle.tk_record.specs.Mixing.{Mix}
use Rattle.tk_record.specs.Statistics.{statistics_of, statistic_rows}
use Rattle.tk_record.specs.Selections.{Selected, events_of, filtered_by, selects}
use Rattle.tk_record.specs.declared.selections.Selection.{Selection}
use Rattle.tk_query_conditions.specs.declared.conditions.Condition.{Condition}
use Rattle.tk_query.specs.declared.answers.InOrder.{InOrder}
use Rattle.tk_query.specs.Asked.{fits}
use Rattle.tk_query.specs.InOrder.{CanHoldInTurn}
use Rattle.tk_query.specs.Matches.{IsInOrder}
use Rattle.tk_query.specs.AnswerTexts.{in_order_yes}
use Rattle.tk_locks.specs.NeedView.{NeedView}
use Rattle.tk_locks.specs.declared.rules.SeatNote.{SeatNote}
use Rattle.tk_locks.specs.Holdings.{WritersAreAlone}
use Rattle.tk_locks.specs.LockWord.{HoldingsFitWord, holdings}
use Rattle.tk_queue_session.specs.declared.items.Item.{Item}
use Rattle.tk_queue_session.specs.Core.{entries}
use Rattle.tk_queue_session.specs.declared.session_rules.PassView.{PassView}
use Rattle.tk_queue_session.specs.Emission.{entries_by}
use Rattle.tk_queue_session.specs.SessionRule.{Session}
use Rattle.tk_plan_runs.specs.Answers.{IsReported}
use Rattle.testkit_questions.specs.Laws.{Outcome, IsOutcome, IsSettled}
use Rattle.testkit_headline.specs.Recordings.{Completes, NothingAfterMarks, HoldsWhatWasSent}
use Rattle.testkit_headline.specs.Counting.{IsCount}
use Rattle.testkit_headline.specs.PlanReports.{report_in}

pub record Headline : Type 0 where
  -- In every schedule, a recording that completes holds each event that each worker emitted exactly
  -- once, in that worker's order,
  pub each_event_exactly_once_in_order :
      (items : List Item) (views : List PassView) (s : Session items views)
      → Completes s.layout.workers s.core.taken
      → Mix s.layout.workers (entries s.core.taken) s.core.sent
  -- and nothing of a worker after its end mark.
  pub nothing_of_a_worker_after_its_end_mark :
      (items : List Item) (views : List PassView) (s : Session items views)
      → NothingAfterMarks s.layout.workers (s.core.taken ++ s.core.waiting)
  -- A run's record holds those events, between the ones before and after its units.
  pub a_runs_record_holds_those_events :
      (items : List Item) (views : List PassView) (s : Session items views)
      (before after : List Event) (r : Recorded) → Completes s.layout.workers s.core.taken
      → r.entries ≡ entries_by 0 before ++ entries s.core.taken ++ entries_by 0 after
      → HoldsWhatWasSent before after s.layout.workers s.core.sent r
  -- Every statistic equals plain counting of that record,
  pub every_statistic_equals_plain_counting :
      (asked : Selected) → All (IsCount asked) (statistic_rows (statistics_of (events_of asked)))
  -- and every selection equals plain filtering.
  pub every_selection_equals_plain_filtering :
      (asked : Selected) (s : Selection)
      → events_of (filtered_by (selects s asked.recorded) asked)
      ≡ filter (selects s asked.recorded) (events_of asked)
  -- An in-order match says yes exactly where its conditions hold at increasing positions.
  pub match_says_yes_exactly_where_its_conditions_hold :
      (asked : Selected) (cs : List Condition) (answer : InOrder)
      → IsInOrder asked cs answer → (in_order_yes answer ≡ true) ↔ CanHoldInTurn (fits asked) cs
  -- Between lock-book steps no resource has a writer beside another holder.
  pub no_resource_has_a_writer_beside_another_holder :
      (seats : ℕ) (s : State NeedView SeatNote) → HoldingsFitWord seats s
      → WritersAreAlone (holdings s.views)
  -- The answer of `ask` is a function of its words and its input's bytes,
  pub answer_of_ask_is_a_function :
      (words : List (List ℕ)) (input : List ℕ) (a b : Outcome)
      → IsSettled a → IsSettled b → IsOutcome words input a → IsOutcome words input b → a ≡ b
  -- and the report of a plan is a function of the plan's bytes alone.
  pub report_of_a_plan_is_a_function_of_bytes_alone :
      (bytes : List ℕ) (workers : ℕ) (old new : Option (List ℕ))
      → IsReported bytes workers old new (Ok tt)
      → (text : List ℕ) × (report_in bytes ≡ Some text) × Appends old new text
