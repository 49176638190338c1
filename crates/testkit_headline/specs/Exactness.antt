-- The words of the headline say neither less nor more than they should: what they say of something
-- is what is known of it already, or is true of one thing only.
use Rattle.std.specs.Prelude.{◌≡◌, ◌↔◌, ℕ, Bool, true, List, Option, Some, Ok}
use Rattle.tk_events.specs.declared.events.Event.{Event}
use Rattle.tk_record.specs.Recorded.{Recorded}
use Rattle.tk_record.specs.Mixing.{IsWorkerOf}
use Rattle.tk_record.specs.Selections.{Selected}
use Rattle.tk_record.specs.declared.selections.Selection.{Selection}
use Rattle.tk_plan.specs.Trees.{Tree}
use Rattle.tk_plan_reading.specs.PlanAnswers.{plan_in}
use Rattle.tk_plan_runs.specs.Answers.{plan_text}
use Rattle.tk_queue_session.specs.declared.items.Item.{Item}
use Rattle.tk_queue_session.specs.Core.{items_of, script}
use Rattle.testkit_headline.specs.Answers.{IsTheAnswer}
use Rattle.testkit_headline.specs.Counting.{IsCount}
use Rattle.testkit_headline.specs.PlanReports.{report_in}
use Rattle.testkit_headline.specs.Recordings.{Completes, NothingAfterMarks, HoldsWhatWasSent}

pub record Exactness : Type 0 where
  -- A recording completes, and has nothing of a worker after its end mark, exactly where the items
  -- of each worker are events and then its end mark. That is what `Receiver::close` says (`marks`).
  pub completes_with_nothing_after_marks :
      (n : ℕ) (items : List Item)
      → (Completes n items × NothingAfterMarks n items)
      ↔ ((w : ℕ) → IsWorkerOf n w
      → (events : List Event) × (items_of w items ≡ script w events true))
  -- A record holds one list of each worker.
  pub held_lists_are_unique :
      (before after : List Event) (n : ℕ) (a b : ℕ → List Event) (r : Recorded)
      → HoldsWhatWasSent before after n a r → HoldsWhatWasSent before after n b r
      → (w : ℕ) → IsWorkerOf n w → a w ≡ b w
  -- A selection has one count.
  pub count_is_unique :
      (asked : Selected) (s : Selection) (m n : ℕ)
      → IsCount asked (s, m) → IsCount asked (s, n) → m ≡ n
  -- Words and input have one answer, after which the target has one content.
  pub answer_is_unique :
      (words : List (List ℕ)) (input old : List ℕ) (a b : Bool) (new other : Option (List ℕ))
      → IsTheAnswer words input a (Some old) new → IsTheAnswer words input b (Some old) other
      → (a ≡ b) × (new ≡ other)
  -- Bytes have a report exactly where they are a plan, whose report it is.
  pub report_is_of_the_plan :
      (bytes text : List ℕ)
      → (report_in bytes ≡ Some text)
      ↔ ((t : Tree) × (plan_in bytes ≡ Ok t) × (plan_text t ≡ text))
