-- What one step leaves open, and which execution it ends.
use Rattle.std.specs.Prelude.{◌≡◌, ℕ, zero, suc, ◌-◌, ◌/◌, ◌%◌, ◌<◌, ◌==◌, if◌then◌else◌}
use Rattle.std.specs.Prelude.{List, [], ◌∷◌, ◌++◌, length, get_or, slice_get, Option, Some, None}
use Rattle.tk_events.specs.declared.events.Entry.{Entry}
use Rattle.tk_record.specs.Recorded.{Recorded}
use Rattle.tk_record.specs.Selections.{Selected}
use Rattle.tk_query.specs.ExecutionSteps.{step_at}
use Rattle.tk_query.specs.declared.pairing.Pairing.{Pairing}
use Rattle.tk_query.specs.declared.open_starts.TheConstants.{KEYS_IN_ROW}
use Rattle.tk_query.specs.declared.execution.Ending.TheVariants.{Skipped}
use Rattle.tk_query.specs.declared.execution.Execution.{Execution}
use Rattle.tk_query.specs.declared.execution_steps.Transition.{Transition}
use Rattle.tk_query.specs.declared.execution_steps.Transition.TheVariants.{Starts, Skips, Ends}
use Rattle.tk_query.specs.declared.execution_steps.ExecutionStep.{ExecutionStep}

-- the open start of a key, where the keys stand in rows of `KEYS_IN_ROW`
abbrev pub open_of : List (List (Option (ℕ × ℕ))) → ℕ → Option (ℕ × ℕ)
open_of rows key = get_or (get_or rows (key / KEYS_IN_ROW) []) (key % KEYS_IN_ROW) None

-- the start that a transition at position p leaves open, with its position and its stamp
abbrev pub opened : Transition → ℕ → ℕ → Option (ℕ × ℕ)
opened Starts p stamp = Some (p, stamp)
opened Skips p stamp = None
opened (Ends ending) p stamp = None

-- the start that a step at position p leaves open, with its position and its stamp
abbrev pub opened_by : ExecutionStep → ℕ → Option (ℕ × ℕ)
opened_by a p = opened a.transition p a.stamp

-- the execution that a step at position p with this transition ends, at the open start of its key
abbrev pub ended : ExecutionStep → ℕ → Transition → Option (ℕ × ℕ) → Option Execution
ended a p Starts started = None
ended a p Skips started =
    Some (record {
      key = a.key;
      first = p;
      last = p;
      start = a.stamp;
      stop = a.stamp;
      ending = Skipped;
    })
ended a p (Ends ending) None = None
ended a p (Ends ending) (Some started) =
    Some (record {
      key = a.key;
      first = started.0;
      last = p;
      start = started.1;
      stop = a.stamp;
      ending = ending;
    })

-- the execution that a step at position p ends, at the open start of its key
abbrev pub ended_by : ExecutionStep → ℕ → Option (ℕ × ℕ) → Option Execution
ended_by a p started = ended a p a.transition started

-- the open start of a key after what happens at position n
abbrev pub open_step : Option ExecutionStep → ℕ → ℕ → Option (ℕ × ℕ) → Option (ℕ × ℕ)
open_step None n key started = started
open_step (Some a) n key started = if a.key == key then opened_by a n else started

abbrev pub to_list : Option Execution → List Execution
to_list None = []
to_list (Some x) = x ∷ []

-- the execution that ends at position n, if one does, where these starts are open
abbrev pub end_step : Option ExecutionStep → ℕ → (ℕ → Option (ℕ × ℕ)) → List Execution
end_step None n starts = []
end_step (Some a) n starts = to_list (ended_by a n (starts a.key))

-- the executions that end at k positions from n on, before which these starts are open
abbrev pub ended_from :
    (ℕ → Option ExecutionStep) → (ℕ → Option (ℕ × ℕ)) → ℕ → ℕ → List Execution
ended_from steps starts n zero = []
ended_from steps starts n (suc k) =
    end_step (steps n) n starts
    ++ ended_from steps (λ key. open_step (steps n) n key (starts key)) (suc n) k

-- the executions of these events that are still to come
unfoldable pub rest_of : Selected → Pairing → List Execution
rest_of asked p =
    ended_from (step_at asked) (open_of p.starts) p.next (length asked.recorded.entries - p.next)

-- the key has a slot for its open start
abbrev pub HasSlot : List (List (Option (ℕ × ℕ))) → ℕ → Type 0
HasSlot rows key = key % KEYS_IN_ROW < length (get_or rows (key / KEYS_IN_ROW) [])

-- the key of each entry has a slot for its open start
pub record HaveSlots (r : Recorded) (rows : List (List (Option (ℕ × ℕ)))) : Type 0 where
  pub each : (i : ℕ) (e : Entry) → slice_get r.entries i ≡ Some e → HasSlot rows e.event.key
