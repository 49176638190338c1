-- What the turns of a replay put into the queue: the j-th turn of a worker gives item j of its
-- script followed by its mark, and the items stand in the order of the turns.
use Rattle.std.specs.Prelude.{◌≡◌, ℕ, ◌==◌, Bool, true, false, List, ◌∷◌, ◌++◌, length, count_by}
use Rattle.std.specs.Prelude.{slice_get, Option}
use Rattle.tk_events.specs.declared.events.Event.{Event}
use Rattle.tk_queue_session.specs.declared.items.Item.{Item}
use Rattle.tk_queue_replay.specs.declared.turns.Turn.{Turn}
use Rattle.tk_queue_replay.specs.declared.turns.Turn.TheVariants.{Worker, Take}
use Rattle.tk_queue_session.specs.Core.{script}
use Rattle.tk_queue_replay.specs.Replay.{script_of}

abbrev pub is_worker_turn : Turn → Bool
is_worker_turn (Worker w) = true
is_worker_turn Take = false

abbrev pub is_turn_of : ℕ → Turn → Bool
is_turn_of w (Worker v) = v == w
is_turn_of w Take = false

-- the item of a turn of worker w that comes after these turns: the worker's next event, its mark
-- after the last, and none after the mark
abbrev pub item_after : List (List Event) → List Turn → ℕ → Option Item
item_after scripts before w =
    slice_get (script w (script_of scripts w) true) (count_by (is_turn_of w) before)

-- the items are those of the workers' turns, in the order of the turns
pub record AreItemsOf (scripts : List (List Event)) (turns : List Turn) (items : List Item)
    : Type 0 where
  pub number : length items ≡ count_by is_worker_turn turns
  pub each :
      (before : List Turn) (w : ℕ) (after : List Turn) → turns ≡ before ++ Worker w ∷ after
      → slice_get items (count_by is_worker_turn before) ≡ item_after scripts before w
