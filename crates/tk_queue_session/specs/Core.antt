-- The core of a session, as a machine, and its steps.
use Rattle.std.specs.Prelude.{◌≡◌, ℕ, ◌==◌, Bool, true, false, if◌then◌else◌, List, [], ◌∷◌, ◌++◌}
use Rattle.std.specs.Prelude.{map, filter}
use Rattle.tk_events.specs.declared.events.Event.{Event}
use Rattle.tk_events.specs.declared.events.Entry.{Entry}
use Rattle.tk_record.specs.Mixing.{IsWorkerOf}
use Rattle.tk_queue_session.specs.declared.items.Item.{Item}
use Rattle.tk_queue_session.specs.declared.items.Item.TheVariants.{Entry as Emitted, End}

-- the worker that put the item into the queue
abbrev pub worker_of : Item → ℕ
worker_of (Emitted e) = e.worker
worker_of (End w) = w

-- the items of worker w, in their order
abbrev pub items_of : ℕ → List Item → List Item
items_of w xs = filter (λ x. worker_of x == w) xs

-- an event of worker w, as an item
abbrev pub entry : ℕ → Event → Item
entry w e = Emitted (record { worker = w; event = e })

-- the events of worker w as items, and its mark where it ended
abbrev pub script : ℕ → List Event → Bool → List Item
script w events ended = map (entry w) events ++ (if ended then End w ∷ [] else [])

-- what each worker sent and whether it ended, by its number, what was taken and what waits
pub record Core : Type 0 where
  pub sent : ℕ → List Event
  pub ended : ℕ → Bool
  pub taken : List Item
  pub waiting : List Item

-- what was taken of each worker, and then what waits of it, is what it sent, and no item is of
-- another worker
pub record IsCore (workers : ℕ) (c : Core) : Type 0 where
  pub kept : (w : ℕ) → items_of w (c.taken ++ c.waiting) ≡ script w (c.sent w) (c.ended w)
  pub others : (w : ℕ) → ¬ IsWorkerOf workers w → (c.sent w ≡ []) × (c.ended w ≡ false)

-- f, but x at w
abbrev pub put : {X : Type 0} → (ℕ → X) → ℕ → X → ℕ → X
put f w x v = if v == w then x else f v

-- worker w, which has not ended, emits e
abbrev pub emit : ℕ → Event → Core → Core
emit w e c = record {
  sent = put c.sent w (c.sent w ++ e ∷ []);
  ended = c.ended;
  taken = c.taken;
  waiting = c.waiting ++ entry w e ∷ [];
}

-- worker w, which has not ended, ends
abbrev pub finish : ℕ → Core → Core
finish w c = record {
  sent = c.sent;
  ended = put c.ended w true;
  taken = c.taken;
  waiting = c.waiting ++ End w ∷ [];
}

-- the step that puts this item at the back
abbrev pub push : Item → Core → Core
push (Emitted e) c = emit e.worker e.event c
push (End w) c = finish w c

-- the first waiting item, x, is taken, and xs are the others
abbrev pub take_first : Item → List Item → Core → Core
take_first x xs c =
    record { sent = c.sent; ended = c.ended; taken = c.taken ++ x ∷ []; waiting = xs }

-- the entries among the items, in order
abbrev pub entries : List Item → List Entry
entries [] = []
entries (Emitted e ∷ xs) = e ∷ entries xs
entries (End w ∷ xs) = entries xs
