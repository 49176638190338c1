-- When a session closes, what is known then, and the first reason why it does not.
use Rattle.std.specs.Prelude.{◌≡◌, ℕ, ◌<◌, ◌==◌, true, false, if◌then◌else◌, List, [], ◌∷◌, map}
use Rattle.atomic_table.specs.Seated.{TableId}
use Rattle.tk_events.specs.declared.events.Event.{Event}
use Rattle.tk_record.specs.Mixing.{IsWorkerOf}
use Rattle.tk_queue_session.specs.declared.close_faults.CloseReason.{CloseReason}
use Rattle.tk_queue_session.specs.declared.close_faults.CloseReason.TheVariants.{Missing, Twice}
use Rattle.tk_queue_session.specs.declared.close_faults.CloseReason.TheVariants.{NotDrained}
use Rattle.tk_queue_session.specs.declared.session_rules.PassView.{PassView}
use Rattle.tk_queue_session.specs.declared.session_rules.PassView.TheVariants.{Takes}
use Rattle.tk_queue_session.specs.Senders.{SenderView}
use Rattle.tk_queue_session.specs.Receivers.{ReceiverView, is_marked}
use Rattle.tk_queue_session.specs.Tokens.{tokens_of, sent_by}
use Rattle.tk_queue_session.specs.Core.{items_of, script}

-- A session that was closed: what each token's worker sent, beside the worker's number, and how
-- many events that were, by the workers' numbers.
pub record ClosedView : Type 0 where
  pub session : TableId
  pub lists : List (ℕ × List Event)
  pub emitted : List ℕ

-- the list beside the worker's number; nothing where it has none
abbrev pub list_of : List (ℕ × List Event) → ℕ → List Event
list_of [] w = []
list_of (x ∷ xs) w = if x.0 == w then x.1 else list_of xs w

-- what worker w of the session sent, in its order
abbrev pub sent_in : ClosedView → ℕ → List Event
sent_in closed w = list_of closed.lists w

-- what the workers sent whose tokens the receiver's pass took in
abbrev pub lists_of : PassView → List (ℕ × List Event)
lists_of (Takes r) = map (λ s. (s.worker, s.sent)) r.tokens
lists_of v = []

-- w is the least worker at which P holds
pub record Least (n : ℕ) (P : ℕ → Type 0) (w : ℕ) : Type 0 where
  pub worker : IsWorkerOf n w
  pub holds : P w
  pub below : (v : ℕ) → IsWorkerOf n v → v < w → ¬ P v

-- each worker has one token, and its mark was taken
pub record IsComplete (r : ReceiverView) (tokens : List SenderView) : Type 0 where
  pub once : (w : ℕ) → IsWorkerOf r.workers w → tokens_of w tokens ≡ 1
  pub drained : (w : ℕ) → IsWorkerOf r.workers w → is_marked w r.taken ≡ true

-- in what was taken, each worker's items are the events that it sent, and after them its mark
abbrev pub EndWithMarks : ReceiverView → List SenderView → Type 0
EndWithMarks r tokens =
    (w : ℕ) → IsWorkerOf r.workers w → items_of w r.taken ≡ script w (sent_by tokens w) true

-- the first reason that stands, at the least worker
abbrev pub IsCloseFault : CloseReason → ReceiverView → List SenderView → Type 0
IsCloseFault (Missing w) r tokens = Least r.workers (λ v. tokens_of v tokens ≡ 0) w
IsCloseFault (Twice w) r tokens =
    ((v : ℕ) → IsWorkerOf r.workers v → 0 < tokens_of v tokens)
    × Least r.workers (λ v. 1 < tokens_of v tokens) w
IsCloseFault (NotDrained w) r tokens =
    ((v : ℕ) → IsWorkerOf r.workers v → tokens_of v tokens ≡ 1)
    × Least r.workers (λ v. is_marked v r.taken ≡ false) w
