-- The tokens of senders that have ended, by their workers.
use Rattle.std.specs.Prelude.{◌≡◌, ℕ, ◌≤◌, ◌==◌, true, if◌then◌else◌, List, [], ◌∷◌, length}
use Rattle.std.specs.Prelude.{count_by}
use Rattle.tk_ids.specs.declared.descriptors.Descriptor.{Descriptor}
use Rattle.tk_events.specs.declared.events.Event.{Event}
use Rattle.tk_queue_session.specs.Limits.{most_workers}
use Rattle.tk_queue_session.specs.declared.session_rules.PassView.{PassView}
use Rattle.tk_queue_session.specs.Emission.{Emission}
use Rattle.tk_queue_session.specs.PassViews.{pass_of_sender}
use Rattle.tk_queue_session.specs.Senders.{SenderView, sent_of}

-- the fields of a token stand for what its pass knows
pub record IsEnded (v : PassView) (table : List Descriptor) (worker emitted : ℕ) : Type 0 where
  pub is : v ≡ pass_of_sender (length table) worker (sent_of v) true
  pub counted : emitted ≡ length (sent_of v)
  pub may : Emission (length table) worker (sent_of v)
  pub few : worker ≤ most_workers

-- how many tokens worker w has
abbrev pub tokens_of : ℕ → List SenderView → ℕ
tokens_of w tokens = count_by (λ t. t.worker == w) tokens

-- what worker w sent, by its token; nothing where it has none
abbrev pub sent_by : List SenderView → ℕ → List Event
sent_by [] w = []
sent_by (t ∷ ts) w = if t.worker == w then t.sent else sent_by ts w
