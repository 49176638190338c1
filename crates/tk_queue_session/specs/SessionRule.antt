-- The rule of a session's queue: what it holds and what the passes know is a state of the core.
use Rattle.std.specs.Prelude.{◌≡◌, ℕ, true, List, All}
use Rattle.tk_record.specs.Mixing.{IsWorkerOf}
use Rattle.tk_queue_session.specs.declared.items.Item.{Item}
use Rattle.tk_queue_session.specs.declared.session_rules.SenderPass.{SenderPass}
use Rattle.tk_queue_session.specs.declared.session_rules.PassView.{PassView}
use Rattle.tk_queue_session.specs.Emission.{Emission}
use mathlib.Core.Option.{some}
use lib.ListN.{get_elem?}
use Rattle.tk_queue_session.specs.Core.{Core, IsCore}
use Rattle.tk_queue_session.specs.declared.session_rules.PassView.TheVariants.{Sends, Takes, Spent}

-- a token's list is what its worker sent, and the worker has ended
abbrev pub Stands : Core → SenderPass → Type 0
Stands c s = (c.ended s.worker ≡ true) × (s.sent ≡ c.sent s.worker)

-- the numbers of a session's static descriptors and workers, and which pass each worker and the
-- receiver has
pub record SessionLayout : Type 0 where
  pub statics : ℕ
  pub workers : ℕ
  pub receiver : ℕ
  pub pass_of : ℕ → ℕ

-- what a pass knows is what the core has of its worker, or of what was taken
abbrev pub Fits : SessionLayout → Core → ℕ → PassView → Type 0
Fits layout c pass (Sends s) =
    (pass ≡ layout.pass_of s.worker) × IsWorkerOf layout.workers s.worker
    × (s.sent ≡ c.sent s.worker) × (s.ended ≡ c.ended s.worker) × (s.statics ≡ layout.statics)
Fits layout c pass (Takes r) =
    (pass ≡ layout.receiver) × (r.workers ≡ layout.workers) × (r.taken ≡ c.taken)
    × All (Stands c) r.tokens × (r.statics ≡ layout.statics)
Fits layout c pass Spent = Unit {0}

-- a queue that holds these items, and whose passes know this, shows a state of the core
pub record Session (items : List Item) (views : List PassView) : Type 0 where
  pub core : Core
  pub layout : SessionLayout
  pub waits : core.waiting ≡ items
  pub lawful : IsCore layout.workers core
  pub emitted : (w : ℕ) → Emission layout.statics w (core.sent w)
  pub fits :
      (pass : ℕ) (v : PassView) → get_elem? views pass ≡ some v → Fits layout core pass v

-- what the receiver knows: it has the session's state but for what waits, and each token stands
abbrev pub Concludes : PassView → List Item → Type 0
Concludes (Takes r) items =
    (c : Core) × IsCore r.workers c × (c.waiting ≡ items) × (c.taken ≡ r.taken)
    × All (Stands c) r.tokens
Concludes v items = Unit {0}
