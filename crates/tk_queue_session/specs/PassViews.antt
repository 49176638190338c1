-- What the passes of a session's queue know, and what each step makes of it. A pass is a sender's,
-- the receiver's, or spent.
use Rattle.std.specs.Prelude.{◌≡◌, ℕ, ◌<◌, Bool, true, false, List, [], ◌∷◌, ◌++◌, length, ◌+◌, ◌*◌}
use Rattle.tk_events.specs.declared.events.Event.{Event}
use Rattle.tk_record.specs.Mixing.{IsWorkerOf, of_worker}
use Rattle.tk_queue_session.specs.declared.items.Item.{Item}
use Rattle.tk_queue_session.specs.declared.items.Item.TheVariants.{Entry as Emitted, End}
use Rattle.tk_queue_session.specs.Core.{entries, worker_of}
use Rattle.tk_queue_session.specs.declared.session_rules.SenderPass.{SenderPass}
use Rattle.tk_queue_session.specs.declared.session_rules.PassView.{PassView}
use Rattle.tk_queue_session.specs.Limits.{most_events}
use Rattle.tk_queue_session.specs.Marks.{is_marked}
use Rattle.tk_queue_session.specs.Emission.{MayEmit}
use Rattle.tk_queue_session.specs.declared.session_rules.PassView.TheVariants.{Sends, Takes, Spent}

-- a receiver's pass: how many static descriptors and workers, what was taken, and the tokens
abbrev pub pass_of_receiver : ℕ → ℕ → List Item → List SenderPass → PassView
pass_of_receiver statics workers taken tokens =
    Takes (record { statics = statics; workers = workers; taken = taken; tokens = tokens })

-- a sender's pass: how many static descriptors, its worker, what it sent, and whether it ended
abbrev pub pass_of_sender : ℕ → ℕ → List Event → Bool → PassView
pass_of_sender statics w sent ended =
    Sends (record { statics = statics; worker = w; sent = sent; ended = ended })

-- the first pass of a queue
abbrev pub new_receiver : PassView
new_receiver = pass_of_receiver 0 0 [] []

-- what a sender's pass knows after its push of the item
abbrev pub pushed : PassView → Item → PassView
pushed (Sends s) (Emitted e) = pass_of_sender s.statics s.worker (s.sent ++ e.event ∷ []) s.ended
pushed (Sends s) (End w) = pass_of_sender s.statics s.worker s.sent true
pushed v x = v

-- what the receiver's pass knows after its pop of the item
abbrev pub popped : PassView → Item → PassView
popped (Takes r) x = pass_of_receiver r.statics r.workers (r.taken ++ x ∷ []) r.tokens
popped v x = v

-- the event of an entry may be emitted after those of its worker that were taken before
abbrev pub MayBeEmittedNext : ℕ → List Item → Item → Type 0
MayBeEmittedNext n taken (Emitted e) =
    MayEmit n e.worker (of_worker e.worker (entries taken)) e.event
    × (length (of_worker e.worker (entries taken)) < most_events)
MayBeEmittedNext n taken (End w) = Unit {0}

-- the receiver learns that the item is of a worker of the session whose mark was not taken before,
-- and that it may be emitted next
abbrev pub MayTake : PassView → Item → Type 0
MayTake (Takes r) x =
    IsWorkerOf r.workers (worker_of x) × MayBeEmittedNext r.statics r.taken x
    × (is_marked (worker_of x) r.taken ≡ false)
MayTake v x = Unit {0}

-- a pop, and what the receiver learns by it
abbrev pub Pops : PassView → Item → PassView → Type 0
Pops v x w = (w ≡ popped v x) × MayTake v x

-- the receiver's pass, with one bit more of how many static descriptors there are, highest first
abbrev pub with_bit : ℕ → PassView → PassView
with_bit b (Takes r) = pass_of_receiver (2 * r.statics + b) r.workers r.taken r.tokens
with_bit b v = v

-- the receiver's pass, with one worker more
abbrev pub with_worker : PassView → PassView
with_worker (Takes r) = pass_of_receiver r.statics (r.workers + 1) r.taken r.tokens
with_worker v = v

-- the pass of the worker that is added next
abbrev pub next_sender : PassView → PassView
next_sender (Takes r) = pass_of_sender r.statics (r.workers + 1) [] false
next_sender v = Spent

-- the receiver's pass, with the token of a sender that has ended
abbrev pub with_token : PassView → PassView → PassView
with_token (Takes r) (Sends s) =
    pass_of_receiver r.statics r.workers r.taken (r.tokens ++ s ∷ [])
with_token v w = v

-- what the sender may push next: an entry that may follow what it sent, or its mark
abbrev pub IsNext : SenderPass → Item → Type 0
IsNext s (Emitted e) =
    (e.worker ≡ s.worker) × MayEmit s.statics s.worker s.sent e.event
    × (length s.sent < most_events)
IsNext s (End w) = w ≡ s.worker

-- a sender that has not ended may push the item
abbrev pub MayPush : PassView → Item → Type 0
MayPush (Sends s) x = (s.ended ≡ false) × IsNext s x
MayPush v x = ⊥

-- the pass is the receiver's
abbrev pub IsReader : PassView → Type 0
IsReader (Takes r) = Unit {0}
IsReader v = ⊥

-- the pass is the receiver's, and no worker has one yet
abbrev pub IsFirst : PassView → Type 0
IsFirst (Takes r) = r.workers ≡ 0
IsFirst v = ⊥

-- the first pass is the receiver's, and the other that of a sender that has ended
abbrev pub MayTakeIn : PassView → PassView → Type 0
MayTakeIn (Takes r) (Sends s) = s.ended ≡ true
MayTakeIn v w = ⊥
