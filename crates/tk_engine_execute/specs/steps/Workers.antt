-- What a worker has when it starts and when it has ended.
use Rattle.std.specs.Prelude.{◌≡◌, ℕ, ◌+◌, ◌<◌, true, false, List, [], ◌∷◌, ◌++◌, length, slice_get}
use Rattle.std.specs.Prelude.{None, Some, IfSome, All}
use Rattle.std.specs.List.{AllPairs}
use Rattle.atomic_table.specs.Seated.{TableId}
use Rattle.tk_ids.specs.declared.descriptors.Descriptor.{Descriptor}
use Rattle.tk_events.specs.declared.events.Event.{Event}
use Rattle.tk_record.specs.Mixing.{IsWorkerOf}
use Rattle.tk_locks.specs.Books.{BookView, empty}
use Rattle.tk_claims.specs.Claims.{ClaimView, ClaimSeatView, fresh}
use Rattle.tk_queue_session.specs.Senders.{SenderView, fresh_senders}
use Rattle.tk_claims.specs.Run.{Emits}
use Rattle.tk_engine_execute.specs.Engines.{MayFail}
use Rattle.tk_engine_execute.specs.Work.{StoppedAt}
use Rattle.tk_engine_execute.specs.declared.engines.UnitFault.{UnitFault}
use Rattle.tk_engine_execute.specs.declared.workers.WorkerHandles.{WorkerHandles}
use Rattle.tk_engine_execute.specs.declared.workers.WorkerEnd.{WorkerEnd}
use Rattle.tk_engine_execute.specs.declared.workers.unstarted.UnstartedWorkers.{UnstartedWorkers}

-- what all workers of a run share: the claim on its units, its book, and the table of its engine
pub record SharedParts : Type 0 where
  pub claim : ClaimView
  pub book : BookView
  pub table : List Descriptor

abbrev pub shared_parts : ClaimView → BookView → List Descriptor → SharedParts
shared_parts claim book table = record { claim = claim; book = book; table = table }

-- the units of a run: the claim on them, which events each may emit, and with what each may fail
pub record RunUnits : Type 1 where
  pub claim : ClaimView
  pub may : ℕ → ℕ → ℕ → List Event → Type 0
  pub fails : ℕ → UnitFault → Type 0

-- the units of an engine that has `many` of them
abbrev pub run_units :
    ClaimView → (ℕ → ℕ → ℕ → List Event → Type 0) → ℕ → (ℕ → UnitFault → Type 0) → RunUnits
run_units claim may many fails =
    record { claim = claim; may = may; fails = MayFail many fails }

-- nothing was done with the handles, which are of these shared parts
pub record IsReady (shared : SharedParts) (h : WorkerHandles) : Type 0 where
  pub table_is : h.sender.table ≡ shared.table
  pub sent : h.sender.sent ≡ []
  pub claim_is : h.claim_seat.claim ≡ shared.claim
  pub numbers : h.claim_seat.numbers ≡ []
  pub book_is : h.book_seat.book ≡ shared.book
  pub holds : h.book_seat.holds ≡ None

-- A worker stopped at a unit that failed, and has not found that there are no more.
pub record IsStopped (may : ℕ → ℕ → ℕ → List Event → Type 0) (sender : SenderView)
    (seat : ClaimSeatView) (unit : ℕ) : Type 0 where
  pub unspent : seat.spent ≡ false
  pub stopped : StoppedAt may sender.worker seat.numbers sender.sent unit

-- What worker w has left: its token, its seat, and where no unit failed, the list that the units
-- that it drew may emit. A unit that failed is one that may fail so, and the worker stopped at it.
pub record IsDone (units : RunUnits) (session : TableId) (w : ℕ) (o : WorkerEnd) : Type 0 where
  pub session_is : o.ended.session ≡ session
  pub worker : o.ended.worker ≡ w
  pub claim_is : o.claim_seat.claim ≡ units.claim
  pub all : o.failure ≡ None → o.claim_seat.spent ≡ true
  pub emits : o.failure ≡ None → Emits units.may w 0 o.claim_seat.numbers o.ended.sent
  pub failed : IfSome o.failure (λ f. units.fails f.0 f.1)
  pub stopped : IfSome o.failure (λ f. IsStopped units.may o.ended o.claim_seat f.0)

-- the senders and seats of the workers 1, 2, .., who have done nothing
pub record AreUnstarted (session : TableId) (shared : SharedParts) (c : UnstartedWorkers)
    : Type 0 where
  pub senders : c.senders.items ≡ fresh_senders session shared.table (length c.senders.items)
  pub as_many_claim_seats : length c.claim_seats.items ≡ length c.senders.items
  pub as_many_book_seats : length c.book_seats.items ≡ length c.senders.items
  pub claim_seats : All (λ s. s ≡ fresh shared.claim) c.claim_seats.items
  pub book_seats : All (λ s. s ≡ empty shared.book) c.book_seats.items

-- the handles are those of the last worker, and the rest is left
pub record IsLastWorker (all rest : UnstartedWorkers) (h : WorkerHandles) : Type 0 where
  pub sender : all.senders.items ≡ rest.senders.items ++ h.sender ∷ []
  pub claim_seat : all.claim_seats.items ≡ rest.claim_seats.items ++ h.claim_seat ∷ []
  pub book_seat : all.book_seats.items ≡ rest.book_seats.items ++ h.book_seat ∷ []

-- worker i + 1 left end i
abbrev pub AllDone : RunUnits → TableId → List WorkerEnd → Type 0
AllDone units session worker_ends =
    (i : ℕ) (o : WorkerEnd) → slice_get worker_ends i ≡ Some o → IsDone units session (i + 1) o

-- Each end is what its worker has left, which is one of the workers 1 to n, and they stand in
-- the order of the workers. A worker without a thread has none.
pub record AreDone (units : RunUnits) (session : TableId) (n : ℕ) (worker_ends : List WorkerEnd)
    : Type 0 where
  pub each : All (λ o. IsDone units session o.ended.worker o) worker_ends
  pub few : All (λ o. IsWorkerOf n o.ended.worker) worker_ends
  pub rising : AllPairs (λ a b. a.ended.worker < b.ended.worker) worker_ends
