-- From what each worker left to what a run is.
use Rattle.std.proofs.Common.{◌≡◌, ◌≢◌, ◌==◌, ℕ, zero, suc, ◌+◌, ◌-◌, ◌<◌, ◌≤◌, Bool, true, false, if◌then◌else◌, cond, List, [], ◌∷◌, ◌++◌, map, length, None, Some, slice_get, get_or, ap, sym, subst, ◌∙◌, refl, arith, ⊎_elim, eq-eqb, ne_eqb}
use Rattle.std.specs.Prelude.{All, Option, IfSome, slice_index}
use Rattle.std.proofs.lemmas.Option.{slice_get-get_or}
use Rattle.std.proofs.lemmas.Bool.{cases_eq, cases_lt}
use Rattle.std.proofs.lemmas.List.{length-map}
use Rattle.std.proofs.lemmas.List.Sums.{sum_by-cons}
use Rattle.tk_events.specs.declared.events.Event.{Event}
use Rattle.tk_events.specs.declared.events.Entry.{Entry}
use Rattle.tk_record.specs.Mixing.{IsWorkerOf, of_worker, Mix}
use Rattle.tk_queue_session.specs.Core.{entries}
use Rattle.tk_claims.specs.Claims.{ClaimView, ClaimSeatView, Claims}
use Rattle.tk_queue_session.specs.declared.close_faults.CloseReason.{CloseReason}
use Rattle.tk_queue_session.specs.declared.close_faults.CloseReason.TheVariants.{Missing, Twice, NotDrained}
use Rattle.tk_queue_session.specs.Senders.{SenderView as Sent}
use Rattle.tk_queue_session.specs.Receivers.{ReceiverView, is_marked}
use Rattle.tk_queue_session.specs.Tokens.{tokens_of, sent_by}
use Rattle.tk_queue_session.specs.Closing.{ClosedView, IsCloseFault, sent_in}
use Rattle.tk_claims.specs.Run.{Emits}
use Rattle.tk_engine_execute.specs.declared.workers.WorkerEnd.{WorkerEnd}
use Rattle.tk_engine_execute.specs.declared.engines.UnitFault.{UnitFault}
use Rattle.tk_engine_execute.specs.declared.workers.parts.WorkerParts.{WorkerParts}
use Rattle.tk_engine_execute.specs.declared.workers.threads.Collected.{Collected}
use Rattle.tk_engine_execute.specs.declared.runs.collectors.EventCollector.{EventCollector}
use Rattle.tk_engine_execute.specs.Results.{IsTallied, TallyIsUnique}
use Rattle.tk_engine_execute.specs.Work.{EngineView, StoppedAt, EmittedUntil, IsWork}
use Rattle.tk_engine_execute.specs.steps.EventCollectors.{CanCollect, NoneIsAwaited}
use Rattle.tk_engine_execute.specs.steps.Outcomes.{CanClose, failures_by, ends_by}
use Rattle.tk_engine_execute.specs.steps.WorkerParts.{HasRoomFor, tokens_in, seats_in}
use Rattle.tk_engine_execute.specs.steps.WorkerThreads.{IsCollected}
use Rattle.tk_engine_execute.specs.steps.Workers.{RunUnits, run_units, AllDone, IsStopped}
use Rattle.tk_queue_session.specs.Emission.{entries_by}
use Rattle.tk_base.proofs.Lists.{All_at}
use Rattle.tk_claims.proofs.Workers.{in_the_middle}
use Rattle.tk_engine_execute.proofs.Positions.{map_at, all_from}

-- ---- tokens that are numbered from k + 1 on

abbrev Numbered : ℕ → List Sent → Type 0
Numbered k ts = (i : ℕ) (t : Sent) → slice_get ts i ≡ Some t → t.worker ≡ k + i + 1

tail : (k : ℕ) (t : Sent) (ts : List Sent) → Numbered k (t ∷ ts) → Numbered (suc k) ts
tail k t ts h = λ i u e. let n : u.worker ≡ k + suc i + 1 = h (suc i) u e in omega arith

-- none is of a worker up to k
below : (k w : ℕ) (ts : List Sent) → Numbered k ts → w ≤ k → tokens_of w ts ≡ 0
below k w [] h le = refl
below k w (t ∷ ts) h le =
    let own : t.worker ≡ k + 0 + 1 = h 0 t refl in
    let other : (t.worker == w) ≡ false = ne_eqb t.worker w (λ same. absurd (omega arith)) in
    let none : cond {A = ℕ} (t.worker == w) 1 0 ≡ 0 = ap (λ b. cond {A = ℕ} b 1 0) other in
    let rest = below (suc k) w ts (tail k t ts h) (omega arith) in
    omega (arith, none, rest, sum_by-cons (λ (u : Sent). cond {A = ℕ} (u.worker == w) 1 0) t ts)

-- each of the others has one
once : (k w : ℕ) (ts : List Sent) → Numbered k ts → k < w → w ≤ k + length ts → tokens_of w ts ≡ 1
once k w [] h low high = absurd (omega arith)
once k w (t ∷ ts) h low high =
    let own : t.worker ≡ k + 0 + 1 = h 0 t refl in
    let sum = sum_by-cons (λ (u : Sent). cond {A = ℕ} (u.worker == w) 1 0) t ts in
    ⊎_elim
    (λ (same : t.worker ≡ w).
    let one : cond {A = ℕ} (t.worker == w) 1 0 ≡ 1 = ap (λ b. cond {A = ℕ} b 1 0) (eq-eqb t.worker w same) in
    let rest = below (suc k) w ts (tail k t ts h) (omega arith) in
    omega (arith, one, rest, sum))
    (λ (other : t.worker ≢ w).
    let none : cond {A = ℕ} (t.worker == w) 1 0 ≡ 0 = ap (λ b. cond {A = ℕ} b 1 0) (ne_eqb t.worker w other) in
    let apart : k + 0 + 1 ≢ w = λ e. other (own ∙ e) in
    let more : suc k < w = omega arith in
    let rest = once (suc k) w ts (tail k t ts h) more (omega arith) in
    omega (arith, none, rest, sum))
    (cases_eq t.worker w)

-- the list of a token's worker is the token's
list_at : (k i : ℕ) (ts : List Sent) (t : Sent) → Numbered k ts → slice_get ts i ≡ Some t → sent_by ts (k + i + 1) ≡ t.sent
list_at k i [] t h e = cc
list_at k zero (u ∷ ts) t h e =
    let own : u.worker ≡ k + 0 + 1 = h 0 u refl in
    let same : u ≡ t = cc in
    ap (λ (b : Bool). if b then u.sent else sent_by ts (k + 0 + 1)) (eq-eqb u.worker (k + 0 + 1) own) ∙ ap (λ (x : Sent). x.sent) same
list_at k (suc i) (u ∷ ts) t h e =
    let own : u.worker ≡ k + 0 + 1 = h 0 u refl in
    let other : u.worker ≢ k + suc i + 1 = λ same. absurd (omega arith) in
    let n : k + suc i + 1 ≡ suc k + i + 1 = omega arith in
    ap (λ (b : Bool). if b then u.sent else sent_by ts (k + suc i + 1)) (ne_eqb u.worker (k + suc i + 1) other) ∙ ap (sent_by ts) n ∙ list_at (suc k) i ts t (tail k u ts h) e

-- ---- a session that can be closed

numbered : (r : ReceiverView) (ts : List Sent) → CanClose r ts → Numbered 0 ts
numbered r ts can = λ i t e. let n = can.workers i t e in omega arith

has_one : (r : ReceiverView) (ts : List Sent) → CanClose r ts → (w : ℕ) → IsWorkerOf r.workers w → tokens_of w ts ≡ 1
has_one r ts can w own = let n = can.count in once 0 w ts (numbered r ts can) own.0 (let high : w ≤ r.workers = own.1 in omega arith)

pub no_fault : (r : ReceiverView) (ts : List Sent) (why : CloseReason) → CanClose r ts → IsCloseFault why r ts → ⊥
no_fault r ts (Missing w) can h = let one = has_one r ts can w h.worker in let none : tokens_of w ts ≡ 0 = h.holds in absurd (omega arith)
no_fault r ts (Twice w) can h = let one = has_one r ts can w h.1.worker in let two : 1 < tokens_of w ts = h.1.holds in absurd (omega arith)
no_fault r ts (NotDrained w) can h =
    let own = h.1.worker in
    let low : 0 < w = own.0 in
    let high : w ≤ r.workers = own.1 in
    let same : (w - 1) + 1 ≡ w = omega arith in
    let taken : is_marked w r.taken ≡ true = rw same at (can.marks (w - 1) (omega arith)) in
    let left : is_marked w r.taken ≡ false = h.1.holds in cc

pub sessions : (r : ReceiverView) (ts : List Sent) → CanClose r ts → All (λ t. t.session ≡ r.session) ts
sessions r ts can = all_from (λ t. t.session ≡ r.session) ts can.session

-- ---- the ends of workers

-- the end with a token
token_at : (os : List WorkerEnd) (i : ℕ) (t : Sent) → slice_get (tokens_in os) i ≡ Some t → (o : WorkerEnd) × (slice_get os i ≡ Some o) × (t ≡ o.ended)
token_at os i t e = map_at (λ (o : WorkerEnd). o.ended) os i t e

-- the end with a seat
seat_at : (os : List WorkerEnd) (i : ℕ) (s : ClaimSeatView) → slice_get (seats_in os) i ≡ Some s → (o : WorkerEnd) × (slice_get os i ≡ Some o) × (s ≡ o.claim_seat)
seat_at os i s e = map_at (λ (o : WorkerEnd). o.claim_seat) os i s e

-- the token of an end
token_of : (os : List WorkerEnd) (i : ℕ) (o : WorkerEnd) → slice_get os i ≡ Some o → slice_get (tokens_in os) i ≡ Some o.ended
token_of [] i o e = cc
token_of (x ∷ os) zero o e = let same : x ≡ o = cc in ap (λ (y : WorkerEnd). Some y.ended) same
token_of (x ∷ os) (suc i) o e = token_of os i o e

-- the failure of the worker of an end
failure_at : (k i : ℕ) (os : List WorkerEnd) (o : WorkerEnd) → Numbered k (tokens_in os) → slice_get os i ≡ Some o → failures_by os (k + i + 1) ≡ o.failure
failure_at k i [] o h e = cc
failure_at k zero (x ∷ os) o h e =
    let own : x.ended.worker ≡ k + 0 + 1 = h 0 x.ended refl in
    let same : x ≡ o = cc in
    ap (λ (b : Bool). if b then x.failure else failures_by os (k + 0 + 1)) (eq-eqb x.ended.worker (k + 0 + 1) own) ∙ ap (λ (y : WorkerEnd). y.failure) same
failure_at k (suc i) (x ∷ os) o h e =
    let own : x.ended.worker ≡ k + 0 + 1 = h 0 x.ended refl in
    let other : x.ended.worker ≢ k + suc i + 1 = λ same. absurd (omega (arith, own, same)) in
    let n : k + suc i + 1 ≡ suc k + i + 1 = omega arith in
    ap (λ (b : Bool). if b then x.failure else failures_by os (k + suc i + 1)) (ne_eqb x.ended.worker (k + suc i + 1) other) ∙ ap (failures_by os) n
    ∙ failure_at (suc k) i os o (tail k x.ended (tokens_in os) h) e

-- ---- the end of a run

-- each mark was taken
all_marked : (a : EventCollector) → CanCollect a → NoneIsAwaited a → a.lacks_thread ≡ false → (i : ℕ) → i < length a.awaited.items → is_marked (i + 1) a.receiver.taken ≡ true
all_marked a collector none_is_awaited going i within =
    let here = slice_get-get_or a.awaited.items i true within in
    let gone : get_or a.awaited.items i true ≡ false = none_is_awaited i (get_or a.awaited.items i true) here in
    collector.marked going i (here ∙ ap Some gone)

module _ (e : EngineView) (claim : ClaimView) (n : ℕ) (t : Collected) (c : IsCollected (run_units claim e.may e.units e.fails) n t) (going : t.collector.lacks_thread ≡ false) where
  abbrev units : RunUnits
  units = run_units claim e.may e.units e.fails

  abbrev os : List WorkerEnd
  os = t.worker_ends.items

  done : AllDone units t.collector.receiver.session os
  done = c.done going

  long : length os ≡ n
  long = c.count going

  pub can_close : CanClose t.collector.receiver (tokens_in os)
  can_close = record {
    session = λ i s e. let h = token_at os i s e in ap (λ (x : Sent). x.session) h.2 ∙ (done i h.0 h.1).session_is;
    count = length-map os (λ (o : WorkerEnd). o.ended) ∙ long ∙ sym c.workers;
    workers = λ i s e. let h = token_at os i s e in ap (λ (x : Sent). x.worker) h.2 ∙ (done i h.0 h.1).worker;
    marks = λ i within. let width = c.width in let workers = c.workers in all_marked t.collector c.collector c.none_is_awaited going i (omega (arith, within, width, workers));
  }

  pub seats_of_claim : All (λ s. s.claim ≡ units.claim) (seats_in os)
  seats_of_claim = all_from (λ s. s.claim ≡ units.claim) (seats_in os) (λ i s e. let h = seat_at os i s e in ap (λ (x : ClaimSeatView). x.claim) h.2 ∙ (done i h.0 h.1).claim_is)

  pub as_many_seats : length (seats_in os) ≡ n
  as_many_seats = length-map os (λ (o : WorkerEnd). o.claim_seat) ∙ long

  numbers : Numbered 0 (tokens_in os)
  numbers = numbered t.collector.receiver (tokens_in os) can_close

  -- the end of a worker
  end_of : (w : ℕ) → IsWorkerOf n w → (i : ℕ) × (o : WorkerEnd) × (slice_get os i ≡ Some o) × (w ≡ 0 + i + 1)
  end_of w own =
      let positive = own.0 in
      let few = own.1 in
      let o = element os (w - 1) (omega (arith, positive, few, long)) in
      (w - 1, o.0, o.1, omega (arith, positive))
    where
      element : (xs : List WorkerEnd) (i : ℕ) → i < length xs → (o : WorkerEnd) × (slice_get xs i ≡ Some o)
      element [] i within = absurd (omega (arith, within))
      element (x ∷ xs) zero within = (x, refl)
      element (x ∷ xs) (suc i) within = element xs i (omega (arith, within))

  -- what the workers of a run did
  pub work : (many : ℕ) → Mix t.collector.receiver.workers (entries t.collector.receiver.taken) (sent_by (tokens_in os)) → Claims (map (λ (s : ClaimSeatView). s.numbers) (seats_in os)) many
      → All (λ s. s.spent ≡ true → many ≡ e.units) (seats_in os) → IsWork e n (ends_by os) (entries t.collector.receiver.taken)
  work many mix claims spent = record {
    drawn = map (λ (s : ClaimSeatView). s.numbers) (seats_in os);
    many = many;
    seats = length-map (seats_in os) (λ (s : ClaimSeatView). s.numbers) ∙ as_many_seats;
    claims = claims;
    all = λ w own none.
        let o = end_of w own in
        let same : failures_by os w ≡ o.1.failure = ap (failures_by os) o.3 ∙ failure_at 0 o.0 os o.1 numbers o.2 in
        let stated : o.1.claim_seat.spent ≡ true = (done o.0 o.1 o.2).all (sym same ∙ none) in
        All_at (λ (s : ClaimSeatView). s.spent ≡ true → many ≡ e.units) (seats_in os) o.0 o.1.claim_seat spent (seat_of os o.0 o.1 o.2) stated;
    mix = rw c.workers at mix;
    emitted = λ i us at.
        let s = map_at (λ (s : ClaimSeatView). s.numbers) (seats_in os) i us at in
        let o = seat_at os i s.0 s.1 in
        let one = done i o.0 o.1 in
        let us_is : us ≡ o.0.claim_seat.numbers = s.2 ∙ ap (λ (x : ClaimSeatView). x.numbers) o.2 in
        let k : 0 + i + 1 ≡ i + 1 = omega arith in
        let list_is : sent_by (tokens_in os) (i + 1) ≡ o.0.ended.sent = ap (sent_by (tokens_in os)) (sym k) ∙ list_at 0 i (tokens_in os) o.0.ended numbers (token_of os i o.0 o.1) in
        let failure_is : failures_by os (i + 1) ≡ o.0.failure = ap (failures_by os) (sym k) ∙ failure_at 0 i os o.0 numbers o.1 in
        rw (us_is, list_is, failure_is) (emitted_until (i + 1) o.0 one.worker o.0.failure refl one.emits one.stopped);
  }
    where
      seat_of : (os : List WorkerEnd) (i : ℕ) (o : WorkerEnd) → slice_get os i ≡ Some o → slice_get (seats_in os) i ≡ Some o.claim_seat
      seat_of [] i o at = cc
      seat_of (x ∷ os) zero o at = let same : x ≡ o = cc in ap (λ (y : WorkerEnd). Some y.claim_seat) same
      seat_of (x ∷ os) (suc i) o at = seat_of os i o at

      emitted_until : (w : ℕ) (o : WorkerEnd) → o.ended.worker ≡ w → (f : Option (ℕ × UnitFault)) → o.failure ≡ f
          → (o.failure ≡ None → Emits e.may w 0 o.claim_seat.numbers o.ended.sent) → IfSome o.failure (λ f. IsStopped e.may o.ended o.claim_seat f.0)
          → EmittedUntil e.may w o.claim_seat.numbers o.ended.sent f
      emitted_until w o worker None is emits stopped = emits is
      emitted_until w o worker (Some f) is emits stopped =
          let here : IsStopped e.may o.ended o.claim_seat f.0 = subst (λ (x : Option (ℕ × UnitFault)). IfSome x (λ g. IsStopped e.may o.ended o.claim_seat g.0)) is stopped in
          subst (λ v. StoppedAt e.may v o.claim_seat.numbers o.ended.sent f.0) worker here.stopped

  -- what the workers of a closed session did
  pub closed_work :
      (closed : ClosedView) (tokens : List Sent) (seats : List ClaimSeatView) (many : ℕ)
      → tokens ≡ tokens_in os → seats ≡ seats_in os → claim.limit ≡ e.units
      → Mix t.collector.receiver.workers (entries t.collector.receiver.taken) (sent_by tokens)
      → ((w : ℕ) → sent_in closed w ≡ sent_by tokens w)
      → Claims (map (λ (s : ClaimSeatView). s.numbers) seats) many
      → All (λ s. s.spent ≡ true → many ≡ claim.limit) seats
      → IsWork e n (record { sent = sent_in closed; failures = failures_by os }) (entries t.collector.receiver.taken)
  closed_work closed tokens seats many tokens_are seats_are limit mix same claims spent =
      subst (λ (sent : ℕ → List Event). IsWork e n (record { sent = sent; failures = failures_by os }) (entries t.collector.receiver.taken))
      (λ i w. sym (same w) i)
      (subst (λ (ts : List Sent). IsWork e n (record { sent = sent_by ts; failures = failures_by os }) (entries t.collector.receiver.taken))
      (sym tokens_are)
      (work many
      (subst (λ (ts : List Sent). Mix t.collector.receiver.workers (entries t.collector.receiver.taken) (sent_by ts)) tokens_are mix)
      (subst (λ (ss : List ClaimSeatView). Claims (map (λ (s : ClaimSeatView). s.numbers) ss) many) seats_are claims)
      (subst (λ (k : ℕ). All (λ (s : ClaimSeatView). s.spent ≡ true → many ≡ k) (seats_in os)) limit
      (subst (λ (ss : List ClaimSeatView). All (λ (s : ClaimSeatView). s.spent ≡ true → many ≡ claim.limit) ss) seats_are spent))))

-- what a closed session knows, as `close` gives it
pub tallied :
    (n : ℕ) (closed : ClosedView) (es : List Entry) (ls : ℕ → List Event) → Mix n es ls
    → ((w : ℕ) → sent_in closed w ≡ ls w)
    → ((w : ℕ) → IsWorkerOf n w → slice_index closed.emitted w ≡ length (ls w))
    → ((w : ℕ) → ¬ IsWorkerOf n w → slice_index closed.emitted w ≡ 0) → IsTallied n closed es
tallied n closed es ls mix sent each others = record {
  sent = λ w own. mix.each w own ∙ sym (sent w);
  each = λ w own. each w own ∙ ap (λ l. length l) (sym (mix.each w own));
  others = others;
}

-- what a worker has in a run, it has in the middle
pub tallied_whole :
    (n : ℕ) (closed : ClosedView) (before after : List Event) (mid whole : List Entry)
    → whole ≡ entries_by 0 before ++ mid ++ entries_by 0 after
    → IsTallied n closed mid → IsTallied n closed whole
tallied_whole n closed before after mid whole is tally =
    let same : (w : ℕ) → IsWorkerOf n w → of_worker w whole ≡ of_worker w mid =
    λ w own. ap (of_worker w) is ∙ in_the_middle w before after mid own.0 in record {
      sent = λ w own. same w own ∙ tally.sent w own;
      each = λ w own. tally.each w own ∙ ap (λ l. length l) (sym (same w own));
      others = tally.others;
    }

-- a record and the numbers of its workers are of one list for each
pub one_tally : TallyIsUnique
one_tally n a b es first second = (
  λ w own. sym (first.sent w own) ∙ second.sent w own,
  λ w. ⊎_elim {C = slice_index a.emitted w ≡ slice_index b.emitted w}
      (λ (low : w < 1). let none : ¬ IsWorkerOf n w = λ own. (let some = own.0 in absurd (omega (arith, low, some))) in first.others w none ∙ sym (second.others w none))
      (λ (some : 1 ≤ w). ⊎_elim {C = slice_index a.emitted w ≡ slice_index b.emitted w}
      (λ (above : n < w). let none : ¬ IsWorkerOf n w = λ own. (let few = own.1 in absurd (omega (arith, above, few))) in first.others w none ∙ sym (second.others w none))
      (λ (few : w ≤ n). let own : IsWorkerOf n w = (omega (arith, some), few) in first.each w own ∙ sym (second.each w own))
      (cases_lt n w))
      (cases_lt w 1),
)

-- room for the parts of n workers is room for those of fewer
pub room_for_fewer : (m n : ℕ) (p : WorkerParts) → m ≤ n → HasRoomFor n p → HasRoomFor m p
room_for_fewer m n p few room =
    let tokens = room.token_room in
    let seats = room.seat_room in record { tokens = room.tokens; seats = room.seats; failure = room.failure; token_room = omega (arith, few, tokens); seat_room = omega (arith, few, seats) }
