-- What the workers of a run have left, worker by worker.
use Rattle.std.proofs.Common.{◌≡◌, ℕ, ◌+◌, ◌<◌, ◌≤◌, Bool, true, false, List, [], ◌∷◌, ◌++◌, length, length-append, ap, subst, sym, refl, ◌∙◌, arith, rules}
use Rattle.std.specs.Prelude.{vec_len}
use Rattle.std.proofs.lemmas.List.Elements.{All-nil, All-push, All-weaker}
use Rattle.std.proofs.lemmas.List.Quantifiers.{all_pairs_push}
use Rattle.tk_base.proofs.Lists.{nil_from_length}
use Rattle.atomic_table.specs.Seated.{TableId}
use Rattle.tk_record.specs.Mixing.{IsWorkerOf}
use Rattle.tk_queue_session.specs.Receivers.{ReceiverView}
use Rattle.tk_engine_execute.specs.declared.runs.collectors.EventCollector.{EventCollector}
use Rattle.tk_engine_execute.specs.declared.workers.threads.Collected.{Collected}
use Rattle.tk_engine_execute.specs.declared.workers.WorkerEnd.{WorkerEnd}
use Rattle.tk_engine_execute.specs.steps.EventCollectors.{TookMore, CanCollect, NoneIsAwaited}
use Rattle.tk_engine_execute.specs.steps.PreparedRuns.{RunRequest, IsFreshCollector}
use Rattle.tk_engine_execute.specs.steps.WorkerThreads.{WorkersWereRun, IsCollected}
use Rattle.tk_engine_execute.specs.steps.Workers.{RunUnits, IsDone, AreDone}
use Rattle.tk_engine_execute.proofs.Positions.{snoc_all}
use Rattle.tk_engine_execute.proofs.ReceiverStates.{took_more-trans}

module _ (units : RunUnits) (session : TableId) where
  abbrev IsOwn : WorkerEnd → Type 0
  IsOwn o = IsDone units session o.ended.worker o

  -- ends of the first m workers are ends of the first n, where n is at least m
  still_done : (m n : ℕ) (os : List WorkerEnd) → m ≤ n → AreDone units session m os → AreDone units session n os
  still_done m n os more done = record {
    each = done.each;
    few = All-weaker (λ o. IsWorkerOf m o.ended.worker) (λ o. IsWorkerOf n o.ended.worker) (λ o few. (few.0, let low = few.1 in omega (arith, low, more))) os done.few;
    rising = done.rising;
  }

  -- a higher worker's end comes last
  one_done : (m n : ℕ) (os : List WorkerEnd) (o : WorkerEnd) → m < n → AreDone units session m os → IsDone units session n o → AreDone units session n (os ++ o ∷ [])
  one_done m n os o more done last =
      let own : o.ended.worker ≡ n = last.worker in
      let still = still_done m n os (omega (arith, more)) done in record {
        each = All-push IsOwn os o done.each (subst (λ w. IsDone units session w o) (sym own) last);
        few = All-push (λ x. IsWorkerOf n x.ended.worker) os o still.few (omega (arith, own, more), omega (arith, own));
        rising = all_pairs_push (λ a b. a.ended.worker < b.ended.worker) os o done.rising (λ k d within. let few = (done.few k d within).1 in omega (arith, few, more, own));
      }

module _ (units : RunUnits) where
  -- no worker is to be joined
  pub nobody_joined : (n : ℕ) (old : Collected) (last : EventCollector) → n ≡ 0 → vec_len old.worker_ends ≡ 0 → TookMore old.collector last → CanCollect last → NoneIsAwaited last → last.lacks_thread ≡ old.collector.lacks_thread
      → WorkersWereRun units n old (record { collector = last; worker_ends = old.worker_ends })
  nobody_joined n old last none empty took_more collector none_is_awaited same =
      let nil : old.worker_ends.items ≡ [] = nil_from_length old.worker_ends.items (sym (old.worker_ends.ok.0) ∙ empty) in
      record {
        took_more = took_more;
        collector = collector;
        none_is_awaited = none_is_awaited;
        each = rw nil (record { each = All-nil _; few = All-nil _; rising = search rules });
        lacks_thread = λ going missing. let e : true ≡ false = sym missing ∙ same ∙ going in cc;
        count = λ _. empty ∙ sym none;
        done = λ _. rw nil (λ i o at. cc);
      }

  -- the next worker was joined
  pub one_joined : (m n : ℕ) (old mid new : Collected) (o : WorkerEnd) → n ≡ m + 1 → WorkersWereRun units m old mid → new.collector ≡ mid.collector
      → new.worker_ends.items ≡ mid.worker_ends.items ++ o ∷ [] → IsDone units old.collector.receiver.session (m + 1) o → WorkersWereRun units n old new
  one_joined m n old mid new o more was same items done =
      let session = old.collector.receiver.session in
      let lacks_thread : new.collector.lacks_thread ≡ mid.collector.lacks_thread = ap (λ (a : EventCollector). a.lacks_thread) same in
      let longer : vec_len new.worker_ends ≡ vec_len mid.worker_ends + 1 = (let long = ap (λ l. length l) items in omega (arith, new.worker_ends.ok.0, mid.worker_ends.ok.0, long, length-append mid.worker_ends.items (o ∷ []))) in
      record {
        took_more = rw same was.took_more;
        collector = rw same was.collector;
        none_is_awaited = rw same was.none_is_awaited;
        each = rw (items, more) (one_done units session m (m + 1) mid.worker_ends.items o (omega arith) was.each done);
        lacks_thread = λ started missing. let fewer = was.lacks_thread started (sym lacks_thread ∙ missing) in omega (arith, fewer, longer, more);
        count = λ going. let all = was.count (sym lacks_thread ∙ going) in omega (arith, all, longer, more);
        done = λ going.
            let all : length mid.worker_ends.items ≡ m = sym (mid.worker_ends.ok.0) ∙ was.count (sym lacks_thread ∙ going) in
            rw items (snoc_all (λ i x. IsDone units session (i + 1) x) mid.worker_ends.items o (was.done (sym lacks_thread ∙ going)) (rw all done));
      }

  -- the next worker's thread was not started
  pub one_lacks_thread : (m n : ℕ) (old mid new : Collected) → n ≡ m + 1 → TookMore old.collector mid.collector → mid.collector.lacks_thread ≡ true → vec_len new.worker_ends ≤ m
      → WorkersWereRun units m mid new → WorkersWereRun units n old new
  one_lacks_thread m n old mid new more first missing few was =
      let not_going : new.collector.lacks_thread ≡ false → ⊥ = (λ going. let e : true ≡ false = sym missing ∙ was.took_more.lacks_thread going in cc) in
      record {
        took_more = took_more-trans old.collector mid.collector new.collector first was.took_more;
        collector = was.collector;
        none_is_awaited = was.none_is_awaited;
        each = rw more (still_done units old.collector.receiver.session m (m + 1) new.worker_ends.items (omega arith) (rw first.session at was.each));
        lacks_thread = λ _ _. omega (arith, few, more);
        count = λ going. absurd (not_going going);
        done = λ going. absurd (not_going going);
      }

-- what a run's end is made of
pub is_collected : (units : RunUnits) (n : ℕ) (asked : RunRequest) (old new : Collected) (many : ℕ) → 0 < n → asked.workers ≡ n → IsFreshCollector asked old.collector → many ≡ n → WorkersWereRun units many old new → IsCollected units n new
is_collected units n asked old new many some workers fresh many_is was =
    let long : length new.worker_ends.items ≡ vec_len new.worker_ends = sym (new.worker_ends.ok.0) in
    record {
      some = some;
      workers = was.took_more.workers ∙ ap (λ (r : ReceiverView). r.workers) fresh.receiver ∙ workers;
      width = was.took_more.width ∙ fresh.width ∙ workers;
      collector = was.collector;
      none_is_awaited = was.none_is_awaited;
      each = rw (sym many_is, was.took_more.session) was.each;
      few = few new.collector.lacks_thread refl;
      count = λ going. long ∙ was.count going ∙ many_is;
      done = λ going. rw was.took_more.session (was.done going);
    }
  where
    few : (lacks : Bool) → new.collector.lacks_thread ≡ lacks → length new.worker_ends.items ≤ n
    few false is = (let all = was.count is in let same = new.worker_ends.ok.0 in omega (arith, all, same, many_is))
    few true is = (let some = was.lacks_thread fresh.started is in let same = new.worker_ends.ok.0 in omega (arith, some, same, many_is))
