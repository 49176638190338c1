-- From what the workers of a run did to its record, or to the record so far.
use Rattle.std.proofs.Common.{◌≡◌, ℕ, ◌+◌, ◌<◌, Bool, true, false, List, [], ◌++◌, length, length-append, None, Some, ap, ap₂, refl, sym, subst, ◌∙◌, arith, append_assoc, append-nil}
use Rattle.std.specs.Prelude.{Option, Result, Ok, Err, IfErr, IfSome, is_some}
use Rattle.std.proofs.lemmas.Option.{slice_get_within}
use Rattle.tk_base.proofs.Lists.{nil_from_length}
use Rattle.tk_events.specs.declared.events.Event.{Event}
use Rattle.tk_events.specs.declared.events.Entry.{Entry}
use Rattle.tk_record.specs.Recorded.{Recorded}
use Rattle.tk_record.specs.Mixing.{IsWorkerOf, of_worker}
use Rattle.tk_queue_session.specs.Core.{entries}
use Rattle.tk_queue_session.specs.Closing.{ClosedView, sent_in}
use Rattle.tk_queue_session.specs.Emission.{entries_by}
use Rattle.tk_queue_session.proofs.ReceiverSteps.{of_worker-append}
use Rattle.atomic_table.specs.Seated.{TableId}
use Rattle.tk_claims.specs.Claims.{ClaimView}
use Rattle.tk_claims.specs.Run.{IsShared, IsRun}
use Rattle.tk_claims.proofs.Workers.{in_the_middle, no_events, nothing_of_zero, own_events}
use Rattle.tk_engine_execute.specs.declared.engines.UnitFault.{UnitFault}
use Rattle.tk_engine_execute.specs.declared.runs.collectors.EventCollector.{EventCollector}
use Rattle.tk_engine_execute.specs.declared.failed_runs.FailedRun.{FailedRun}
use Rattle.tk_engine_execute.specs.declared.run_faults.RunFault.{RunFault}
use Rattle.tk_engine_execute.specs.declared.workers.WorkerEnd.{WorkerEnd}
use Rattle.tk_engine_execute.specs.declared.run_faults.RunFault.TheVariants as fault
use Rattle.tk_engine_execute.specs.FailedRuns.{IsRecordSoFar, IsFailedRun, KeepsWhatWasSent, fault_in, sent_until}
use Rattle.tk_engine_execute.specs.Faults.{NoWorkerFailed, IsFirstFault, IsLowestFailure}
use Rattle.tk_engine_execute.specs.Prefix.{IsPrefix}
use Rattle.tk_engine_execute.specs.Results.{RunResults}
use Rattle.tk_engine_execute.specs.Work.{EngineView, EmittedUntil, Ends, IsWork}
use Rattle.tk_engine_execute.specs.steps.EventCollectors.{HasRecorded}
use Rattle.tk_engine_execute.specs.steps.Outcomes.{IsOfNumbersInLimits, failures_by}
use Rattle.tk_engine_execute.specs.steps.Workers.{run_units, AreDone}
use Rattle.tk_engine_execute.proofs.Faults.{none_started, may_fail}

none_there : (o : Option (ℕ × UnitFault)) (f : ℕ × UnitFault) → o ≡ None → ¬ (o ≡ Some f)
none_there o f none some = cc

-- two lists of which each begins with the other are one
both_prefixes : {X : Type 0} (xs ys more rest : List X) → ys ≡ xs ++ more → xs ≡ ys ++ rest → xs ≡ ys
both_prefixes xs ys more rest longer shorter =
    let first = ap (λ l. length l) longer ∙ length-append xs more in
    let second = ap (λ l. length l) shorter ∙ length-append ys rest in
    let none : rest ≡ [] = nil_from_length rest (omega (arith, first, second)) in
    shorter ∙ ap (λ l. ys ++ l) none ∙ append-nil ys

module _ (e : EngineView) (n : ℕ) where
  -- where no worker has a failure, the workers shared out all units
  pub shared : (ends : Ends) (mid : List Entry) → 0 < n → NoWorkerFailed n ends.failures → IsWork e n ends mid → IsShared e.may e.units n mid
  shared ends mid some none work = record {
    drawn = work.drawn;
    lists = ends.sent;
    seats = work.seats;
    claims = (let all : work.many ≡ e.units = work.all 1 (omega arith, omega (arith, some)) (none 1 (omega arith, omega (arith, some))) in rw all at work.claims);
    mix = work.mix;
    emits = λ i us at.
        let seats = work.seats in
        let within : i < length work.drawn = slice_get_within work.drawn i us at in
        let went_well : ends.failures (i + 1) ≡ None = none (i + 1) (omega arith, omega (arith, within, seats)) in
        subst (λ f. EmittedUntil e.may (i + 1) us (ends.sent (i + 1)) f) went_well (work.emitted i us at);
  }

  -- the record of a run that went well
  pub run : (ends : Ends) (mid : List Entry) (r : Recorded) → 0 < n → NoWorkerFailed n ends.failures → IsWork e n ends mid → r.table ≡ e.table → r.entries ≡ entries_by 0 e.before ++ mid ++ entries_by 0 e.after
      → IsRun e.may e.table e.before e.after e.units n r
  run ends mid r some none work over whole = record { over = over; mid = mid; whole = whole; shared = shared ends mid some none work }

  -- what was recorded while the workers ran
  pub so_far : (ends : Ends) (a : EventCollector) (r : Recorded) (is_complete : Bool) → IsWork e n ends (entries a.receiver.taken) → a.«record».table ≡ e.table → r ≡ a.«record» → HasRecorded (entries_by 0 e.before) a
      → (is_complete ≡ true → a.is_out_of_memory ≡ false) → IsRecordSoFar e n ends is_complete r
  so_far ends a r is_complete work over same has room =
      let before = entries_by 0 e.before in
      let mid = entries a.receiver.taken in
      let is : r.entries ≡ before ++ has.kept = ap (λ (x : Recorded). x.entries) same ∙ has.recorded in
      let longer : before ++ mid ≡ r.entries ++ has.lost = ap (λ l. before ++ l) has.cut ∙ sym (append_assoc before has.kept has.lost) ∙ ap (λ l. l ++ has.lost) (sym is) in record {
        mid = mid;
        work = work;
        over = ap (λ (x : Recorded). x.table) same ∙ over;
        begins = (has.kept, is);
        prefix = (has.lost ++ entries_by 0 e.after, ap (λ l. l ++ entries_by 0 e.after) longer ∙ append_assoc r.entries has.lost (entries_by 0 e.after));
        complete = λ whole.
            let none : has.lost ≡ [] = has.all (room whole) in
            ([], sym (longer ∙ ap (λ l. r.entries ++ l) none ∙ append-nil r.entries) ∙ sym (append-nil (before ++ mid)));
        stopped = λ _. (has.lost, longer);
      }

  -- what was recorded while the workers ran, where the record could grow
  pub whole_so_far : (a : EventCollector) (r : Recorded) → r ≡ a.«record» → HasRecorded (entries_by 0 e.before) a → a.is_out_of_memory ≡ false → r.entries ≡ entries_by 0 e.before ++ entries a.receiver.taken
  whole_so_far a r same has room =
      let all : entries a.receiver.taken ≡ has.kept = has.cut ∙ ap (λ l. has.kept ++ l) (has.all room) ∙ append-nil has.kept in
      ap (λ (x : Recorded). x.entries) same ∙ has.recorded ∙ ap (λ l. entries_by 0 e.before ++ l) (sym all)

  -- what was recorded until memory was refused for the events after the units
  pub so_far_after : (ends : Ends) (mid all : List Entry) (r : Recorded) → IsWork e n ends mid → NoWorkerFailed n ends.failures → r.table ≡ e.table → all ≡ entries_by 0 e.before ++ mid → IsPrefix all r.entries → IsPrefix r.entries (all ++ entries_by 0 e.after)
      → IsRecordSoFar e n ends true r
  so_far_after ends mid all r work none over is begins prefix =
      let before = entries_by 0 e.before in record {
        mid = mid;
        work = work;
        over = over;
        begins = (mid ++ begins.0, begins.1 ∙ ap (λ l. l ++ begins.0) is ∙ append_assoc before mid begins.0);
        prefix = (prefix.0, ap (λ l. l ++ entries_by 0 e.after) (sym is) ∙ prefix.1);
        complete = λ _. (begins.0, begins.1 ∙ ap (λ l. l ++ begins.0) is);
        stopped = λ some. absurd (some none);
      }

  -- a run without a worker's failure, of which nothing was recorded
  pub nothing_recorded : (failed : FailedRun) → failed.recorded ≡ None → failed.closed ≡ None → ((unit : ℕ) (why : UnitFault) → ¬ (failed.fault ≡ fault.Engine unit why)) → IsFailedRun e n failed
  nothing_recorded failed none unclosed other = record {
    failures = λ w. None;
    each = λ w. tt;
    first = none_started n failed.fault other;
    closed = rw (none, unclosed) refl;
    recorded = rw none tt;
  }

  -- a run whose workers left these ends, of which the fault is the first
  pub failed_with : (failed : FailedRun) (claim : ClaimView) (session : TableId) (os : List WorkerEnd) → AreDone (run_units claim e.may e.units e.fails) session n os
      → IsFirstFault n (failures_by os) failed.fault → is_some failed.closed ≡ is_some failed.recorded
      → IfSome failed.recorded (IsRecordSoFar e n (record { sent = sent_until failed.closed; failures = failures_by os }) failed.is_complete) → IsFailedRun e n failed
  failed_with failed claim session os done first closed recorded = record {
    failures = failures_by os;
    each = may_fail (run_units claim e.may e.units e.fails) session os done.each;
    first = first;
    closed = closed;
    recorded = recorded;
  }

  -- what the record of a failed run has of each worker
  pub keeps : (failed : FailedRun) → IsFailedRun e n failed → IfSome failed.recorded (KeepsWhatWasSent e.before n failed)
  keeps failed h = go failed.recorded failed.closed refl h.closed h.recorded
    where
      kept : (r : Recorded) (closed : ClosedView) → failed.closed ≡ Some closed → IsRecordSoFar e n (record { sent = sent_in closed; failures = h.failures }) failed.is_complete r
          → KeepsWhatWasSent e.before n failed r
      kept r closed is was =
          let before = entries_by 0 e.before in
          let mid = was.mid in
          let mix = was.work.mix in
          let sent_after : (w : ℕ) → IsWorkerOf n w → sent_in closed w ≡ of_worker w r.entries ++ of_worker w was.prefix.0 =
          λ w own. sym (mix.each w own) ∙ sym (in_the_middle w e.before e.after mid own.0) ∙ ap (of_worker w) was.prefix.1 ∙ of_worker-append w r.entries was.prefix.0 in record {
            closed = closed;
            is_closed = is;
            prefix = λ w own. (of_worker w was.prefix.0, sent_after w own);
            complete = λ whole w own.
                let all = was.complete whole in
                let began : of_worker w (before ++ mid) ≡ sent_in closed w =
                of_worker-append w before mid ∙ ap (λ l. l ++ of_worker w mid) (no_events w 0 e.before (λ (same : 0 ≡ w). let some = own.0 in absurd (omega (arith, same, some)))) ∙ mix.each w own in
                both_prefixes _ _ _ _ (sent_after w own) (ap (of_worker w) all.1 ∙ of_worker-append w (before ++ mid) all.0 ∙ ap (λ l. l ++ of_worker w all.0) began);
            begins = (of_worker 0 was.begins.0, began r was.begins);
            stopped = λ unit why engine.
                let lowest : IsLowestFailure n h.failures unit why = subst (IsFirstFault n h.failures) engine h.first in
                let some : ¬ NoWorkerFailed n h.failures = λ none. none_there (h.failures lowest.worker) (unit, why) (none lowest.worker lowest.is_worker) lowest.failed in
                let all = was.stopped some in
                let zero : of_worker 0 (before ++ mid) ≡ e.before =
                of_worker-append 0 before mid ∙ ap₂ (λ (x y : List Event). x ++ y) (own_events 0 e.before) (nothing_of_zero n mid mix.workers) ∙ append-nil e.before in
                both_prefixes _ _ _ _ (sym zero ∙ ap (of_worker 0) all.1 ∙ of_worker-append 0 r.entries all.0) (began r was.begins);
          }
        where
          began : (r : Recorded) (first : IsPrefix (entries_by 0 e.before) r.entries) → of_worker 0 r.entries ≡ e.before ++ of_worker 0 first.0
          began r first = ap (of_worker 0) first.1 ∙ of_worker-append 0 (entries_by 0 e.before) first.0 ∙ ap (λ l. l ++ of_worker 0 first.0) (own_events 0 e.before)

      go : (recorded : Option Recorded) (closed : Option ClosedView) → failed.closed ≡ closed → is_some closed ≡ is_some recorded
          → IfSome recorded (IsRecordSoFar e n (record { sent = sent_until closed; failures = h.failures }) failed.is_complete) → IfSome recorded (KeepsWhatWasSent e.before n failed)
      go None closed is both was = tt
      go (Some r) None is both was = absurd (cc)
      go (Some r) (Some closed) is both was = kept r closed is was

  pub keeps_by : (answer : Result RunResults FailedRun) → IfErr answer (IsFailedRun e n) → IfErr answer (λ failed. IfSome failed.recorded (KeepsWhatWasSent e.before n failed))
  keeps_by (Ok r) h = tt
  keeps_by (Err failed) h = keeps failed h

-- the run's fault isn't that a number was refused
pub not_workers : {X : Type 0} (r : Result X FailedRun) → IfErr r (λ failed. IsOfNumbersInLimits failed.fault) → ¬ (fault_in r ≡ Some fault.Workers)
not_workers (Ok x) h is = cc
not_workers (Err failed) h is = go failed.fault h is
  where
    go : (f : RunFault) → IsOfNumbersInLimits f → ¬ (Some f ≡ Some fault.Workers)
    go fault.Workers h is = h
    go fault.Capacity h is = h
    go (fault.Engine unit why) h is = cc
    go fault.Memory h is = cc
    go fault.Threads h is = cc

pub not_capacity : {X : Type 0} (r : Result X FailedRun) → IfErr r (λ failed. IsOfNumbersInLimits failed.fault) → ¬ (fault_in r ≡ Some fault.Capacity)
not_capacity (Ok x) h is = cc
not_capacity (Err failed) h is = go failed.fault h is
  where
    go : (f : RunFault) → IsOfNumbersInLimits f → ¬ (Some f ≡ Some fault.Capacity)
    go fault.Workers h is = h
    go fault.Capacity h is = h
    go (fault.Engine unit why) h is = cc
    go fault.Memory h is = cc
    go fault.Threads h is = cc
