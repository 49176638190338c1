-- What a reporter's calls promise.
use Rattle.std.proofs.Common.{◌≡◌, ◌≤◌, ◌<◌, ◌⊎◌, ⊎_elim, inl, inr, ℕ, List, [], ◌∷◌, ◌++◌, length}
use Rattle.std.proofs.Common.{refl, sym, ap, ◌∙◌, subst, arith}
use Rattle.std.specs.List.{AllByRecursion}
use Rattle.std.specs.Prelude.{Err, IfErr, IfOk, Ok, OnErr, OnOk, Result}
use Rattle.tk_ids.specs.IdText.{IsSegment, SegmentView}
use Rattle.tk_ids.specs.declared.descriptors.DType.{DType}
use Rattle.tk_ids.specs.declared.descriptors.DType.TheVariants.{Test}
use Rattle.tk_events.specs.declared.kinds.Kind.TheVariants.{Finished, Skipped, Started}
use Rattle.tk_events.specs.declared.outcomes.Outcome.{Outcome}
use Rattle.tk_events.specs.declared.payloads.Payload.TheVariants as payloads
use Rattle.tk_engine_execute.specs.Engines.{Extends}
use Rattle.tk_engine_execute.specs.declared.engines.UnitFault.{UnitFault}
use Rattle.tk_engine_unit_events.specs.Refusals.{IsChildCause, IsInnermostCause, child_start}
use Rattle.tk_engine_unit_events.specs.Standing.{BegunUnit}
use Rattle.tk_engine_unit_events.specs.Taken.{IsTaken, RefusesTaken}
use Rattle.tk_engine_unit_events.specs.UnitSteps.{BodyFails, BodyRuns, ChildView, Grew}
use Rattle.tk_engine_unit_events.specs.UnitSteps.{HasFinished, HasSkipped, HasStarted, KeepsOuter}
use Rattle.tk_engine_unit_events.specs.UnitSteps.{UnitView, child, child_request, event}
use Rattle.tk_engine_hierarchical.specs.Causes.{first_cause}
use Rattle.tk_engine_hierarchical.specs.Reporting.{AtStamp, BodyRules, FailsOrDrops}
use Rattle.tk_engine_hierarchical.specs.Reporting.{HasSkippedDynamic, IsDynamicCause}
use Rattle.tk_engine_hierarchical.specs.Reporting.{IsSegmentCause, IsStampOf, IsUnfinished}
use Rattle.tk_engine_hierarchical.specs.Reporting.{ReporterView, RunsDynamicChild, skip_at}
use Rattle.tk_engine_hierarchical.specs.Reporting.{start_at}
use Rattle.tk_engine_unit_events.proofs.UnitSteps.{if_err}

-- a body failed, or answered an outcome and had dropped the fault of a child
pub fails_or_drops : (may_run : BodyRuns) (may_fail : BodyFails) (old new after : UnitView)
    (answer how : Result Outcome UnitFault) → after ≡ new
    → IfOk answer (may_run old new) → IfErr answer (may_fail old new)
    → ((why : UnitFault) → answer ≡ Err why → how ≡ Err why)
    → IfErr how (FailsOrDrops may_run may_fail old after)
fails_or_drops may_run may_fail old new after (Ok outcome) how same ran failed fault =
    if_err (FailsOrDrops may_run may_fail old after) how
    (λ why. inr (outcome, subst (λ v. may_run old v outcome) (sym same) ran))
fails_or_drops may_run may_fail old new after (Err why) how same ran failed fault =
    subst (λ r. IfErr r (FailsOrDrops may_run may_fail old after)) (sym (fault why refl))
    (inl (subst (λ v. may_fail old v why) (sym same) failed))

-- the last segment of an id
last_segment : (id : List SegmentView) (s : SegmentView) → AllByRecursion IsSegment (id ++ s ∷ [])
    → IsSegment s
last_segment [] s all = all.0
last_segment (x ∷ id) s all = last_segment id s all.1

-- what has no segment has no taken id
pub segment_refused : (unit : BegunUnit) (u : UnitView) (s : SegmentView) (why : UnitFault)
    → IsSegmentCause s why → RefusesTaken unit u u s why
segment_refused unit u s why (inl empty) t =
    let is = last_segment t.id s t.child_is_id.1 in
    ⊎_elim (λ e. absurd (omega (arith, subst (λ l. 0 < length l) e is.0.0)))
    (λ e. absurd (omega (arith, subst (λ l. 0 < length l) e is.1.0))) empty.0
segment_refused unit u s why (inr memory) t = (inr memory, refl)

-- a child wasn't started
pub child_refused : (unit : BegunUnit) (body : BodyRules) (c : ChildView) (old new : ReporterView)
    (why : UnitFault) → Grew old.events new.events → new.child_fault ≡ old.child_fault
    → RefusesTaken unit old.events new.events c.segment why
    → IsDynamicCause unit old.events c start_at why
    → RunsDynamicChild unit body c old new (Err why)
child_refused unit body c old new why grew kept taken cause = record {
  ok = tt;
  child = tt;
  kept_fault = tt;
  running = tt;
  free = tt;
  err = inl (grew, kept);
  taken = taken;
  cause = inl cause;
}

-- the segment was copied, and the answer noted
pub child_of_copy : (unit : BegunUnit) (body : BodyRules) (dtype : DType) (s t : SegmentView)
    (name : List ℕ) (old new : ReporterView) (r noted : Result (Unit {0}) UnitFault)
    → s ≡ t → noted ≡ r → RunsDynamicChild unit body (child dtype s name) old new r
    → RunsDynamicChild unit body (child dtype t name) old new noted
child_of_copy unit body dtype s t name old new r noted copied same runs =
    subst (λ x. RunsDynamicChild unit body (child dtype x name) old new noted) copied
    (subst (λ x. RunsDynamicChild unit body (child dtype s name) old new x) (sym same) runs)

-- a child that was started
module _ (unit : BegunUnit) (body : BodyRules) (c : ChildView) (old : ReporterView)
    (started : UnitView) (above key stamp : ℕ) (at : IsStampOf old.events stamp)
    (start : HasStarted old.events started (child_request c above stamp)
    (event Started key stamp payloads.Nothing))
    (free : ¬ IsTaken unit old.events c.segment) where
  -- its body failed, or its finish was refused
  pub child_stopped : (new : ReporterView) (why : UnitFault)
      → new.child_fault ≡ first_cause old.child_fault why
      → Extends started.sink new.events.sink
      → FailsOrDrops body.may_run body.may_fail started new.events why
      ⊎ IsUnfinished body.may_run started new.events key why
      → RunsDynamicChild unit body c old new (Err why)
  child_stopped new why cause later stop = record {
    ok = tt;
    child = tt;
    kept_fault = tt;
    running = tt;
    free = tt;
    err = inr (
      (
        stamp,
        at,
        (above, record { key = key; started = started; start = start; later = later }),
      ),
      cause,
    );
    taken = λ t. absurd (free t);
    cause = inr (
      stamp,
      at,
      (
        above,
        record { key = key; started = started; start = start; later = later; stop = stop },
      ),
    );
  }

  -- its body ran, and then it finished, or its finish was refused
  pub child_ran : (ran after new : ReporterView) (outcome : Outcome)
      (r : Result (Unit {0}) UnitFault)
      → OnOk r (new.child_fault ≡ after.child_fault)
      → IfErr r (λ why. new.child_fault ≡ first_cause after.child_fault why)
      → after.child_fault ≡ old.child_fault → new.events ≡ after.events
      → length unit.frame.table ≤ key → body.may_end outcome
      → Extends started.sink ran.events.sink → KeepsOuter started ran.events
      → body.may_run started ran.events outcome
      → OnOk r (AtStamp ran.events (λ n. HasFinished ran.events after.events
      (event Finished key n (payloads.Outcome outcome))))
      → OnErr r (after.events ≡ ran.events)
      → IfErr r (λ why. AtStamp ran.events (λ n. IsInnermostCause ran.events
      (event Finished key n (payloads.Outcome outcome)) why))
      → RunsDynamicChild unit body c old new r
  child_ran ran after new outcome (Ok _) ok err kept same dynamic its later outer runs finish
      unmoved cause =
      let f = subst (λ v. AtStamp ran.events (λ n. HasFinished ran.events v
      (event Finished key n (payloads.Outcome outcome)))) (sym same) finish in record {
        ok = record {
          key = key;
          dynamic = dynamic;
          before = ran.events.sink;
          outcome = outcome;
          its = its;
          took = (f.0, λ set is. f.1 set (sym f.2.stamp ∙ is), f.2.took);
        };
        child = (
          stamp,
          at,
          (
            above,
            record {
              key = key;
              started = started;
              start = start;
              before = ran.events;
              later = later;
              outcome = outcome;
              ran = runs;
              finish = f;
            },
          ),
        );
        kept_fault = ok ∙ kept;
        running = outer key _ _ start.running f.2.running;
        free = free;
        err = tt;
        taken = tt;
        cause = tt;
      }
  child_ran ran after new outcome (Err why) ok err kept same dynamic its later outer runs finish
      unmoved cause =
      let is = sym (same ∙ unmoved) in
      child_stopped new why (err ∙ ap (λ fault. first_cause fault why) kept)
      (subst (λ (v : UnitView). Extends started.sink v.sink) is later)
      (inr (record {
        outcome = outcome;
        ran = subst (λ v. body.may_run started v outcome) is runs;
        refused = subst (λ v. AtStamp v (λ n. IsInnermostCause v
            (event Finished key n (payloads.Outcome outcome)) why)) is cause;
      }))

-- a skip with a segment and a reason that were copied
pub named_skip : (old new : UnitView) (s t : SegmentView) (name : List ℕ) (stamp : ℕ)
    (copied reason : List ℕ) → IsStampOf old stamp → s ≡ t → copied ≡ reason
    → (above : ℕ) × (key : ℕ) × HasSkipped old new (child_request (child Test s name) above stamp)
    (event Skipped key stamp (payloads.Reason copied))
    → HasSkippedDynamic old new (child Test t name) reason
named_skip old new s t name stamp copied reason at a b skip = (
  stamp,
  at,
  subst (λ r. (above : ℕ) × (key : ℕ)
      × HasSkipped old new (child_request (child Test t name) above stamp)
      (event Skipped key stamp (payloads.Reason r))) b
      (subst (λ x. (above : ℕ) × (key : ℕ)
      × HasSkipped old new (child_request (child Test x name) above stamp)
      (event Skipped key stamp (payloads.Reason copied))) a skip),
)

pub named_skip_cause : (unit : BegunUnit) (u : UnitView) (s t : SegmentView) (name : List ℕ)
    (stamp : ℕ) (copied reason : List ℕ) (why : UnitFault)
    → IsStampOf u stamp → s ≡ t → copied ≡ reason
    → IsChildCause unit u (child_start (child Test s name) stamp
    (λ key. event Skipped key stamp (payloads.Reason copied))) why
    → AtStamp u (λ n. IsChildCause unit u (child_start (child Test t name) n (skip_at reason n))
    why)
named_skip_cause unit u s t name stamp copied reason why at a b cause = (
  stamp,
  at,
  subst (λ r. IsChildCause unit u (child_start (child Test t name) stamp
      (λ key. event Skipped key stamp (payloads.Reason r))) why) b
      (subst (λ x. IsChildCause unit u (child_start (child Test x name) stamp
      (λ key. event Skipped key stamp (payloads.Reason copied))) why) a cause),
)
