-- From the ends of the workers to the first fault of their run.
use Rattle.std.proofs.Common.{◌≡◌, ◌≢◌, ℕ, suc, ◌<◌, ◌≤◌, ◌⊎◌, Bool, if◌then◌else◌, List, [], ◌∷◌, None, Some, ap, sym, subst, ◌∙◌, refl, arith, inl, inr, ⊎_elim, eq-eqb, ne_eqb}
use Rattle.std.specs.Prelude.{All, Option, IfSome, IfNone, false}
use Rattle.std.specs.List.{AllPairs}
use Rattle.std.specs.Option.{option_or, unwrap_or}
use Rattle.std.proofs.lemmas.Bool.{cases_eq, cases_order}
use Rattle.std.proofs.lemmas.Option.{same_Some}
use Rattle.std.proofs.lemmas.List.Elements.{All-head, All-tail}
use Rattle.atomic_table.specs.Seated.{TableId}
use Rattle.tk_record.specs.Mixing.{IsWorkerOf}
use Rattle.tk_engine_execute.specs.declared.engines.UnitFault.{UnitFault}
use Rattle.tk_engine_execute.specs.declared.workers.WorkerEnd.{WorkerEnd}
use Rattle.tk_engine_execute.specs.declared.run_faults.RunFault.{RunFault}
use Rattle.tk_engine_execute.specs.declared.run_faults.RunFault.TheVariants as fault
use Rattle.tk_engine_execute.specs.Faults.{Failures, IsLowestFailure, IsFirstFault, FirstFaultIsUnique}
use Rattle.tk_engine_execute.specs.steps.Outcomes.{IsFirstCause, IsOfNumbersInLimits, failures_by}
use Rattle.tk_engine_execute.specs.steps.WorkerParts.{first_failure}
use Rattle.tk_engine_execute.specs.steps.Workers.{RunUnits, IsDone, AreDone}

abbrev Rising : List WorkerEnd → Type 0
Rising os = AllPairs (λ a b. a.ended.worker < b.ended.worker) os

abbrev After : ℕ → List WorkerEnd → Type 0
After v os = All (λ o. v < o.ended.worker) os

-- the failure of the first end's worker, and of any other
here : (o : WorkerEnd) (os : List WorkerEnd) (w : ℕ) → o.ended.worker ≡ w → failures_by (o ∷ os) w ≡ o.failure
here o os w same = ap (λ (b : Bool). if b then o.failure else failures_by os w) (eq-eqb o.ended.worker w same)

there : (o : WorkerEnd) (os : List WorkerEnd) (w : ℕ) → o.ended.worker ≢ w → failures_by (o ∷ os) w ≡ failures_by os w
there o os w other = ap (λ (b : Bool). if b then o.failure else failures_by os w) (ne_eqb o.ended.worker w other)

-- a worker below all of these has no end, and so no failure
none_before : (os : List WorkerEnd) (v : ℕ) → After v os → failures_by os v ≡ None
none_before [] v after = refl
none_before (o ∷ os) v after =
    let first : v < o.ended.worker = All-head (λ (x : WorkerEnd). v < x.ended.worker) o os after in
    there o os v (λ same. absurd (omega (arith, first, same))) ∙ none_before os v (All-tail (λ (x : WorkerEnd). v < x.ended.worker) o os after)

-- after the first end come those of higher workers, in their order
rest_rises : (o : WorkerEnd) (os : List WorkerEnd) → Rising (o ∷ os) → Rising os
rest_rises o os rising = λ i j d lt within. rising (suc i) (suc j) d (omega (arith, lt)) (omega (arith, within))

later : (o : WorkerEnd) (os : List WorkerEnd) (v : ℕ) → Rising (o ∷ os) → v ≤ o.ended.worker → After v os
later o os v rising below = λ k d within. let far = rising 0 (suc k) d (omega arith) (omega (arith, within)) in omega (arith, far, below)

-- a failure after the first end is of another worker
apart : (o : WorkerEnd) (os : List WorkerEnd) → Rising (o ∷ os) → (w unit : ℕ) (why : UnitFault) → failures_by os w ≡ Some (unit, why) → o.ended.worker ≢ w
apart o os rising w unit why failed same =
    let none = none_before os w (later o os w rising (omega (arith, same))) in
    let clash : None ≡ Some (unit, why) = sym none ∙ failed in cc

-- the first failure is the first end's, or, where it has none, the first of the others
first_of : (x rest : Option (ℕ × UnitFault)) (f : ℕ × UnitFault) → option_or x rest ≡ Some f → (x ≡ Some f) ⊎ ((x ≡ None) × (rest ≡ Some f))
first_of None rest f h = inr (refl, h)
first_of (Some g) rest f h = inl h

none_of : (x rest : Option (ℕ × UnitFault)) → option_or x rest ≡ None → (x ≡ None) × (rest ≡ None)
none_of None rest h = (refl, h)
none_of (Some g) rest h = cc

-- where no end has a failure, no worker has
pub none_by : (os : List WorkerEnd) (w : ℕ) → first_failure os ≡ None → failures_by os w ≡ None
none_by [] w none = refl
none_by (o ∷ os) w none =
    let both = none_of o.failure (first_failure os) none in
    ⊎_elim
    (λ (same : o.ended.worker ≡ w). here o os w same ∙ both.0)
    (λ (other : o.ended.worker ≢ w). there o os w other ∙ none_by os w both.1)
    (cases_eq o.ended.worker w)

-- the first end with a failure is the lowest worker's that has one
pub lowest : (n : ℕ) (os : List WorkerEnd) (f : ℕ × UnitFault) → All (λ o. IsWorkerOf n o.ended.worker) os → Rising os → first_failure os ≡ Some f → IsLowestFailure n (failures_by os) f.0 f.1
lowest n [] f few rising h = cc
lowest n (o ∷ os) f few rising h = ⊎_elim
    (λ (is : o.failure ≡ Some f). record {
      worker = o.ended.worker;
      is_worker = All-head (λ (x : WorkerEnd). IsWorkerOf n x.ended.worker) o os few;
      failed = here o os o.ended.worker refl ∙ is;
      lowest = λ v own below. there o os v (λ same. absurd (omega (arith, below, same))) ∙ none_before os v (later o os v rising (omega (arith, below)));
    })
    (λ (after : (o.failure ≡ None) × (first_failure os ≡ Some f)).
    let rest = lowest n os f (All-tail (λ (x : WorkerEnd). IsWorkerOf n x.ended.worker) o os few) (rest_rises o os rising) after.1 in record {
      worker = rest.worker;
      is_worker = rest.is_worker;
      failed = there o os rest.worker (apart o os rising rest.worker f.0 f.1 rest.failed) ∙ rest.failed;
      lowest = λ v own below. ⊎_elim
          (λ (same : o.ended.worker ≡ v). here o os v same ∙ after.0)
          (λ (other : o.ended.worker ≢ v). there o os v other ∙ rest.lowest v own below)
          (cases_eq o.ended.worker v);
    })
    (first_of o.failure (first_failure os) f h)

-- each failure is one that a unit may have
pub may_fail : (units : RunUnits) (session : TableId) (os : List WorkerEnd) → All (λ o. IsDone units session o.ended.worker o) os → (w : ℕ) → IfSome (failures_by os w) (λ f. units.fails f.0 f.1)
may_fail units session [] all w = tt
may_fail units session (o ∷ os) all w = ⊎_elim
    (λ (same : o.ended.worker ≡ w). rw (here o os w same) (All-head (λ (x : WorkerEnd). IsDone units session x.ended.worker x) o os all).failed)
    (λ (other : o.ended.worker ≢ w). rw (there o os w other) (may_fail units session os (All-tail (λ (x : WorkerEnd). IsDone units session x.ended.worker x) o os all) w))
    (cases_eq o.ended.worker w)

-- the fault that a run answers is the first
pub first_fault : (n : ℕ) (units : RunUnits) (session : TableId) (is_full : Bool) (os : List WorkerEnd) (f : RunFault) → AreDone units session n os → IsFirstCause (first_failure os) is_full f → IsFirstFault n (failures_by os) f
first_fault n units session is_full os fault.Workers done why = absurd why
first_fault n units session is_full os fault.Capacity done why = absurd why
first_fault n units session is_full os (fault.Engine unit cause) done why = lowest n os (unit, cause) done.few done.rising why
first_fault n units session is_full os fault.Memory done why = λ w own. none_by os w why.0
first_fault n units session is_full os fault.Threads done why = λ w own. none_by os w why.0

-- the first cause of a run where a worker has no thread
pub without_thread : (failure : Option (ℕ × UnitFault)) (is_full : Bool) (f : Option RunFault) → IfSome f (IsFirstCause failure is_full) → IfNone f ((failure ≡ None) × (is_full ≡ false)) → IsFirstCause failure is_full (unwrap_or f fault.Threads)
without_thread failure is_full None some none = none
without_thread failure is_full (Some f) some none = some

-- a run with a first cause had numbers in their limits
pub in_limits : (failure : Option (ℕ × UnitFault)) (is_full : Bool) (f : RunFault) → IsFirstCause failure is_full f → IsOfNumbersInLimits f
in_limits failure is_full fault.Workers why = why
in_limits failure is_full fault.Capacity why = why
in_limits failure is_full (fault.Engine unit cause) why = tt
in_limits failure is_full fault.Memory why = tt
in_limits failure is_full fault.Threads why = tt

-- no worker was started, and no unit failed
pub none_started : (n : ℕ) (f : RunFault) → ((unit : ℕ) (why : UnitFault) → ¬ (f ≡ fault.Engine unit why)) → IsFirstFault n (λ w. None) f
none_started n fault.Workers other = λ w own. refl
none_started n fault.Capacity other = λ w own. refl
none_started n (fault.Engine unit why) other = absurd (other unit why refl)
none_started n fault.Memory other = λ w own. refl
none_started n fault.Threads other = λ w own. refl

-- the unit of the answer may fail so
pub unit_may_fail : (n : ℕ) (fails : ℕ → UnitFault → Type 0) (failures : Failures) (f : RunFault) → ((w : ℕ) → IfSome (failures w) (λ x. fails x.0 x.1)) → IsFirstFault n failures f → (unit : ℕ) (why : UnitFault) → f ≡ fault.Engine unit why → fails unit why
unit_may_fail n fails failures f each is_first unit why is =
    let first : IsLowestFailure n failures unit why = subst (λ (r : RunFault). IsFirstFault n failures r) is is_first in
    subst (λ (o : Option (ℕ × UnitFault)). IfSome o (λ x. fails x.0 x.1)) first.failed (each first.worker)

-- no lower worker than the lowest has a failure
pub one_first_fault : FirstFaultIsUnique
one_first_fault n failures u v why other a b = ⊎_elim {C = (u ≡ v) × (why ≡ other)}
    (λ (same : a.worker ≡ b.worker).
    let one : (u, why) ≡ (v, other) = same_Some (u, why) (v, other) (sym a.failed ∙ ap failures same ∙ b.failed) in
    (ap (λ (f : ℕ × UnitFault). f.0) one, ap (λ (f : ℕ × UnitFault). f.1) one))
    (λ (apart : (a.worker < b.worker) ⊎ (b.worker < a.worker)). ⊎_elim {C = (u ≡ v) × (why ≡ other)}
    (λ (below : a.worker < b.worker). let no : None ≡ Some (u, why) = sym (b.lowest a.worker a.is_worker below) ∙ a.failed in absurd (cc))
    (λ (above : b.worker < a.worker). let no : None ≡ Some (v, other) = sym (a.lowest b.worker b.is_worker above) ∙ b.failed in absurd (cc))
    apart)
    (cases_order a.worker b.worker)
