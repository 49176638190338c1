-- Which fault a run answers, by what failed at its workers.
use Rattle.std.specs.Prelude.{◌≡◌, ℕ, ◌<◌, Option, None, Some}
use Rattle.tk_record.specs.Mixing.{IsWorkerOf}
use Rattle.tk_engine_execute.specs.declared.engines.UnitFault.{UnitFault}
use Rattle.tk_engine_execute.specs.declared.run_faults.RunFault.{RunFault}
use Rattle.tk_engine_execute.specs.declared.run_faults.RunFault.TheVariants.{Engine}

-- by the workers' numbers the unit that failed, and why; nothing for a worker without a failure
abbrev pub Failures : Type 0
Failures = ℕ → Option (ℕ × UnitFault)

-- none of the workers 1 to n has a failure
abbrev pub NoWorkerFailed : ℕ → Failures → Type 0
NoWorkerFailed n failures = (w : ℕ) → IsWorkerOf n w → failures w ≡ None

-- the lowest of the workers 1 to n that has a failure has this one
pub record IsLowestFailure (n : ℕ) (failures : Failures) (unit : ℕ) (why : UnitFault)
    : Type 0 where
  pub worker : ℕ
  pub is_worker : IsWorkerOf n worker
  pub failed : failures worker ≡ Some (unit, why)
  pub lowest : (v : ℕ) → IsWorkerOf n v → v < worker → failures v ≡ None

-- the fault of a unit is the lowest worker's, and any other fault says that no worker failed
abbrev pub IsFirstFault : ℕ → Failures → RunFault → Type 0
IsFirstFault n failures (Engine unit why) = IsLowestFailure n failures unit why
IsFirstFault n failures fault = NoWorkerFailed n failures

-- of failures one unit's comes first
abbrev pub FirstFaultIsUnique : Type 0
FirstFaultIsUnique =
    (n : ℕ) (failures : Failures) (u v : ℕ) (why other : UnitFault)
    → IsFirstFault n failures (Engine u why) → IsFirstFault n failures (Engine v other)
    → (u ≡ v) × (why ≡ other)
