-- What a reader of members answers.
use Rattle.std.specs.Prelude.{◌≡◌, List, ℕ, Option, Some, None, Result, Ok, Err}
use Rattle.tk_plan_json.specs.declared.faults.PlanFault.{PlanFault}
use Rattle.tk_plan_json.specs.declared.faults.PlanFault.TheVariants.{Field, Memory}

-- The fault names the place that is wrong, unless memory ran out.
abbrev pub Refuses : Option (List ℕ) → PlanFault → Type 0
Refuses wrong (Field path) = wrong ≡ Some path
Refuses wrong Memory = Unit {0}
Refuses wrong _ = ⊥

-- The value is answered where nothing is wrong, else the place of what is.
abbrev pub Reads : {A : Type 0} → Option (List ℕ) → (A → Type 0) → Result A PlanFault → Type 0
Reads wrong P (Ok x) = (wrong ≡ None) × P x
Reads wrong P (Err e) = Refuses wrong e
