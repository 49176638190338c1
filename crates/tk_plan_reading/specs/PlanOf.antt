-- The plan that a JSON value stands for, or the first fault.
use Rattle.std.specs.Prelude.{ℕ, ◌||◌, ◌==◌, List, [], ◌∷◌, length, Bool, false, nat_lt, Option}
use Rattle.std.specs.Prelude.{Some, None, option_map, Result, Ok, Err, if◌then◌else◌, codes}
use Rattle.std.specs.Prelude.{unwrap_or}
use Rattle.serde_json.specs.Data.{Data, null, number, unsigned}
use Rattle.serde_json.specs.Find.{get}
use Rattle.tk_base.specs.declared.limits.TheConstants.{MAX_EVENTS}
use Rattle.tk_plan.specs.Trees.{Tree}
use Rattle.tk_plan.specs.Script.{moves}
use Rattle.tk_plan_json.specs.Checks.{Check, first, object_of, must}
use Rattle.tk_plan_json.specs.NodeInputs.{NodeInput, root_at, node_inputs, grown}
use Rattle.tk_plan_json.specs.Verdicts.{verdict, when}
use Rattle.tk_plan_json.specs.declared.faults.PlanFault.{PlanFault}
use Rattle.tk_plan_json.specs.declared.faults.PlanFault.TheVariants.{Field, TooManyEvents}
use Rattle.tk_plan_json.specs.declared.limits.TheConstants.{MAX_LEVELS}

-- the number 1 or 2, written without fraction or exponent
abbrev pub one_or_two : Check
one_or_two at (number (unsigned n)) = if n == 1 || n == 2 then None else Some at
one_or_two at _ = Some at

-- whether there is a value, and it is the number 2, written without fraction or exponent
abbrev pub is_two : Option Data → Bool
is_two (Some (number (unsigned n))) = n == 2
is_two _ = false

-- whether nodes may have files: the version is 2
abbrev pub takes_files_in : Data → Bool
takes_files_in v = is_two (get (codes "version") v)

-- any value
abbrev pub anything : Check
anything at d = None

-- a plan has a version and a root, and nothing else
abbrev pub top : Check
top = object_of (must (codes "version") one_or_two ∷ must (codes "root") anything ∷ [])

-- the root of a plan's value
abbrev pub root_of : Data → NodeInput
root_of v = root_at (takes_files_in v) (unwrap_or (get (codes "root") v) null)

-- the root's script is too long
abbrev pub events_fault : Tree → Option PlanFault
events_fault t = when (nat_lt MAX_EVENTS (length (moves t))) TooManyEvents

-- the fault, where there is one, or else the value
abbrev pub ok_unless : {A E : Type 0} → Option E → A → Result A E
ok_unless (Some e) x = Err e
ok_unless None x = Ok x

-- a fault of the top object, of the nodes, or of the whole tree
abbrev pub first_fault : Option (List ℕ) → NodeInput → Tree → Option PlanFault
first_fault top s t =
    first (option_map Field top ∷ verdict [] (node_inputs MAX_LEVELS s) ∷ events_fault t ∷ [])

-- The first fault, or else the tree.
abbrev pub PlanOf : Data → Result Tree PlanFault
PlanOf v =
    ok_unless (first_fault (top [] v) (root_of v) (grown MAX_LEVELS (root_of v)))
    (grown MAX_LEVELS (root_of v))
