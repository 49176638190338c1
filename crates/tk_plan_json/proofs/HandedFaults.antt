-- A fault that a reader hands on.
use Rattle.std.proofs.Common.{◌≡◌, ℕ, List, Option, Some}
use Rattle.tk_plan_json.specs.Answers.{Refuses}
use Rattle.tk_plan_json.specs.declared.faults.PlanFault.{PlanFault}
use Rattle.tk_plan_json.specs.declared.faults.PlanFault.TheVariants.{Json, Field, Id, Table, TooManyResources, EntryKeyTwice, TooManyEvents, Deep, Memory}

-- what is wrong with a part is wrong with the whole
pub refuses_whole : (part whole : Option (List ℕ)) (e : PlanFault) → ((p : List ℕ) → part ≡ Some p → whole ≡ Some p) → Refuses part e → Refuses whole e
refuses_whole part whole (Field p) f r = f p r
refuses_whole part whole Memory f r = tt
refuses_whole part whole Json f r = r
refuses_whole part whole (Id i) f r = r
refuses_whole part whole (Table i) f r = r
refuses_whole part whole TooManyResources f r = r
refuses_whole part whole EntryKeyTwice f r = r
refuses_whole part whole TooManyEvents f r = r
refuses_whole part whole Deep f r = r
