-- The laws of plans.
use Rattle.std.proofs.Common.{◌≡◌, ◌≢◌, [], Option, Some, None, option_map, Result, Ok, Err, refl, sym, ap, ◌∙◌, subst}
use Rattle.tk_base.proofs.Options.{option_or_none_left, option_or_none_right}
use Rattle.serde_json.specs.Data.{Data}
use Rattle.tk_plan.specs.Trees.{Tree}
use Rattle.tk_plan.specs.Ids.{ids, AreDistinct}
use Rattle.tk_plan.specs.Planned.{Outline}
use Rattle.tk_plan_reading.specs.PlanAnswers.{Answered, outline}
use Rattle.tk_plan_json.specs.Verdicts.{verdict}
use Rattle.tk_plan_reading.specs.PlanOf.{PlanOf, top, root_of, first_fault, ok_unless}
use Rattle.tk_plan_json.specs.Refusals.{IsFault}
use Rattle.tk_plan_json.specs.NodeInputs.{node_inputs, grown}
use Rattle.tk_plan_json.specs.declared.faults.PlanFault.{PlanFault}
use Rattle.tk_plan_json.specs.declared.faults.PlanFault.TheVariants.{Json, Field, Id, Table, TooManyResources, EntryKeyTwice, TooManyEvents, Deep, Memory}
use Rattle.tk_plan_json.proofs.Distinct.{apart_grown, distinct_in, are_distinct}

no_fault_in : (o : Option PlanFault) (t u : Tree) → ok_unless o t ≡ Ok u → (o ≡ None) × (t ≡ u)
no_fault_in None t u e = (refl, cc)
no_fault_in (Some f) t u e = cc

pub plan_ids : (v : Data) (t : Tree) → PlanOf v ≡ Ok t → AreDistinct (ids [] t)
plan_ids v t e =
    let s = root_of v in
    let k = no_fault_in (first_fault (top [] v) s (grown 60 s)) (grown 60 s) t e in
    let fine : verdict [] (node_inputs 60 s) ≡ None = option_or_none_left _ _ (option_or_none_right (option_map Field (top [] v)) _ k.0) in
    subst (λ u. AreDistinct (ids [] u)) k.1 (are_distinct (ids [] (grown 60 s)) (distinct_in [] (grown 60 s) (apart_grown 60 [] s fine)))

settled : (P : PlanFault → Type 0) (e : PlanFault) → IsFault P e → (e ≡ Memory → ⊥) → P e
settled P Json r n = r
settled P (Field p) r n = r
settled P (Id i) r n = r
settled P (Table t) r n = r
settled P TooManyResources r n = r
settled P EntryKeyTwice r n = r
settled P TooManyEvents r n = r
settled P Deep r n = r
settled P Memory r n = absurd (n refl)

pub answers_agree : (plan : Result Tree PlanFault) (a b : Result Outline PlanFault) → Answered plan a → Answered plan b → a ≢ Err Memory → b ≢ Err Memory → a ≡ b
answers_agree plan (Ok p) (Ok q) x y m n =
    let same : x.0 ≡ y.0 = (let e = sym x.1 ∙ y.1 in cc) in
    ap Ok (x.2 ∙ ap outline same ∙ sym y.2)
answers_agree plan (Ok p) (Err f) x y m n = let e = sym x.1 ∙ settled (λ g. plan ≡ Err g) f y (λ is. n (ap Err is)) in cc
answers_agree plan (Err f) (Ok q) x y m n = let e = sym (settled (λ g. plan ≡ Err g) f x (λ is. m (ap Err is))) ∙ y.1 in cc
answers_agree plan (Err f) (Err g) x y m n =
    let e = sym (settled (λ h. plan ≡ Err h) f x (λ is. m (ap Err is))) ∙ settled (λ h. plan ≡ Err h) g y (λ is. n (ap Err is)) in
    let same : f ≡ g = cc in
    ap Err same
