-- Faults with the nodes that have them.
use Rattle.std.proofs.Common.{◌≡◌, ℕ, Option, Some, None, option_map, Result, Ok, Err, refl, ap, ◌∙◌}
use Rattle.tk_plan_json.specs.Refusals.{IsFault}
use Rattle.tk_plan_json.specs.Verdicts.{FaultsAt, MeetsAt, at_node}
use Rattle.tk_plan_json.specs.steps.Fields.{Faults, as_node_fault}
use Rattle.tk_plan_json.specs.declared.node_faults.NodeFault.{NodeFault}
use Rattle.tk_plan_json.specs.declared.faults.PlanFault.{PlanFault}
use Rattle.tk_plan_json.specs.declared.faults.PlanFault.TheVariants.{Json, Field, Id, Table, TooManyResources, EntryKeyTwice, TooManyEvents, Deep, Memory}

-- what holds of a fault, save where memory ran out
pub fault_also : (P Q : Type 0) (e : PlanFault) → (P → Q) → IsFault (λ _. P) e → IsFault (λ _. Q) e
fault_also P Q Json f r = f r
fault_also P Q (Field p) f r = f r
fault_also P Q (Id i) f r = f r
fault_also P Q (Table t) f r = f r
fault_also P Q TooManyResources f r = f r
fault_also P Q EntryKeyTwice f r = f r
fault_also P Q TooManyEvents f r = f r
fault_also P Q Deep f r = f r
fault_also P Q Memory f r = tt

pub faults_at_also : (v w : Option NodeFault) (e : NodeFault) → ((l : NodeFault) → v ≡ Some l → w ≡ Some l) → FaultsAt v e → FaultsAt w e
faults_at_also v w e f r = record { found = fault_also (v ≡ Some e) (w ≡ Some e) e.fault (f e) r.found; memory = r.memory }

pub meets_at_also : {A : Type 0} (v w : Option NodeFault) (P Q : A → Type 0) (r : Result A NodeFault) → w ≡ v → ((x : A) → P x → Q x) → MeetsAt v P r → MeetsAt w Q r
meets_at_also v w P Q (Ok x) e f m = (e ∙ m.0, f x m.1)
meets_at_also v w P Q (Err fault) e f m = faults_at_also v w fault (λ g h. e ∙ h) m

-- where memory ran out
pub no_memory : (v : Option NodeFault) (e : NodeFault) → e ≡ record { fault = Memory; node = None } → FaultsAt v e
no_memory v e is = rw is (record { found = tt; memory = λ _. refl })

module _ (n : ℕ) (v : Option PlanFault) where
  has : (f : PlanFault) → v ≡ Some f → option_map (at_node n) v ≡ Some (at_node n f)
  has f r = ap (option_map (at_node n)) r

  -- the fault of a node
  pub of_node : (e : PlanFault) → Faults v e → FaultsAt (option_map (at_node n) v) (as_node_fault e n)
  unfolding has
  of_node Json r = record { found = has Json r; memory = λ m. absurd (cc) }
  of_node (Field p) r = record { found = has (Field p) r; memory = λ m. absurd (cc) }
  of_node (Id i) r = record { found = has (Id i) r; memory = λ m. absurd (cc) }
  of_node (Table t) r = record { found = has (Table t) r; memory = λ m. absurd (cc) }
  of_node TooManyResources r = record { found = has TooManyResources r; memory = λ m. absurd (cc) }
  of_node EntryKeyTwice r = record { found = has EntryKeyTwice r; memory = λ m. absurd (cc) }
  of_node TooManyEvents r = record { found = has TooManyEvents r; memory = λ m. absurd (cc) }
  of_node Deep r = record { found = has Deep r; memory = λ m. absurd (cc) }
  of_node Memory r = record { found = tt; memory = λ m. refl }
