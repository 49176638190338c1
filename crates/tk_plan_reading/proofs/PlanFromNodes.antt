-- From a value whose nodes were read to its plan.
use Rattle.std.proofs.Common.{◌≡◌, ℕ, zero, suc, ◌+◌, ◌<◌, ◌≤◌, ◌^◌, List, [], ◌∷◌, length, codes, Bool, true, false, not, cond, Option, Some, None, option_map, Result, Err, unwrap_or, refl, sym, ap, ◌∙◌, subst, arith, append-nil}
use Rattle.std.proofs.lemmas.Bool.{lt-ltb, le-ltb}
use Rattle.std.specs.List.{count_by, list_all}
use Rattle.std.proofs.lemmas.List.Sums.{sum_by-append}
use Rattle.serde_json.specs.Data.{Data, null}
use Rattle.serde_json.specs.Find.{get}
use Rattle.tk_ids.specs.declared.descriptors.Descriptor.{Descriptor}
use Rattle.tk_plan.specs.declared.trees.nodes.Node.{Node}
use Rattle.tk_plan.specs.declared.trees.nodes.NumberedNode.{NumberedNode}
use Rattle.tk_plan.specs.Trees.{Tree, Forest, no_trees, more, flat, flats, forest, IsForest, contents}
use Rattle.tk_plan.specs.Ids.{ids, ids_below, descriptors, descriptors_below, AreDistinct}
use Rattle.tk_plan.specs.Keys.{lock_keys}
use Rattle.tk_plan.specs.Numbers.{of_kind}
use Rattle.tk_plan.specs.Planned.{IsPlanned, is_rooted, is_lawful_node}
use Rattle.tk_plan.specs.Script.{moves, moves_below}
use Rattle.tk_plan.proofs.Grows.{is_forest, forest-flats}
use Rattle.tk_plan_json.specs.Answers.{Refuses}
use Rattle.tk_plan_json.specs.Checks.{first}
use Rattle.std.specs.Option.{option_and_then}
use Rattle.tk_plan_json.proofs.Verdicts.{verdict-located}
use Rattle.tk_plan_json.specs.Verdicts.{verdict, located, FaultsAt, is_kind, when}
use Rattle.tk_plan_json.specs.declared.node_faults.NodeFault.{NodeFault}
use Rattle.tk_plan_reading.specs.FaultyNodes.{HasNode, after_top, faulty_node}
use Rattle.tk_plan_reading.specs.PlanOf.{PlanOf, top, takes_files_in, root_of, first_fault, events_fault, ok_unless}
use Rattle.tk_plan_json.specs.Progress.{IsNoted}
use Rattle.tk_plan_json.specs.Refusals.{IsFault}
use Rattle.tk_plan_json.specs.NodeInputs.{NodeInput, root_at, node_inputs, grown}
use Rattle.tk_plan_json.specs.declared.read_nodes.ReadNodes.{ReadNodes}
use Rattle.tk_plan_json.specs.declared.faults.PlanFault.{PlanFault}
use Rattle.tk_plan_json.specs.declared.faults.PlanFault.TheVariants.{Json, Field, Id, Table, TooManyResources, EntryKeyTwice, TooManyEvents, Deep, Memory}
use Rattle.tk_plan_json.proofs.Distinct.{apart_grown, distinct_in, are_distinct}

pub fault_as : (P Q : PlanFault → Type 0) (e : PlanFault) → ((f : PlanFault) → P f → Q f) → IsFault P e → IsFault Q e
fault_as P Q Json f r = f Json r
fault_as P Q (Field p) f r = f (Field p) r
fault_as P Q (Id i) f r = f (Id i) r
fault_as P Q (Table t) f r = f (Table t) r
fault_as P Q TooManyResources f r = f TooManyResources r
fault_as P Q EntryKeyTwice f r = f EntryKeyTwice r
fault_as P Q TooManyEvents f r = f TooManyEvents r
fault_as P Q Deep f r = f Deep r
fault_as P Q Memory f r = tt

-- what holds of this fault
pub fault_known : (P : PlanFault → Type 0) (e : PlanFault) → IsFault (λ _. P e) e → IsFault P e
fault_known P Json r = r
fault_known P (Field p) r = r
fault_known P (Id i) r = r
fault_known P (Table t) r = r
fault_known P TooManyResources r = r
fault_known P EntryKeyTwice r = r
fault_known P TooManyEvents r = r
fault_known P Deep r = r
fault_known P Memory r = tt

pub refuses_as : (wrong : Option (List ℕ)) (Q : PlanFault → Type 0) (e : PlanFault) → ((p : List ℕ) → wrong ≡ Some p → Q (Field p)) → Refuses wrong e → IsFault Q e
refuses_as wrong Q (Field p) f r = f p r
refuses_as wrong Q Memory f r = tt
refuses_as wrong Q Json f r = absurd r
refuses_as wrong Q (Id i) f r = absurd r
refuses_as wrong Q (Table i) f r = absurd r
refuses_as wrong Q TooManyResources f r = absurd r
refuses_as wrong Q EntryKeyTwice f r = absurd r
refuses_as wrong Q TooManyEvents f r = absurd r
refuses_as wrong Q Deep f r = absurd r

answer : Option (List ℕ) → Option PlanFault → NodeInput → Tree → Result Tree PlanFault
answer top nodes s t = ok_unless (first (option_map Field top ∷ nodes ∷ events_fault t ∷ [])) t

pub top_fault : (v : Data) (p : List ℕ) → top [] v ≡ Some p → PlanOf v ≡ Err (Field p)
top_fault v p e = ap (λ o. ok_unless (first_fault o (root_of v) (grown 60 (root_of v))) (grown 60 (root_of v))) e

number_after : Option (List ℕ) → NodeInput → Option ℕ
number_after o s = option_and_then (λ l. l.node) (after_top o (located [] (node_inputs 60 s)))

pub no_faulty_node : (v : Data) (p : List ℕ) → top [] v ≡ Some p → None ≡ faulty_node v
unfolding number_after
no_faulty_node v p e = sym (ap (λ o. number_after o (root_of v)) e)

module _ (v r : Data) (found : get (codes "root") v ≡ Some r) (fine : top [] v ≡ None) where
  at_root : PlanOf v ≡ answer None (verdict [] (node_inputs 60 (root_at (takes_files_in v) r))) (root_at (takes_files_in v) r) (grown 60 (root_at (takes_files_in v) r))
  unfolding answer
  at_root =
      ap (λ o. ok_unless (first_fault (top [] v) (root_at (takes_files_in v) (unwrap_or o null)) (grown 60 (root_at (takes_files_in v) (unwrap_or o null)))) (grown 60 (root_at (takes_files_in v) (unwrap_or o null)))) found
      ∙ ap (λ o. ok_unless (first_fault o (root_at (takes_files_in v) r) (grown 60 (root_at (takes_files_in v) r))) (grown 60 (root_at (takes_files_in v) r))) fine

  pub faulty_node_here : (s : NodeInput) → s ≡ root_at (takes_files_in v) r → option_and_then (λ l. l.node) (located [] (node_inputs 60 s)) ≡ faulty_node v
  unfolding number_after
  faulty_node_here s is =
      ap (λ x. number_after None x) is
      ∙ sym (ap (λ o. number_after (top [] v) (root_at (takes_files_in v) (unwrap_or o null))) found ∙ ap (λ o. number_after o (root_at (takes_files_in v) r)) fine)

  pub node_fault : (s : NodeInput) (f : PlanFault) → s ≡ root_at (takes_files_in v) r → verdict [] (node_inputs 60 s) ≡ Some f → PlanOf v ≡ Err f
  unfolding at_root answer
  node_fault s f is e = at_root ∙ ap (λ o. answer None o (root_at (takes_files_in v) r) (grown 60 (root_at (takes_files_in v) r))) (ap (λ x. verdict [] (node_inputs 60 x)) (sym is) ∙ e)

  pub node_faults : (s : NodeInput) (e : NodeFault) → s ≡ root_at (takes_files_in v) r → FaultsAt (located [] (node_inputs 60 s)) e → IsFault (λ f. PlanOf v ≡ Err f) e.fault
  node_faults s e is at =
      fault_known (λ f. PlanOf v ≡ Err f) e.fault
      (fault_as (λ _. located [] (node_inputs 60 s) ≡ Some e) (λ _. PlanOf v ≡ Err e.fault) e.fault
      (λ _ w. node_fault s e.fault is (verdict-located [] (node_inputs 60 s) ∙ ap (option_map (λ l. l.fault)) w)) at.found)

  pub node_named : (s : NodeInput) (e : NodeFault) → s ≡ root_at (takes_files_in v) r → FaultsAt (located [] (node_inputs 60 s)) e → HasNode (faulty_node v) e.fault e.node
  node_named s e is at = (
    fault_as (λ _. located [] (node_inputs 60 s) ≡ Some e) (λ _. e.node ≡ faulty_node v) e.fault
        (λ _ w. sym (ap (option_and_then (λ l. l.node)) w) ∙ faulty_node_here s is) at.found,
    at.memory,
  )

  pub no_node_fault : (s : NodeInput) → s ≡ root_at (takes_files_in v) r → verdict [] (node_inputs 60 s) ≡ None → PlanOf v ≡ ok_unless (events_fault (grown 60 s)) (grown 60 s)
  unfolding at_root answer
  no_node_fault s is e =
      at_root ∙ ap (λ o. answer None o (root_at (takes_files_in v) r) (grown 60 (root_at (takes_files_in v) r))) (ap (λ x. verdict [] (node_inputs 60 x)) (sym is) ∙ e)
      ∙ shortened (events_fault (grown 60 (root_at (takes_files_in v) r))) (grown 60 (root_at (takes_files_in v) r)) ∙ ap (λ x. ok_unless (events_fault (grown 60 x)) (grown 60 x)) (sym is)
    where
      shortened : (o : Option PlanFault) (t : Tree) → ok_unless (first (o ∷ [])) t ≡ ok_unless o t
      shortened None t = refl
      shortened (Some f) t = refl

-- ---- the tree and its nodes

root_static : (n : ℕ) (s : NodeInput) → s.is_static ≡ true → is_rooted (more (grown n s) no_trees) ≡ true
unfolding grown
root_static zero s h = h
root_static (suc n) s h = h

root_moves : (n : ℕ) (s : NodeInput) → s.is_static ≡ true → moves_below 0 (more (grown n s) no_trees) ≡ moves (grown n s)
unfolding grown
root_moves zero s h = rw h (append-nil _)
root_moves (suc n) s h = rw h (append-nil _)

of_kind_count : (ps : List NumberedNode) → length (of_kind false ps) ≡ count_by (is_kind false) (contents ps)
of_kind_count [] = refl
of_kind_count (p ∷ ps) =
    by p.node.is_static (of_kind false ps) (count_by (is_kind false) (contents ps)) (of_kind_count ps) ∙ sym (sum_by-append (λ n. cond (is_kind false n) 1 0) (p.node ∷ []) (contents ps))
  where
    by : (b : Bool) (l : List Node) (c : ℕ) → length l ≡ c → length (cond b l (p.node ∷ l)) ≡ 0 + cond (not b) 1 0 + c
    by true l c e = e ∙ omega arith
    by false l c e = ap suc e ∙ omega arith

module _ (s : NodeInput) (static : s.is_static ≡ true) (nodes : List NumberedNode) (is : nodes ≡ flat (grown 60 s)) where
  abbrev whole : Forest
  whole = more (grown 60 s) no_trees

  nodes_are : nodes ≡ flats whole
  nodes_are = is ∙ sym (append-nil (flat (grown 60 s)))

  pub trees : IsForest nodes
  trees = is_forest nodes whole nodes_are

  forest_is : forest nodes ≡ whole
  unfolding nodes_are
  forest_is = ap forest nodes_are ∙ forest-flats whole

  pub moves_are : moves_below 0 (forest nodes) ≡ moves (grown 60 s)
  unfolding forest_is
  moves_are = ap (moves_below 0) forest_is ∙ root_moves 60 s static

  pub too_many : 2 ^ 20 < length (moves_below 0 (forest nodes)) → events_fault (grown 60 s) ≡ Some TooManyEvents
  unfolding moves_are
  too_many h = ap (λ b. when b TooManyEvents) (lt-ltb _ _ (subst (λ m. 2 ^ 20 < length m) moves_are h))

  pub not_many : length (moves_below 0 (forest nodes)) ≤ 2 ^ 20 → events_fault (grown 60 s) ≡ None
  unfolding moves_are
  not_many h = ap (λ b. when b TooManyEvents) (le-ltb _ _ (subst (λ m. length m ≤ 2 ^ 20) moves_are h))

  pub planned : (r : ReadNodes) (table : List Descriptor) → r.nodes.items ≡ nodes → IsNoted r → s.above ≡ [] → verdict [] (node_inputs 60 s) ≡ None → r.descriptors.items ≡ descriptors s.above (grown 60 s) → table ≡ r.descriptors.items
      → length (moves_below 0 (forest nodes)) ≤ 2 ^ 20 → IsPlanned nodes table
  unfolding forest_is trees
  planned r table same noted none fine described t few =
      let few_kind : length (of_kind false nodes) ≤ 65536 = subst (λ n. n ≤ 65536) (noted.dynamics ∙ ap (λ l. count_by (is_kind false) (contents l)) same ∙ sym (of_kind_count nodes)) noted.few_dynamics in
      record {
        trees = trees;
        root = ap is_rooted forest_is ∙ root_static 60 s static;
        lawful = subst (λ l. list_all is_lawful_node (contents l) ≡ true) same noted.lawful;
        distinct = subst AreDistinct (sym (ap (ids_below []) forest_is ∙ append-nil (ids [] (grown 60 s)))) (are_distinct (ids [] (grown 60 s)) (distinct_in [] (grown 60 s) (apart_grown 60 [] s fine)));
        described = t ∙ described ∙ ap (λ a. descriptors a (grown 60 s)) none ∙ sym (append-nil (descriptors [] (grown 60 s))) ∙ sym (ap (descriptors_below []) forest_is);
        few_static = subst (λ l. length l ≤ 65536) (sym t) noted.few_statics;
        few_dynamic = few_kind;
        few_keys = subst (λ l. length l ≤ 15) (noted.keys ∙ ap (λ l. lock_keys (contents l)) same) noted.few_keys;
        few_events = few;
      }
