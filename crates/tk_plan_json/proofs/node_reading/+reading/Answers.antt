use Rattle.std.proofs.Common.{◌≡◌, ◌++◌, ◌-◌, ◌+◌, map, option_map, ℕ, suc, List, [], ◌∷◌, length, refl, sym, ap, ◌∙◌, subst, arith, rules, append-nil}
use Rattle.std.proofs.lemmas.Bool.Decides.{nat_tests}
use Rattle.std.proofs.lemmas.Result.{err_from_is_err_and}
use Rattle.std.proofs.lemmas.List.{nil_from_length, length-map}
use Rattle.serde_json.specs.View.{view}
use Rattle.serde_json.specs.declared.value.Value.{Value}
use Rattle.tk_plan.specs.declared.trees.nodes.Node.{Node}
use Rattle.tk_plan.specs.Trees.{contents}
use Rattle.tk_plan_json.specs.Checks.{item_at, first}
use Rattle.tk_plan_json.specs.Verdicts.{checks, at_node, FaultsAt}
use Rattle.tk_plan_json.specs.steps.Fields.{as_node_fault}
use Rattle.tk_plan_json.specs.Progress.{IsNoted}
use Rattle.tk_plan_json.specs.steps.Progress.{HasBelow}
use Rattle.tk_plan_json.specs.NodeInputs as spec
use Rattle.tk_plan_json.specs.NodeInputs.{node_input, node_inputs_in, segment_in, id_of, below}
use Rattle.tk_plan_json.specs.steps.CodeValues.{node_at, array_at}
use Rattle.tk_plan_json.proofs.NodeFaults.{faults_at_also, meets_at_also, of_node}
use Rattle.tk_plan_json.proofs.NodeSteps.{Goes, met_next, met_end, goes_next, goes_fault, goes_end, goes_nowhere, node_input_next, check_fault, parts_of, first_fault, second_located, both_added, below_located, leaf_located, leaf_added, node_added}
use Rattle.tk_plan_json.proofs.node_reading.+reading.Goals as goal

pub read_all-returns-in_err-read_node : goal.read_all-returns-in_err-read_node
read_all-returns-in_err-read_node t c =
    let p = err_from_is_err_and c.from_residual-in_err-read_node.result c.from_residual-in_err-read_node.ensures.1 in
    let steps = c.in-Some.ensures.steps in
    let array = array_at c.args.parent c.args.member c.args.id.now in
    let i = c.loop-index.index-iterator.count in
    let v : Value = c.in-Some.value in
    let path : c.deref.result.now ≡ array.path = grind arith in
    let met = c.loop-index.siblings in
    let split = node_input_next array i _ met (met ++ segment_in (view v) ∷ []) _ _ v steps.0.0 steps.2 refl in
    let y : spec.NodeInput = record { path = item_at c.deref.result.now c.in-Some.index; level = c.args.parent.level + 1; is_static = c.is_static.result; takes_files = c.args.parent.takes_files; above = c.args.id.now; earlier = met; value = view v } in
    let x : spec.NodeInput = node_input array i met (view v) in
    let is : y ≡ x = λ j. record { path = item_at (path j) (steps.1 j); level = c.args.parent.level + 1; is_static = c.is_static.ensures j; takes_files = c.args.parent.takes_files; above = c.args.id.now; earlier = met; value = view v } in
    rw (p.1, p.2) (faults_at_also _ _ _ (λ f w. goes_fault _ _ _ c.args.id.now _ _ _ _ _ _ _ (omega arith) is split c.loop-index.invariant.0 f w) c.in_err-read_node.ensures)

pub read_all-loop-index-preserved : goal.read_all-loop-index-preserved
read_all-loop-index-preserved t c =
    let steps = c.in-Some.ensures.steps in
    let array = array_at c.args.parent c.args.member c.args.id.now in
    let i = c.loop-index.index-iterator.count in
    let v : Value = c.in-Some.value in
    let path : c.deref.result.now ≡ array.path = grind arith in
    let met = c.loop-index.siblings in
    let done = c.in_ok-read_node.ensures in
    let split = node_input_next array i _ met c.read_node.new.siblings _ _ v steps.0.0 steps.2 done.1.1 in
    let y : spec.NodeInput = record { path = item_at c.deref.result.now c.in-Some.index; level = c.args.parent.level + 1; is_static = c.is_static.result; takes_files = c.args.parent.takes_files; above = c.args.id.now; earlier = met; value = view v } in
    let x : spec.NodeInput = node_input array i met (view v) in
    let is : y ≡ x = λ j. record { path = item_at (path j) (steps.1 j); level = c.args.parent.level + 1; is_static = c.is_static.ensures j; takes_files = c.args.parent.takes_files; above = c.args.id.now; earlier = met; value = view v } in (
      goes_next _ _ _ c.args.id.now _ _ _ _ _ _ _ (omega arith) is split c.loop-index.invariant.0 _ done.0 refl done.1.0,
      met_next _ _ _ _ _ _ (view v) (ap (map view) steps.0.0) done.1.1 c.loop-index.invariant.1,
    )

pub read_all-returns : goal.read_all-returns
read_all-returns t c =
    let left = c.loop-index.index-iterator.iter.rest in
    let none : left.items ≡ [] = nil_from_length _ (omega (arith, left.ok.0, c.in-None.ensures.steps.0.0)) in
    let array = array_at c.args.parent c.args.member c.args.id.now in
    let all = node_inputs_in array 0 c.args.siblings.now (map view c.args.values.items) in
    let over = subst (λ vs. Goes (60 - c.args.parent.level) c.args.id.now c.args.read.now c.loop-index.read all (node_inputs_in array c.loop-index.index-iterator.count c.loop-index.siblings (map view vs))) none c.loop-index.invariant.0 in
    let end = goes_end _ _ _ _ _ over in
    (end.0, (end.1, met_end _ _ _ _ (ap (map view) none) c.loop-index.invariant.1))

pub read_node-returns-in-Err : goal.read_node-returns-in-Err
read_node-returns-in-Err t c =
    let old : List Node = contents c.args.read.now.nodes.items in
    let s : spec.NodeInput = node_at c.args.siblings.now c.args.place (view c.args.value) in
    let start : c.len-at.result ≡ length c.args.read.now.nodes.items = grind arith in
    let at : c.len-at.result ≡ length old = start ∙ sym (length-map c.args.read.now.nodes.items (λ n. n.node)) in
    let v = first (checks old s) in
    let placed = subst (λ n. FaultsAt (option_map (at_node n) v) (as_node_fault c.in-Err.fault c.len-at.result)) at (of_node c.len-at.result v c.in-Err.fault c.in-Err.ensures) in
    rw c.of_node.ensures (faults_at_also _ _ _ (λ f w. check_fault (61 - c.args.place.level) old s f w) placed)

pub read_all-returns-then-is_empty : goal.read_all-returns-then-is_empty
read_all-returns-then-is_empty t c =
    let count : length c.args.values.items ≡ 0 = grind (arith, nat_tests) in
    let none : c.args.values.items ≡ [] = nil_from_length _ count in
    let noted : IsNoted c.args.read.now = search rules in
    let nowhere = goes_nowhere (60 - c.args.parent.level) c.args.id.now c.args.read.now (array_at c.args.parent c.args.member c.args.id.now) c.args.siblings.now _ (ap (map view) none) noted in
    (nowhere.0, (nowhere.1, sym (ap (λ l. c.args.siblings.now ++ map segment_in (map view l)) none ∙ append-nil c.args.siblings.now)))

pub read_node-returns-in_err-read_below-in-Ok-Some : goal.read_node-returns-in_err-read_below-in-Ok-Some
read_node-returns-in_err-read_below-in-Ok-Some t c =
    let p = err_from_is_err_and c.from_residual.result c.from_residual.ensures.1 in
    let s : spec.NodeInput = node_at c.args.siblings.now c.args.place (view c.args.value) in
    let k = c.in-Ok-Some.ensures in
    let l : ℕ = 60 - c.args.place.level in
    let m : ℕ = 61 - c.args.place.level in
    let up : m ≡ suc l = omega (arith, k.1.level) in
    rw (p.1, p.2) (faults_at_also _ _ _ (λ f w. below_located l m up c.args.read.now c.start_node.new.read s _ _ k.0 k.1 ∙ w) c.in_err-read_below-in-Ok-Some.ensures)

pub read_node-returns-in_ok-read_below-in-Ok-Some : goal.read_node-returns-in_ok-read_below-in-Ok-Some
read_node-returns-in_ok-read_below-in-Ok-Some t c =
    let s : spec.NodeInput = node_at c.args.siblings.now c.args.place (view c.args.value) in
    let k = c.in-Ok-Some.ensures in
    let below_read = c.in_ok-read_below-in-Ok-Some.ensures in
    let l : ℕ = 60 - c.args.place.level in
    let m : ℕ = 61 - c.args.place.level in
    let up : m ≡ suc l = omega (arith, k.1.level) in
    let start : c.len-at.result ≡ length c.args.read.now.nodes.items = grind arith in (
      below_located l m up c.args.read.now c.start_node.new.read s _ _ k.0 k.1 ∙ below_read.0,
      (
        node_added l m up c.args.read.now c.start_node.new.read s _ _ k.0 k.1 c.read_below.new.read c.end_node.new.read c.len-at.result start below_read.1 c.end_node.ensures,
        k.1.siblings,
      ),
    )

pub read_node-returns-in-Ok-None : goal.read_node-returns-in-Ok-None
read_node-returns-in-Ok-None t c =
    let s : spec.NodeInput = node_at c.args.siblings.now c.args.place (view c.args.value) in
    let k = c.in-Ok-None.ensures in
    let l : ℕ = 60 - c.args.place.level in
    let m : ℕ = 61 - c.args.place.level in
    let up : m ≡ suc l = omega (arith, k.1.level) in
    let none : below s ≡ [] = subst (HasBelow s) c.in-Ok-None.field-0-is k.1.below in (
      leaf_located l m up c.args.read.now c.start_node.new.read s _ _ k.0 k.1 none,
      (leaf_added l m up c.args.read.now c.start_node.new.read s _ _ k.0 k.1 none, k.1.siblings),
    )

pub read_below-returns-in_err-read_all : goal.read_below-returns-in_err-read_all
read_below-returns-in_err-read_all t c =
    let p = err_from_is_err_and c.from_residual-in_err-read_all.result c.from_residual-in_err-read_all.ensures.1 in
    let q = c.requires in
    let s : spec.NodeInput = node_at [] c.args.place (view c.args.value) in
    let arrays = c.into_below-children in
    let cs = map view arrays.result.0.items in
    let ds = map view arrays.result.1.items in
    let e1 = c.in_ok-siblings.siblings in
    let parts = parts_of s cs ds c.args.id.now e1 (e1 ++ map segment_in cs) arrays.ensures.children arrays.ensures.dynamic q.id c.in_ok-siblings.ensures refl in
    rw (p.1, p.2) (faults_at_also _ _ _ (first_fault (60 - c.args.place.level) c.args.read.now _ _ (below s) parts) c.in_err-read_all.ensures)

pub read_below-returns : goal.read_below-returns
read_below-returns t c =
    let q = c.requires in
    let s : spec.NodeInput = node_at [] c.args.place (view c.args.value) in
    let arrays = c.into_below-children in
    let cs = map view arrays.result.0.items in
    let ds = map view arrays.result.1.items in
    let id = c.args.id.now in
    let one = c.in_ok-read_all.ensures in
    let k : ℕ = 60 - c.args.place.level in
    let parts = parts_of s cs ds id c.in_ok-siblings.siblings c.read_all.new.siblings arrays.ensures.children arrays.ensures.dynamic q.id c.in_ok-siblings.ensures one.1.1 in
    meets_at_also _ _ _ _ c.read_all-2.result
    (second_located k c.args.read.now _ _ (below s) parts (id_of s) id q.id c.read_all.new.read one.0 one.1.0)
    (λ _ a. both_added k c.args.read.now _ _ (below s) parts (id_of s) id q.id c.read_all.new.read one.0 one.1.0 c.read_all-2.new.read a.0)
    c.read_all-2.ensures
