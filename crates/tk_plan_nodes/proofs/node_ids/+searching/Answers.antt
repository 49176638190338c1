use Rattle.std.proofs.Common.{◌≡◌, ◌∷◌, IfOk, ◌+◌, ◌-◌, drop, sym, ap, ap₂, subst, ◌∙◌, arith}
use Rattle.std.proofs.lemmas.List.{drop_more}
use Rattle.tk_plan_nodes.specs.NodeIds.{ids_after}
use Rattle.tk_plan_nodes.specs.steps.{ids_of_all, search_in}
use Rattle.tk_plan_nodes.specs.NodeViews.{node_view}
use Rattle.tk_plan_nodes.proofs.NodeSearches.{next, left_over, found_before, passed}
use Rattle.tk_plan_nodes.proofs.node_ids.+searching.Goals as goal

pub search_node-returns-in-Left : goal.search_node-returns-in-Left
search_node-returns-in-Left t c =
    let n = c.args.node.now in
    let p = c.as_str.result.now in
    let below : p ≡ next n c.args.prefix.now = grind arith in
    let same : p ≡ c.as_str-in-Left.result.now = grind arith in
    let cs = ap (λ l. ids_of_all l p) c.as_slice.ensures.value in
    let over = left_over (ids_of_all (node_view n).children p) (ids_of_all (node_view n).dynamic p) (c.args.left - 1) c.in-Left.left (sym c.in-Left.is ∙ c.in_ok-left.ensures ∙ ap (λ l. search_in l (c.args.left - 1)) cs) in
    let whole = passed n c.args.prefix.now p c.args.left below c.if-left-eq0.false ∙ over ∙ ap₂ (λ l q. search_in (ids_of_all l q) c.in-Left.left) (sym c.as_slice-in-Left.ensures.value) same in
    subst (λ s. IfOk c.search_nodes-in-Left.result (λ found. found ≡ s)) (sym whole) c.search_nodes-in-Left.ensures

pub search_node-returns : goal.search_node-returns
search_node-returns t c =
    let n = c.args.node.now in
    let p = c.as_str.result.now in
    let below : p ≡ next n c.args.prefix.now = grind arith in
    let cs = ap (λ l. ids_of_all l p) c.as_slice.ensures.value in
    sym (passed n c.args.prefix.now p c.args.left below c.if-left-eq0.false ∙ found_before (ids_of_all (node_view n).children p) (ids_of_all (node_view n).dynamic p) (c.args.left - 1) c.in-Found.id (sym c.in-Found.is ∙ c.in_ok-left.ensures ∙ ap (λ l. search_in l (c.args.left - 1)) cs))

pub search_nodes-returns-in-Found : goal.search_nodes-returns-in-Found
search_nodes-returns-in-Found t c =
    let xs = c.args.nodes.now in
    let x = c.node-item.result in
    let p = c.args.prefix.now in
    let rest = drop (c.loop-node.node-index + 1) xs in
    let split : drop c.loop-node.node-index xs ≡ x ∷ rest = drop_more xs c.loop-node.node-index x c.loop-node-test.true ∙ ap (λ y. y ∷ rest) (sym c.node-item.is) in
    sym (c.loop-node.invariant ∙ ap (λ l. search_in (ids_of_all l p) c.loop-node.left) split ∙ found_before (ids_after x p) (ids_of_all rest p) c.loop-node.left c.in-Found.id (sym c.in-Found.is ∙ c.in_ok-still.ensures))

pub search_nodes-loop-node-preserved : goal.search_nodes-loop-node-preserved
search_nodes-loop-node-preserved t c =
    let xs = c.args.nodes.now in
    let x = c.node-item.result in
    let p = c.args.prefix.now in
    let rest = drop (c.loop-node.node-index + 1) xs in
    let split : drop c.loop-node.node-index xs ≡ x ∷ rest = drop_more xs c.loop-node.node-index x c.loop-node-test.true ∙ ap (λ y. y ∷ rest) (sym c.node-item.is) in
    c.loop-node.invariant ∙ ap (λ l. search_in (ids_of_all l p) c.loop-node.left) split ∙ left_over (ids_after x p) (ids_of_all rest p) c.loop-node.left c.in-Left.still (sym c.in-Left.is ∙ c.in_ok-still.ensures)
