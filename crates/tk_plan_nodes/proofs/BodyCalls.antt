-- The bodies of a tree, from those of the trees below its root.
use Rattle.std.proofs.Common.{◌≡◌, ◌≢◌, ◌&&◌, ◌==◌, ℕ, List, [], ◌∷◌, ◌++◌, Bool, true, false, cond, not, length, map, None, Some, is_some, refl, sym, ap, ap₂, ◌∙◌, append_assoc, if◌then◌else◌}
use Rattle.std.proofs.lemmas.List.{length-map}
use Rattle.std.proofs.lemmas.List.Elements.{All-nil, All-cons}
use Rattle.std.proofs.lemmas.List.Folds.{flat_map-map, list_all-map}
use Rattle.std.specs.Prelude.{All}
use Rattle.std.specs.List.{find, flat_map, list_all}
use Rattle.tk_ids.specs.Characters.{slash}
use Rattle.tk_ids.specs.DTypes.{is_container, is_test}
use Rattle.tk_plan_nodes.specs.BodyCalls.{call_of, calls, is_concurrent, is_on_spine, layer_calls, place_of, place_off_spine, same_call}
use Rattle.tk_plan_nodes.specs.NodeIds.{own_id}
use Rattle.tk_plan_nodes.specs.NodeViews.{node_view}
use Rattle.tk_plan_nodes.specs.declared.body_calls.BodyCall.{BodyCall}
use Rattle.tk_plan_nodes.specs.declared.body_calls.BodyCall.TheVariants.{Called, Missing, NeverCalled, NotNeeded}
use Rattle.tk_plan_nodes.specs.declared.body_calls.NodeBody.{NodeBody}
use Rattle.tk_plan_nodes.specs.declared.body_calls.Place.{Place}
use Rattle.tk_plan_nodes.specs.declared.body_calls.Place.TheVariants.{Dynamic, Spine}
use Rattle.tk_plan_nodes.specs.declared.plan_nodes.PlanNode.{PlanNode}
use Rattle.tk_plan_nodes.specs.declared.plan_nodes.PlanNode.TheFolds.{fold_out-PlanNode}

same_itself : (c : BodyCall) → same_call c c ≡ true
same_itself Called = refl
same_itself NeverCalled = refl
same_itself Missing = refl
same_itself NotNeeded = refl

-- where no node is found, this holds of no body
pub none_found : (call : BodyCall) (nodes : List NodeBody) → find (λ n. same_call n.call call) nodes ≡ None → All (λ n. n.call ≢ call) nodes
none_found call [] none = All-nil (λ m. m.call ≢ call)
none_found call (n ∷ nodes) none = found (same_call n.call call) refl none (λ e. none_found call nodes e)
  where
    found : (b : Bool) → same_call n.call call ≡ b → cond b (Some n) (find (λ m. same_call m.call call) nodes) ≡ None
        → (find (λ m. same_call m.call call) nodes ≡ None → All (λ m. m.call ≢ call) nodes) → All (λ m. m.call ≢ call) (n ∷ nodes)
    found true is e below = absurd (cc)
    found false is e below = All-cons (λ m. m.call ≢ call) n nodes (λ same. let wrong : false ≡ true = sym is ∙ (ap (λ c. same_call c call) same ∙ same_itself call) in cc) (below e)

concurrent_each : (nodes : List PlanNode) → list_all (λ c. (calls c).concurrent) nodes ≡ list_all (λ c. is_concurrent (node_view c).mode) nodes
concurrent_each [] = refl
concurrent_each (n ∷ nodes) = ap₂ (λ a b. a && b) (ap (λ t. t.concurrent) (fold_out-PlanNode _ layer_calls n)) (concurrent_each nodes)

-- a node, its place below another one, and the text before its own segment
module _ (n : PlanNode) (above : Place) (prefix : List ℕ) where
  abbrev pub place : Place
  place = place_of above (node_view n) (list_all (λ c. is_concurrent (node_view c).mode) (node_view n).children)

  abbrev pub next : List ℕ
  next = own_id (node_view n) prefix ++ slash ∷ []

  abbrev pub own : Place → NodeBody
  own p = record { id = own_id (node_view n) prefix; call = call_of p (is_test (node_view n).dtype) (is_some (node_view n).body) }

  abbrev pub below : Place → List PlanNode → List NodeBody
  below p nodes = flat_map (λ c. (calls c).nodes p next) nodes

  abbrev place_with : ℕ → ℕ → Bool → Place
  place_with children dynamic concurrent =
      if is_on_spine above (is_concurrent (node_view n).mode && is_container (node_view n).dtype)
      (not (children == 0) && ((dynamic == 0) && (not (is_some (node_view n).skip) && ((length (node_view n).locks == 0) && (not (node_view n).is_isolated && concurrent)))))
      then Spine else place_off_spine above (is_some (node_view n).skip)

  same_place : (concurrent : Bool) → concurrent ≡ list_all (λ c. is_concurrent (node_view c).mode) (node_view n).children
      → place_with (length (map calls (node_view n).children)) (length (map calls (node_view n).dynamic)) concurrent ≡ place
  same_place concurrent is = ap (λ l. place_with l (length (map calls (node_view n).dynamic)) concurrent) (length-map (node_view n).children calls)
      ∙ ap₂ (λ l c. place_with (length (node_view n).children) l c) (length-map (node_view n).dynamic calls) is

  nodes_of_node : (calls n).nodes above prefix ≡ own place ∷ (below place (node_view n).children ++ below Dynamic (node_view n).dynamic)
  nodes_of_node =
      let cs = (node_view n).children in
      let ds = (node_view n).dynamic in
      ap (λ t. t.nodes above prefix) (fold_out-PlanNode _ layer_calls n)
      ∙ (ap (λ p. own p ∷ (flat_map (λ t. t.nodes p next) (map calls cs) ++ flat_map (λ t. t.nodes Dynamic next) (map calls ds)))
      (same_place (list_all (λ t. t.concurrent) (map calls cs)) (list_all-map (λ t. t.concurrent) calls cs ∙ concurrent_each cs))
      ∙ ap₂ (λ a b. own place ∷ (a ++ b)) (flat_map-map (λ t. t.nodes place next) calls cs) (flat_map-map (λ t. t.nodes Dynamic next) calls ds))

  own_then_below : (nodes : List NodeBody) → ((nodes ++ own place ∷ []) ++ below place (node_view n).children) ++ below Dynamic (node_view n).dynamic ≡ nodes ++ (calls n).nodes above prefix
  own_then_below nodes =
      append_assoc (nodes ++ own place ∷ []) _ _ ∙ (append_assoc nodes (own place ∷ []) _ ∙ ap (λ l. nodes ++ l) (sym nodes_of_node))

  -- after other nodes, the node, and then those below it
  pub added : (nodes a b c : List NodeBody) (x : NodeBody) (p : Place) (q r : List ℕ) (cs ds : List PlanNode)
      → p ≡ place → x ≡ own p → q ≡ next → r ≡ next → cs ≡ (node_view n).children → ds ≡ (node_view n).dynamic → a ≡ nodes ++ x ∷ []
      → b ≡ a ++ flat_map (λ k. (calls k).nodes p q) cs → c ≡ b ++ flat_map (λ k. (calls k).nodes Dynamic r) ds → c ≡ nodes ++ (calls n).nodes above prefix
  added nodes a b c x p q r cs ds ep ex eq er ecs eds ea eb ec =
      let own_is = ea ∙ ap (λ y. nodes ++ y ∷ []) (ex ∙ ap own ep) in
      let static_is = ap (λ z. flat_map (λ k. (calls k).nodes z q) cs) ep ∙ (ap (λ z. flat_map (λ k. (calls k).nodes place z) cs) eq ∙ ap (below place) ecs) in
      let dynamic_is = ap (λ z. flat_map (λ k. (calls k).nodes Dynamic z) ds) er ∙ ap (below Dynamic) eds in
      ec ∙ (ap₂ (λ u v. u ++ v) (eb ∙ ap₂ (λ u v. u ++ v) own_is static_is) dynamic_is ∙ own_then_below nodes)
