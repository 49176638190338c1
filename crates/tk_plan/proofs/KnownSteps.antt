-- Each step of a script is one that its node may make.
use Rattle.std.proofs.Common.{◌≡◌, ℕ, zero, suc, ◌+◌, ◌<◌, List, [], ◌∷◌, ◌++◌, Bool, cond, true, false, is_some, Some, All, length, drop, slice_get, refl, subst, arith, length-append}
use Rattle.std.proofs.lemmas.Option.{slice_get_within}
use Rattle.std.proofs.lemmas.List.Elements.{All-nil, All-cons, All-head, All-tail, All-append, All-drop}
use Rattle.tk_base.proofs.Lists.{All_one}
use Rattle.tk_plan.specs.declared.trees.nodes.Node.{Node}
use Rattle.tk_plan.specs.declared.trees.nodes.NumberedNode.{NumberedNode}
use Rattle.tk_plan.specs.declared.scripts.steps.Act.{Act}
use Rattle.tk_plan.specs.declared.scripts.steps.Act.TheVariants.{Register, Skip, Start, Report, File, Finish}
use Rattle.tk_plan.specs.declared.scripts.steps.Move.{Move}
use Rattle.tk_plan.specs.declared.scripts.steps.Step.{Step}
use Rattle.tk_plan.specs.Trees.{Tree, tree, Forest, no_trees, more, flat, flats, forest, IsForest}
use Rattle.tk_plan.specs.Script.{move, each_act, opening, registration, moves, moves_below, stamped}
use Rattle.tk_plan.specs.Numbers.{of_kind, in_order, IsNumbered}
use Rattle.tk_plan.specs.Known.{Does, IsKnown}
use Rattle.tk_plan.proofs.NodeOrder.{order_length, all_numbered}
use Rattle.tk_plan.proofs.ListParts.{all_prefix, all_back}

item_there : {A : Type 0} (xs : List A) (j : ℕ) → j < length xs → is_some (slice_get xs j) ≡ true
item_there [] j h = absurd (omega (arith, h))
item_there (x ∷ xs) zero h = refl
item_there (x ∷ xs) (suc j) h = item_there xs j (omega (arith, h))

pub order_within : (nodes : List NumberedNode) (k : ℕ) (n : Node) → slice_get (in_order nodes) k ≡ Some n → k < length nodes
order_within nodes k n e = omega (arith, slice_get_within (in_order nodes) k n e, length-append (of_kind true nodes) (of_kind false nodes), order_length nodes)

-- the nodes that are found by their numbers
module _ (nodes : List NumberedNode) where
  abbrev pub Found : NumberedNode → Type 0
  Found p = slice_get (in_order nodes) p.number ≡ Some p.node

  abbrev pub KnownMove : Move → Type 0
  KnownMove m = IsKnown nodes m.node m.act

  acts_known : {A : Type 0} (act : ℕ → Act) (k : ℕ) (n : Node) → slice_get (in_order nodes) k ≡ Some n → (xs : List A) (i m : ℕ) → i + length xs ≡ m → ((j : ℕ) → j < m → Does nodes n (act j))
      → All KnownMove (each_act act k i xs)
  acts_known act k n e [] i m whole does = All-nil KnownMove
  acts_known act k n e (x ∷ xs) i m whole does =
      All-cons KnownMove (move k (act i)) (each_act act k (i + 1) xs)
      (record { node = n; is = e; within = order_within nodes k n e; does = does i (omega (arith, whole)) })
      (acts_known act k n e xs (i + 1) m (omega (arith, whole)) does)

  opening_known : (k : ℕ) (n : Node) → slice_get (in_order nodes) k ≡ Some n → All KnownMove (opening n k)
  opening_known k n e =
      All-cons KnownMove (move k Start) _ (record { node = n; is = e; within = order_within nodes k n e; does = tt })
      (All-append KnownMove (each_act Report k 0 n.entries) (each_act File k 0 n.files)
      (acts_known Report k n e n.entries 0 (length n.entries) (omega arith) (item_there n.entries))
      (acts_known File k n e n.files 0 (length n.files) (omega arith) (item_there n.files)))

  registration_by : (b : Bool) (parent k : ℕ) (n : Node) → n.is_static ≡ b → parent < length nodes → slice_get (in_order nodes) k ≡ Some n
      → All KnownMove (cond b [] (move k (Register parent) ∷ []))
  registration_by true parent k n f h e = All-nil KnownMove
  registration_by false parent k n f h e = All_one KnownMove _ (record { node = n; is = e; within = order_within nodes k n e; does = (f, h) })

  tree_by : (b : Bool) (k : ℕ) (n : Node) (f : Forest) → is_some n.skip ≡ b → slice_get (in_order nodes) k ≡ Some n → (k < length nodes → All KnownMove (moves_below k f))
      → All KnownMove (cond b (move k Skip ∷ []) (opening n k ++ (moves_below k f ++ move k Finish ∷ [])))
  tree_by true k n f s e below = All_one KnownMove _ (record { node = n; is = e; within = order_within nodes k n e; does = s })
  tree_by false k n f s e below =
      All-append KnownMove (opening n k) _ (opening_known k n e)
      (All-append KnownMove (moves_below k f) _ (below (order_within nodes k n e)) (All_one KnownMove _ (record { node = n; is = e; within = order_within nodes k n e; does = tt })))

  first_found : (t : Tree) (ps : List NumberedNode) → All Found (flat t ++ ps) → (parent : ℕ) → parent < length nodes → All KnownMove (registration parent t)
  first_found (tree n k f) ps h parent l = registration_by n.is_static parent k n refl l (All-head Found _ (flats f ++ ps) h)

  mutual
    pub moves_known : (t : Tree) → All Found (flat t) → All KnownMove (moves t)
    moves_known (tree n k f) h =
        tree_by (is_some n.skip) k n f refl (All-head Found _ (flats f) h) (λ l. below_known k f l (All-tail Found _ (flats f) h))

    pub below_known : (parent : ℕ) (f : Forest) → parent < length nodes → All Found (flats f) → All KnownMove (moves_below parent f)
    below_known parent no_trees l h = All-nil KnownMove
    below_known parent (more t f) l h =
        All-append KnownMove (registration parent t) _ (first_found t (flats f) h parent l)
        (All-append KnownMove (moves t) (moves_below parent f) (moves_known t (all_prefix Found (flat t) (flats f) h)) (below_known parent f l (all_back Found (flat t) (flats f) h)))

  abbrev pub KnownStep : Step → Type 0
  KnownStep s = IsKnown nodes s.node s.act

  pub steps_known : (i : ℕ) (ms : List Move) → All KnownMove ms → All KnownStep (stamped i ms)
  steps_known i [] h = All-nil KnownStep
  steps_known i (m ∷ ms) h = All-cons KnownStep (record { node = m.node; stamp = i; act = m.act }) (stamped (i + 1) ms) (All-head KnownMove m ms h) (steps_known (i + 1) ms (All-tail KnownMove m ms h))

-- a unit's tree
pub unit_known : (nodes : List NumberedNode) → IsNumbered nodes → (position : ℕ) (top : NumberedNode) (below rest : List NumberedNode) → drop position nodes ≡ top ∷ (below ++ rest) → IsForest below → (first : ℕ)
    → All (λ s. IsKnown nodes s.node s.act) (stamped first (moves (tree top.node top.number (forest below))))
unfolding IsForest
unit_known nodes numbers position top below rest at trees first =
    let all = all_numbered nodes numbers in
    let here : All (Found nodes) (top ∷ (below ++ rest)) = subst (All (Found nodes)) at (All-drop (Found nodes) position nodes all) in
    let under : All (Found nodes) (flats (forest below)) = subst (All (Found nodes)) trees (all_prefix (Found nodes) below rest (All-tail (Found nodes) top (below ++ rest) here)) in
    steps_known nodes first _ (moves_known nodes (tree top.node top.number (forest below)) (All-cons (Found nodes) _ (flats (forest below)) (All-head (Found nodes) top (below ++ rest) here) under))
