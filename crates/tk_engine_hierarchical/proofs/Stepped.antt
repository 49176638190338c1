-- Each node of a unit is a node of the plan, by its number.
use Rattle.std.proofs.Common.{◌≡◌, ◌≤◌, ◌+◌, ℕ, zero, suc, Bool, true, false, cond, List, [], ◌∷◌}
use Rattle.std.proofs.Common.{◌++◌, length, take, drop, Some, slice_get, All, arith, length-append}
use Rattle.std.proofs.Common.{sym, ap, ◌∙◌, subst}
use Rattle.std.proofs.lemmas.List.Elements.{All-nil, All-cons, All-head, All-tail, All-append}
use Rattle.std.proofs.lemmas.List.Elements.{All-drop, All-take, All-weaker}
use Rattle.tk_base.proofs.Lists.{All_at, All_one as all_single}
use Rattle.tk_ids.specs.declared.descriptors.Descriptor.{Descriptor}
use Rattle.tk_events.specs.declared.events.Event.{Event}
use Rattle.tk_events.specs.declared.outcomes.Outcome.{Outcome}
use Rattle.tk_plan.specs.declared.trees.nodes.Node.{Node}
use Rattle.tk_plan.specs.declared.trees.nodes.NumberedNode.{NumberedNode}
use Rattle.tk_plan.specs.Cutting.{Part, Piece, from_each, moves_of, on_spine, parts}
use Rattle.tk_plan.specs.Cutting.{parts_below, piece, pieces_of, spine_begins, spine_ends}
use Rattle.tk_plan.specs.Cutting.{whole_unit}
use Rattle.tk_plan.specs.Numbers.{IsNumbered, in_order}
use Rattle.tk_plan.specs.Planned.{Outline}
use Rattle.tk_plan.specs.Trees.{Forest, IsForest, IsSplit, Tree, flat, flats, forest, more}
use Rattle.tk_plan.specs.Trees.{no_trees, tree, tree_of}
use Rattle.tk_plan.proofs.NodeOrder.{all_numbered}
use Rattle.tk_plan.proofs.ListParts.{all_back, all_prefix}
use Rattle.tk_engine_hierarchical.specs.StaticSteps.{FitsNode, FitsPlan}
use Rattle.tk_engine_hierarchical.specs.steps.{MayStepAs}

-- what holds of the nodes of some trees holds of those of their units
module _ (P : NumberedNode → Type 0) where
  abbrev PartHas : Part → Type 0
  PartHas (spine_begins n k) = Unit {0}
  PartHas (whole_unit t) = All P (flat t)
  PartHas (spine_ends n k) = Unit {0}

  part_by : (s : Bool) (n : Node) (k : ℕ) (f : Forest) → All P (flat (tree n k f))
      → All PartHas (parts_below false f)
      → All PartHas (cond s (spine_begins n k ∷ (parts_below false f ++ spine_ends n k ∷ []))
      (whole_unit (tree n k f) ∷ []))
  part_by true n k f h b =
      All-cons PartHas (spine_begins n k) _ tt
      (All-append PartHas (parts_below false f) (spine_ends n k ∷ []) b
      (all_single PartHas (spine_ends n k) tt))
  part_by false n k f h b = all_single PartHas (whole_unit (tree n k f)) h

  mutual
    parts_have : (is_root : Bool) (t : Tree) → All P (flat t) → All PartHas (parts is_root t)
    parts_have is_root (tree n k f) h = part_by (on_spine is_root n f) n k f h
        (below_have false f (All-tail P _ (flats f) h))

    below_have : (is_root : Bool) (f : Forest) → All P (flats f)
        → All PartHas (parts_below is_root f)
    below_have is_root no_trees h = All-nil PartHas
    below_have is_root (more t f) h =
        All-append PartHas (parts is_root t) (parts_below is_root f)
        (parts_have is_root t (all_prefix P (flat t) (flats f) h))
        (below_have is_root f (all_back P (flat t) (flats f) h))

  abbrev PieceHas : Piece → Type 0
  PieceHas u = All P (flat u.tree)

  piece_has : (i : ℕ) (p : Part) → PartHas p → All PieceHas (piece i p)
  piece_has i (spine_begins n k) h = All-nil PieceHas
  piece_has i (whole_unit t) h = all_single PieceHas (record { tree = t; first = i }) h
  piece_has i (spine_ends n k) h = All-nil PieceHas

  pieces_have : (i : ℕ) (ps : List Part) → All PartHas ps → All PieceHas (from_each piece i ps)
  pieces_have i [] h = All-nil PieceHas
  pieces_have i (p ∷ ps) h =
      All-append PieceHas (piece i p) (from_each piece (i + length (moves_of p)) ps)
      (piece_has i p (All-head PartHas p ps h))
      (pieces_have (i + length (moves_of p)) ps (All-tail PartHas p ps h))

  pub unit_has : (root : Forest) (unit : ℕ) (u : Piece) → All P (flats root)
      → slice_get (pieces_of root) unit ≡ Some u → All P (flat u.tree)
  unit_has root unit u h is = All_at PieceHas (pieces_of root) unit u
      (pieces_have 0 (parts_below true root) (below_have true root h)) is

abbrev pub Found : List NumberedNode → NumberedNode → Type 0
Found nodes p = slice_get (in_order nodes) p.number ≡ Some p.node

-- the nodes of a unit are found by their numbers
pub unit_found : (nodes : List NumberedNode) (unit first : ℕ) (top : NumberedNode)
    (below : List NumberedNode) → IsForest nodes → IsNumbered nodes → IsForest below
    → slice_get (pieces_of (forest nodes)) unit ≡ Some
    (record { tree = tree_of top below; first = first }) → Found nodes top × All (Found nodes) below
unfolding IsForest
unit_found nodes unit first top below trees numbers under is =
    let all : All (Found nodes) (flats (forest nodes)) = subst (All (Found nodes)) trees
    (all_numbered nodes numbers) in
    let here = unit_has (Found nodes) (forest nodes) unit
    (record { tree = tree_of top below; first = first }) all is in (
      All-head (Found nodes) _ (flats (forest below)) here,
      subst (All (Found nodes)) (sym under) (All-tail (Found nodes) _ (flats (forest below)) here),
    )

-- what fits a node that is found by its number fits the plan
pub found_fits : (plan : Outline) (table : List Descriptor) (may_end : ℕ → Outcome → Type 0)
    (may_step : Event → Type 0) → plan.table ≡ table
    → ((e : Event) → FitsPlan plan may_end e → may_step e) → (p : NumberedNode) → Found plan.nodes p
    → MayStepAs table may_end may_step p
found_fits plan table may_end may_step same may p found e own fits =
    may e (record {
      node = p.node;
      its = ap (slice_get (in_order plan.nodes)) own ∙ found;
      fits = subst (λ t. FitsNode t may_end p.node e) (sym same) fits;
    })

pub all_found_fit : (plan : Outline) (table : List Descriptor) (may_end : ℕ → Outcome → Type 0)
    (may_step : Event → Type 0) → plan.table ≡ table
    → ((e : Event) → FitsPlan plan may_end e → may_step e) → (ps : List NumberedNode)
    → All (Found plan.nodes) ps → All (MayStepAs table may_end may_step) ps
all_found_fit plan table may_end may_step same may ps found =
    All-weaker (Found plan.nodes) (MayStepAs table may_end may_step)
    (found_fits plan table may_end may_step same may) ps found

-- of what comes after a node: the trees after the node's
pub split_others : (P : NumberedNode → Type 0) (p : NumberedNode) (m k : ℕ)
    (rest below others : List NumberedNode) → IsSplit p (take m (drop k rest)) below others
    → All P rest → All P others
split_others P p m k rest below others s h = all_back P below others
    (subst (All P) s.whole (All-take P m (drop k rest) (All-drop P k rest h)))

take_few : {A : Type 0} (m : ℕ) (xs : List A) → length (take m xs) ≤ length xs
take_few zero xs = omega arith
take_few (suc m) [] = omega arith
take_few (suc m) (x ∷ xs) = omega (arith, take_few m xs)

drop_few : {A : Type 0} (k : ℕ) (xs : List A) → length (drop k xs) ≤ length xs
drop_few zero xs = omega arith
drop_few (suc k) [] = omega arith
drop_few (suc k) (x ∷ xs) = omega (arith, drop_few k xs)

pub others_few : (p : NumberedNode) (m k : ℕ) (rest below others : List NumberedNode) (n : ℕ)
    → IsSplit p (take m (drop k rest)) below others → length rest ≤ n → length others ≤ n
others_few p m k rest below others n s low =
    let whole : length (take m (drop k rest)) ≡ length (below ++ others) = ap length s.whole in
    omega (arith, whole, low, length-append below others, take_few m (drop k rest), drop_few k rest)
