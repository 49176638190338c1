-- What was cut of the root is what a plan keeps.
use Rattle.std.proofs.Common.{◌≡◌, ℕ, zero, suc, ◌+◌, ◌≤◌, ◌<◌, List, [], ◌∷◌, ◌++◌, length, drop, map, flat_map, All, true, refl, sym, ap, ap₂, ◌∙◌, subst, arith, append-nil, append_assoc, Option, None}
use Rattle.tk_base.specs.declared.limits.TheConstants.{MAX_EVENTS}
use Rattle.tk_plan.specs.declared.scripts.steps.Move.{Move}
use Rattle.tk_plan.specs.declared.scripts.steps.Step.{Step}
use Rattle.tk_plan.specs.declared.trees.nodes.NumberedNode.{NumberedNode}
use Rattle.tk_plan.specs.declared.units.cuttings.Cutting.{Cutting}
use Rattle.tk_plan.specs.declared.units.cuttings.PlanUnit.{PlanUnit}
use Rattle.tk_plan.specs.Trees.{forest, IsForest, contents, number_of, tree}
use Rattle.tk_plan.specs.steps.{HasTreeAt, AddsParts, keyed}
use Rattle.tk_plan.specs.Weights.{weight, weights}
use Rattle.tk_plan.specs.Script.{moves, stamped}
use Rattle.tk_plan.specs.Cutting.{Piece, Part, spine_begins, whole_unit, spine_ends, moves_of, all_static, root_script, parts_below, from_each, piece, begin_events, end_events, spine_of, units_of, pieces_of, script_of, steps_of}
use Rattle.tk_plan.specs.CuttingSteps.{Fits, HasStampAt, HasNode, pieces_of_units}
use Rattle.tk_plan.specs.CuttingSteps.{begin_events_of_spine, end_events_of_spine}
use Rattle.tk_plan.specs.CutPlans.{IsCut}
use Rattle.tk_plan.specs.Keys.{lock_keys}
use Rattle.tk_plan.specs.Planned.{IsWithin, IsNeedOf, piece_asks}
use Rattle.tk_locks.specs.Needs.{access}
use Rattle.tk_plan.specs.LockNeeds.{IsNeed}
use Rattle.tk_plan.proofs.Cuts.{parts_below-moves, piece_of, found_get, found_length}
use Rattle.tk_plan.proofs.TreePositions.{same_contents}
use Rattle.std.proofs.Common.{Some, slice_get, get_or}

of_none : {A : Type 0} (P : A → Type 0) (xs : List A) → xs ≡ [] → All P xs
of_none P xs e k d l = absurd (omega (arith, ap length e, l))

pub planned : (nodes passed : List NumberedNode) (keys : List (List ℕ)) (old new : Cutting) → passed ≡ nodes → keys ≡ lock_keys (contents nodes) → IsForest nodes → weights (forest nodes) ≤ MAX_EVENTS → all_static (forest nodes) ≡ true
    → old.spine.items ≡ [] → old.unit_keys.items ≡ [] → old.units.items ≡ [] → old.starts.items ≡ [] → old.finishes.items ≡ [] → old.event_count ≡ 0
    → new.event_count ≡ old.event_count + weights (forest passed)
    → ((all rest : List NumberedNode) → drop 0 all ≡ passed ++ rest → AddsParts (keyed all keys) old new (parts_below true (forest passed)))
    → IsCut nodes new
planned nodes passed keys old new same known trees limit statics spine unit_keys units starts finishes first total adds =
    let a : AddsParts (keyed nodes keys) old new (parts_below true (forest nodes)) = subst (λ ps. AddsParts (keyed nodes keys) old new (parts_below true (forest ps))) same (adds nodes [] (sym (append-nil passed ∙ same))) in
    record {
      trees = trees;
      statics = statics;
      spine = a.spine ∙ ap (λ l. l ++ spine_of (forest nodes)) spine;
      unit_keys = a.unit_keys ∙ ap₂ (λ l i. l ++ map (λ u. number_of u.tree) (from_each piece i (parts_below true (forest nodes)))) unit_keys first;
      units = a.units ∙ ap₂ (λ l i. pieces_of_units nodes l ++ from_each piece i (parts_below true (forest nodes))) units first;
      fits = subst (λ ks. All (Fits nodes ks) new.units.items) known (a.fits (of_none (Fits nodes keys) _ units));
      before = a.begin_events_of_spine ∙ ap₂ (λ l i. begin_events_of_spine nodes l ++ from_each begin_events i (parts_below true (forest nodes))) starts first;
      starts = a.starts (of_none (HasStampAt nodes) _ starts);
      after = a.end_events_of_spine ∙ ap₂ (λ l i. end_events_of_spine nodes l ++ from_each end_events i (parts_below true (forest nodes))) finishes first;
      finishes = a.finishes (of_none (HasNode nodes) _ finishes);
      total = total ∙ ap₂ (λ i ps. i + weights (forest ps)) first same ∙ omega arith;
      limit = limit;
    }

pub counted : (ps : List Piece) → length (map (λ p. number_of p.tree) ps) ≡ length ps
counted [] = refl
counted (p ∷ ps) = ap suc (counted ps)

pub unit_bound : (nodes seen : List NumberedNode) (c : Cutting) (unit : ℕ) → IsCut nodes c → nodes ≡ seen → unit < length (units_of (forest seen)) → unit < length c.units.items
unit_bound nodes seen c unit cut same h =
    let units = ap length cut.units in
    omega (arith, h, ap (λ ps. length (units_of (forest ps))) same, counted (pieces_of (forest nodes)), units, found_length nodes _ c.units.items cut.fits)

pub unit_piece : (nodes : List NumberedNode) (c : Cutting) (unit : ℕ) (u : PlanUnit) → IsCut nodes c → unit < length c.units.items → u ≡ get_or c.units.items unit u
    → (f : Fits nodes (lock_keys (contents nodes)) u) × (slice_get (pieces_of (forest nodes)) unit ≡ Some (piece_of f))
unit_piece nodes c unit u cut h e =
    let r = found_get nodes (lock_keys (contents nodes)) c.units.items cut.fits unit u h in
    subst (λ v. (f : Fits nodes (lock_keys (contents nodes)) v) × (slice_get (pieces_of (forest nodes)) unit ≡ Some (piece_of f))) (sym e)
    (r.0, ap (λ ps. slice_get ps unit) (sym cut.units) ∙ r.1)

pub unit_need : (nodes : List NumberedNode) (unit : ℕ) (u : PlanUnit) (f : Fits nodes (lock_keys (contents nodes)) u) → slice_get (pieces_of (forest nodes)) unit ≡ Some (piece_of f) → IsNeedOf nodes unit u.need
unit_need nodes unit u f e =
    subst (λ p. (r : ℕ) → r < 16 → access u.need r ≡ piece_asks (lock_keys (contents nodes)) p r) (sym e)
    (subst (λ ns. IsNeed (lock_keys (contents nodes)) ns u.need) (sym (same_contents f.top f.below f.trees)) f.need)

-- what the tree of a unit was found to be
pub record Found (nodes : List NumberedNode) (unit : ℕ) (u : PlanUnit) (numbered_node : NumberedNode) (below : List NumberedNode) : Type 0 where
  pub trees : IsForest below
  pub limit : u.first + weight (tree numbered_node.node numbered_node.number (forest below)) ≤ MAX_EVENTS
  pub script : script_of (forest nodes) unit ≡ stamped u.first (moves (tree numbered_node.node numbered_node.number (forest below)))

pub unit_found : (nodes passed : List NumberedNode) (unit : ℕ) (u : PlanUnit) (f : Fits nodes (lock_keys (contents nodes)) u) (numbered_node : NumberedNode) (below : List NumberedNode)
    → slice_get (pieces_of (forest nodes)) unit ≡ Some (piece_of f) → passed ≡ nodes
    → ((top : NumberedNode) → (under rest : List NumberedNode) → drop u.position passed ≡ top ∷ (under ++ rest) → top.span ≡ suc (length under) → (numbered_node ≡ top) × (below ≡ under))
    → Found nodes unit u numbered_node below
unit_found nodes passed unit u f numbered_node below e same at =
    let is = at f.top f.below f.rest (ap (drop u.position) same ∙ f.position) f.span in
    subst (λ p. Found nodes unit u p below) (sym is.0) (
    subst (λ ps. Found nodes unit u f.top ps) (sym is.1) (record { trees = f.trees; limit = f.limit; script = ap steps_of e })
    )

pub stands : (nodes passed : List NumberedNode) (keys : List (List ℕ)) (u : PlanUnit) → Fits nodes keys u → passed ≡ nodes → HasTreeAt passed u.position
stands nodes passed keys u f same = record { top = f.top; below = f.below; rest = f.rest; position = ap (drop u.position) same ∙ f.position; span = f.span }

-- ---- a unit's script stands in the root's

pub stamped-append : (i : ℕ) (xs ys : List Move) → stamped i (xs ++ ys) ≡ stamped i xs ++ stamped (i + length xs) ys
stamped-append i [] ys = ap (λ n. stamped n ys) (omega arith)
stamped-append i (x ∷ xs) ys = ap (λ l. record { node = x.node; stamp = i; act = x.act } ∷ l) (stamped-append (i + 1) xs ys ∙ ap (λ n. stamped (i + 1) xs ++ stamped n ys) (omega arith))

further : (i : ℕ) (xs ys : List Move) (script : List Step) → IsWithin script (stamped (i + length xs) ys) → IsWithin script (stamped i (xs ++ ys))
further i xs ys script w = (stamped i xs ++ w.0, w.1, stamped-append i xs ys ∙ ap (λ l. stamped i xs ++ l) w.2 ∙ sym (append_assoc (stamped i xs) w.0 _))

unfoldable pub the_piece : Option Piece → Piece → Piece
the_piece None d = d
the_piece (Some p) d = p

piece_within : (ps : List Part) (i u : ℕ) (p : Piece) → slice_get (from_each piece i ps) u ≡ Some p → IsWithin (stamped p.first (moves p.tree)) (stamped i (flat_map moves_of ps))
unfolding the_piece
piece_within [] i u p e = absurd (grind arith)
piece_within (spine_begins n k ∷ ps) i u p e = further i (moves_of (spine_begins n k)) (flat_map moves_of ps) _ (piece_within ps _ u p e)
piece_within (spine_ends n k ∷ ps) i u p e = further i (moves_of (spine_ends n k)) (flat_map moves_of ps) _ (piece_within ps _ u p e)
piece_within (whole_unit t ∷ ps) i zero p e =
    let here : IsWithin (stamped i (moves t)) (stamped i (moves t ++ flat_map moves_of ps)) = ([], stamped (i + length (moves t)) (flat_map moves_of ps), stamped-append i (moves t) (flat_map moves_of ps)) in
    subst (λ q. IsWithin (stamped q.first (moves q.tree)) (stamped i (moves t ++ flat_map moves_of ps))) (ap (λ o. the_piece o p) e) here
piece_within (whole_unit t ∷ ps) i (suc u) p e = further i (moves t) (flat_map moves_of ps) _ (piece_within ps _ u p e)

pub script_within : (nodes : List NumberedNode) (unit : ℕ) (p : Piece) → all_static (forest nodes) ≡ true → slice_get (pieces_of (forest nodes)) unit ≡ Some p
    → IsWithin (script_of (forest nodes) unit) (root_script (forest nodes))
script_within nodes unit p statics e =
    subst (λ l. IsWithin (script_of (forest nodes) unit) (stamped 0 l)) (parts_below-moves true 0 (forest nodes) statics)
    (subst (λ o. IsWithin (steps_of o) (stamped 0 (flat_map moves_of (parts_below true (forest nodes))))) (sym e) (piece_within (parts_below true (forest nodes)) 0 unit p e))
