-- What trees do, one tree after another.
use Rattle.std.proofs.Common.{◌≡◌, ℕ, suc, ◌+◌, ◌-◌, ◌≤◌, List, [], ◌∷◌, ◌++◌, length, true, false, Bool, cond, is_some, Option, Some, None, refl, sym, ap, ap₂, ◌∙◌, arith, length-append, append_assoc, drop, take, get_or, ◌<◌, ◌==◌}
use Rattle.tk_plan.specs.Cutting.{is_leaf, all_concurrent}
use Rattle.std.proofs.lemmas.List.{drop_more, take_all, nil_from_length}
use Rattle.tk_plan.proofs.Grows.{forest_nil, forest-flats, is_forest, parted}
use Rattle.tk_plan.specs.declared.scripts.steps.Act.{Act}
use Rattle.tk_plan.specs.declared.scripts.steps.Act.TheVariants.{Report, File, Start, Finish}
use Rattle.tk_plan.specs.declared.trees.nodes.Node.{Node}
use Rattle.tk_plan.specs.declared.trees.nodes.NumberedNode.{NumberedNode}
use Rattle.tk_plan.specs.declared.scripts.steps.Move.{Move}
use Rattle.tk_plan.specs.Trees.{Tree, tree, Forest, no_trees, more, flat, flats, grow, forest, IsForest, IsSplit}
use Rattle.tk_plan.specs.Script.{each_act, move, opening, registration, moves, moves_below}
use Rattle.tk_plan.specs.Script.{stamped}
use Rattle.tk_plan.specs.steps.{IsShort, own}
use Rattle.tk_plan.specs.Weights.{registered, publications, weight, weights}

pub length-acts : {A : Type 0} (act : ℕ → Act) (k i : ℕ) (xs : List A) → length (each_act act k i xs) ≡ length xs
length-acts act k i [] = refl
length-acts act k i (x ∷ xs) = ap suc (length-acts act k (i + 1) xs)

pub length-opening : (n : Node) (k : ℕ) → length (opening n k) ≡ 1 + publications n
length-opening n k =
    ap suc (length-append (each_act Report k 0 n.entries) (each_act File k 0 n.files) ∙ ap₂ (λ a b. a + b) (length-acts Report k 0 n.entries) (length-acts File k 0 n.files))
    ∙ omega arith

length-either : (b : Bool) (m : Move) → length (cond b [] (m ∷ [])) ≡ cond b 0 1
length-either true m = refl
length-either false m = refl

registration-length : (parent : ℕ) (t : Tree) → length (registration parent t) ≡ registered t
registration-length parent (tree n k f) = length-either n.is_static _

length-skipped : (b : Bool) (m : Move) (ms : List Move) (w : ℕ) → length ms ≡ w → length (cond b (m ∷ []) ms) ≡ cond b 1 w
length-skipped true m ms w e = refl
length-skipped false m ms w e = e

mutual
  pub moves-length : (t : Tree) → length (moves t) ≡ weight t
  moves-length (tree n k f) = length-skipped (is_some n.skip) _ _ _ (
      length-append (opening n k) _
      ∙ ap₂ (λ a b. a + b) (length-opening n k) (length-append (moves_below k f) _ ∙ ap (λ a. a + 1) (below-length k f))
      ∙ omega arith
      )

  pub below-length : (parent : ℕ) (f : Forest) → length (moves_below parent f) ≡ weights f
  below-length parent no_trees = refl
  below-length parent (more t f) =
      length-append (registration parent t) _
      ∙ ap₂ (λ a b. a + b) (registration-length parent t) (length-append (moves t) _ ∙ ap₂ (λ a b. a + b) (moves-length t) (below-length parent f))
      ∙ omega arith

pub is_leaf_when_empty : (ps : List NumberedNode) → is_leaf (forest ps) ≡ (length ps == 0)
unfolding forest grow
is_leaf_when_empty [] = refl
is_leaf_when_empty (p ∷ ps) = grind arith

pub concurrent_end : (ps : List NumberedNode) → length ps < 1 → all_concurrent (forest ps) ≡ true
concurrent_end [] h = ap all_concurrent forest_nil
concurrent_end (p ∷ ps) h = absurd (omega arith)

pub pushed : (olds news xs ys : List Move) (m : Move) → news ≡ olds ++ m ∷ [] → ys ≡ m ∷ xs → olds ++ ys ≡ news ++ xs
pushed olds news xs ys m e f = ap (λ l. olds ++ l) f ∙ sym (append_assoc olds (m ∷ []) xs) ∙ ap (λ l. l ++ xs) (sym e)

-- ---- one more tree

pub below_end : (parent : ℕ) (ps : List NumberedNode) → length ps < 1 → moves_below parent (forest ps) ≡ []
below_end parent [] h = ap (moves_below parent) forest_nil
below_end parent (p ∷ ps) h = absurd (omega arith)

pub acts_next : {X : Type 0} (act : ℕ → Act) (k i : ℕ) (xs : List (List X)) → i < length xs → each_act act k i (drop i xs) ≡ record { node = k; act = act i } ∷ each_act act k (i + 1) (drop (i + 1) xs)
acts_next act k i xs h = ap (each_act act k i) (drop_more xs i [] h)

pub weights_end : (ps : List NumberedNode) → length ps < 1 → weights (forest ps) ≡ 0
weights_end [] h = ap weights forest_nil
weights_end (p ∷ ps) h = absurd (omega arith)

-- ---- the moves of what comes after a node

join : Forest → Forest → Forest
join no_trees f = f
join (more t g) f = more t (join g f)

flats-join : (g f : Forest) → flats (join g f) ≡ flats g ++ flats f
unfolding join
flats-join no_trees f = refl
flats-join (more t g) f = ap (λ ps. flat t ++ ps) (flats-join g f) ∙ sym (append_assoc (flat t) (flats g) (flats f))

weights-join : (g f : Forest) → weights (join g f) ≡ weights g + weights f
unfolding join
weights-join no_trees f = omega arith
weights-join (more t g) f = ap (λ w. registered t + weight t + w) (weights-join g f) ∙ omega arith

pub after_node : (p : NumberedNode) (after below others : List NumberedNode) → IsSplit p after below others
    → IsForest after × (weights (forest after) ≡ weights (forest below) + weights (forest others))
unfolding IsForest
after_node p after below others s =
    let same : after ≡ flats (join (forest below) (forest others)) = s.whole ∙ ap₂ (λ a b. a ++ b) s.first s.second ∙ sym (flats-join (forest below) (forest others)) in
    (is_forest after _ same, ap (λ ps. weights (forest ps)) same ∙ ap weights (forest-flats _) ∙ weights-join (forest below) (forest others))

open_weight : (p : NumberedNode) (below others : Forest) → is_some p.node.skip ≡ false
    → weights (more (tree p.node p.number below) others) ≡ cond p.node.is_static 0 1 + (2 + publications p.node) + (weights below + weights others)
open_weight p below others h = ap (λ b. cond p.node.is_static 0 1 + cond b 1 (2 + publications p.node + weights below) + weights others) h ∙ omega arith

-- a node that isn't skipped is counted, and then what comes after it
pub weights_open : (p : NumberedNode) (after below others : List NumberedNode) → IsSplit p after below others → is_some p.node.skip ≡ false
    → weights (forest (p ∷ after)) ≡ cond p.node.is_static 0 1 + (2 + publications p.node) + weights (forest after)
weights_open p after below others s h =
    ap weights s.trees ∙ open_weight p (forest below) (forest others) h ∙ ap (λ w. cond p.node.is_static 0 1 + (2 + publications p.node) + w) (sym (after_node p after below others s).1)

pub first_and_rest : (ps : List NumberedNode) (p : NumberedNode) → 1 ≤ length ps → p ≡ get_or ps 0 p → p ∷ take (length ps - 1) (drop 1 ps) ≡ ps
first_and_rest [] p h e = absurd (omega arith)
first_and_rest (q ∷ qs) p h e = ap₂ (λ a b. a ∷ b) e (take_all _ qs (omega arith))

-- ---- a node by itself

own_by : (b : Bool) (n : Node) → is_some n.skip ≡ b → own n ≡ cond n.is_static 0 1 + cond b 1 (2 + publications n)
own_by b n e = ap (λ s. cond n.is_static 0 1 + cond s 1 (2 + publications n)) e

pub counted_open : (p : NumberedNode) (after below others : List NumberedNode) → IsSplit p after below others → is_some p.node.skip ≡ false
    → weights (forest (p ∷ after)) ≡ own p.node + weights (forest after)
counted_open p after below others s h = weights_open p after below others s h ∙ ap (λ w. w + weights (forest after)) (sym (own_by false p.node h))

pub counted_skipped : (p : NumberedNode) (after below others : List NumberedNode) → IsSplit p after below others → is_some p.node.skip ≡ true
    → weights (forest (p ∷ after)) ≡ own p.node + weights (forest others)
counted_skipped p after below others s h =
    ap weights s.trees
    ∙ ap (λ b. cond p.node.is_static 0 1 + cond b 1 (2 + publications p.node + weights (forest below)) + weights (forest others)) h
    ∙ ap (λ w. w + weights (forest others)) (sym (own_by true p.node h))

at_least : (b : Bool) (r x y o : ℕ) → r + cond b 1 x ≤ r + cond b 1 (x + y) + o
at_least true r x y o = omega arith
at_least false r x y o = omega arith

pub own_within : (p : NumberedNode) (after : List NumberedNode) → IsForest (p ∷ after) → own p.node ≤ weights (forest (p ∷ after))
own_within p after h =
    let s = (parted p after h).split in
    omega (arith, ap weights s.trees, at_least (is_some p.node.skip) (cond p.node.is_static 0 1) (2 + publications p.node) (weights (forest (take (p.span - 1) after))) (weights (forest (drop (p.span - 1) after))))

-- ---- what is counted is no more than the whole

pub tree_within : (p : NumberedNode) (after below others : List NumberedNode) → IsSplit p after below others
    → weight (tree p.node p.number (forest below)) + weights (forest others) ≤ weights (forest (p ∷ after))
tree_within p after below others s = omega (arith, ap weights s.trees)

-- a node that starts and finishes gives no other move
pub short_moves : (n : Node) (k : ℕ) (below : List NumberedNode) → IsShort n below → moves (tree n k (forest below)) ≡ move k Start ∷ move k Finish ∷ []
unfolding forest grow
short_moves n k below h = rw (h.alone, h.runs, h.no_entries, h.no_files) refl

any_weight : (b : Bool) (n m : ℕ) → 1 ≤ cond b 1 (2 + n + m)
any_weight true n m = omega arith
any_weight false n m = omega arith

weight_some : (t : Tree) → 1 ≤ weight t
weight_some (tree n k f) = any_weight (is_some n.skip) (publications n) (weights f)

no_weight : (ps : List NumberedNode) → weights (forest ps) ≡ 0 → ps ≡ []
unfolding forest grow
no_weight [] e = refl
no_weight (p ∷ ps) e =
    let top = tree p.node p.number (grow (length ps) (take (p.span - 1) ps)) in
    let some = weight_some top in
    absurd (omega (arith, e))

none_of : {A : Type 0} (o : Option A) → is_some o ≡ false → o ≡ None
none_of None e = refl
none_of (Some x) e = cc

weighs_two : (b : Bool) (n m : ℕ) → cond b 1 (2 + n + m) ≡ 2 → (b ≡ false) × (n + m ≡ 0)
weighs_two true n m e = absurd (omega (arith, e))
weighs_two false n m e = (refl, omega (arith, e))

length-stamped : (i : ℕ) (ms : List Move) → length (stamped i ms) ≡ length ms
length-stamped i [] = refl
length-stamped i (m ∷ ms) = ap suc (length-stamped (i + 1) ms)

-- only a node that starts and finishes gives two steps
pub two_steps : (n : Node) (k : ℕ) (below : List NumberedNode) (i : ℕ) → length (stamped i (moves (tree n k (forest below)))) ≡ 2 → IsShort n below
two_steps n k below i e =
    let two = weighs_two (is_some n.skip) (publications n) (weights (forest below)) (sym (moves-length (tree n k (forest below))) ∙ sym (length-stamped i (moves (tree n k (forest below)))) ∙ e) in
    record {
      alone = no_weight below (omega (arith, two.1));
      runs = none_of n.skip two.0;
      no_entries = nil_from_length n.entries (omega (arith, two.1));
      no_files = nil_from_length n.files (omega (arith, two.1));
    }
