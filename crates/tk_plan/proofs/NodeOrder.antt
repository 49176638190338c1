-- The nodes at the places of their numbers.
use Rattle.std.proofs.Common.{◌≡◌, ℕ, zero, suc, ◌+◌, ◌<◌, List, [], ◌∷◌, ◌++◌, Bool, cond, true, false, length, drop, map, get_or, All, Some, slice_get, slice_index_or, refl, sym, ap, ap₂, ◌∙◌, subst, arith, length-append, append_assoc}
use Rattle.std.proofs.lemmas.List.{drop_more}
use Rattle.tk_base.proofs.Lists.{get_at_seam}
use Rattle.tk_plan.specs.declared.trees.nodes.NumberedNode.{NumberedNode}
use Rattle.tk_plan.specs.declared.trees.nodes.Node.{Node}
use Rattle.tk_plan.specs.Numbers.{IsNumbered, numbered_from, with_number, of_kind, in_order, top_node, at_positions, ArePositionsByNumber}

-- the numbers that nodes take
abbrev pub numbers : ℕ → ℕ → List NumberedNode → List ℕ
numbers s d [] = []
numbers s d (p ∷ ps) = cond p.node.is_static (s ∷ numbers (s + 1) d ps) (d ∷ numbers s (d + 1) ps)

given_by : (b : Bool) (s d : ℕ) (p : NumberedNode) (x y : List NumberedNode) (m n : List ℕ) → map (λ p. p.number) x ≡ m → map (λ p. p.number) y ≡ n
    → map (λ p. p.number) (cond b (with_number s p ∷ x) (with_number d p ∷ y)) ≡ cond b (s ∷ m) (d ∷ n)
given_by true s d p x y m n e f = ap (λ l. s ∷ l) e
given_by false s d p x y m n e f = ap (λ l. d ∷ l) f

numbers_given : (s d : ℕ) (ps : List NumberedNode) → map (λ p. p.number) (numbered_from s d ps) ≡ numbers s d ps
numbers_given s d [] = refl
numbers_given s d (p ∷ ps) = given_by p.node.is_static s d p _ _ _ _ (numbers_given (s + 1) d ps) (numbers_given s (d + 1) ps)

top_at : (all : List NumberedNode) (i : ℕ) (p : NumberedNode) → i < length all → top_node (drop i all) ≡ (get_or all i p).node ∷ []
top_at all i p h = ap top_node (drop_more all i p h)

rest_within : (all : List NumberedNode) (i : ℕ) (is : List ℕ) → All (λ j. j < length all) (i ∷ is) → All (λ j. j < length all) is
rest_within all i is h k d l = h (suc k) d (omega (arith, l))

positions_get : (all : List NumberedNode) (is : List ℕ) → All (λ i. i < length all) is → (k d : ℕ) (p : NumberedNode) → k < length is → slice_get (at_positions all is) k ≡ Some (get_or all (slice_index_or is k d) p).node
positions_get all [] h k d p l = absurd (omega arith)
positions_get all (i ∷ is) h zero d p l = ap (λ ns. slice_get (ns ++ at_positions all is) 0) (top_at all i p (h zero i (omega arith)))
positions_get all (i ∷ is) h (suc k) d p l = ap (λ ns. slice_get (ns ++ at_positions all is) (suc k)) (top_at all i p (h zero i (omega arith))) ∙ positions_get all is (rest_within all i is h) k d p (omega (arith, l))

positions_length : (all : List NumberedNode) (is : List ℕ) (p : NumberedNode) → All (λ i. i < length all) is → length (at_positions all is) ≡ length is
positions_length all [] p h = refl
positions_length all (i ∷ is) p h = ap (λ ns. length (ns ++ at_positions all is)) (top_at all i p (h zero i (omega arith))) ∙ ap suc (positions_length all is p (rest_within all i is h))

by_kind : (b : Bool) (n : Node) (s d : List Node) (m : ℕ) → length s + length d ≡ m → length (cond b (n ∷ s) s) + length (cond b d (n ∷ d)) ≡ suc m
by_kind true n s d m e = omega (arith, e)
by_kind false n s d m e = omega (arith, e)

pub order_length : (ps : List NumberedNode) → length (of_kind true ps) + length (of_kind false ps) ≡ length ps
order_length [] = omega arith
order_length (p ∷ ps) = by_kind p.node.is_static p.node (of_kind true ps) (of_kind false ps) (length ps) (order_length ps)

first_of_all : (all : List NumberedNode) (n : ℕ) → n < length all → NumberedNode
first_of_all [] n h = absurd (omega arith)
first_of_all (p ∷ ps) n h = p

pub enough : (all seen : List NumberedNode) (is : List ℕ) (n : ℕ) → ArePositionsByNumber all is → all ≡ seen → n < length seen → n < length is
enough all seen is n numbered_node same h =
    let in_all : n < length all = omega (arith, h, ap length same) in
    omega (arith, in_all, positions_length all is (first_of_all all n in_all) numbered_node.within, ap length numbered_node.order, length-append (of_kind true all) (of_kind false all), order_length all)

pub node_at : (all seen : List NumberedNode) (is : List ℕ) (n i : ℕ) (p : NumberedNode) → ArePositionsByNumber all is → all ≡ seen → n < length is → i ≡ get_or is n i → p ≡ get_or all i p
    → slice_get (in_order seen) n ≡ Some p.node
node_at all seen is n i p numbered_node same h at e =
    ap (λ ps. slice_get (in_order ps) n) (sym same) ∙ ap (λ ns. slice_get ns n) (sym numbered_node.order) ∙ positions_get all is numbered_node.within n i p h
    ∙ ap (λ j. Some (get_or all j p).node) (sym at) ∙ ap (λ q. Some q.node) (sym e)

pub position_within : (all : List NumberedNode) (is : List ℕ) (n i : ℕ) → ArePositionsByNumber all is → n < length is → i ≡ get_or is n i → i < length all
position_within all is n i numbered_node h at = subst (λ j. j < length all) (sym at) (numbered_node.within n i h)

pub placed_all : (nodes one two : List NumberedNode) (none some all : List ℕ) → one ≡ nodes → two ≡ nodes → none ≡ []
    → at_positions one some ≡ at_positions one none ++ of_kind true one → at_positions two all ≡ at_positions two some ++ of_kind false two → All (λ i. i < length two) all
    → ArePositionsByNumber nodes all
placed_all nodes one two none some all f g e a b w = record {
  order = ap (λ ps. at_positions ps all) (sym g) ∙ b ∙ ap (λ ps. at_positions ps some ++ of_kind false ps) g
      ∙ ap (λ l. l ++ of_kind false nodes) (ap (λ ps. at_positions ps some) (sym f) ∙ a ∙ ap₂ (λ ps is. at_positions ps is ++ of_kind true ps) f e);
  within = subst (λ ps. All (λ i. i < length ps) all) g w;
}

-- ---- a node's number is its place in that order

numbered_at : (b : Bool) (ps : List NumberedNode) (p : NumberedNode) (xs ys all : List Node) (s d k : ℕ) (q : NumberedNode)
    → p.node.is_static ≡ b
    → s ≡ length xs → d ≡ length (xs ++ of_kind true (p ∷ ps)) + length ys
    → all ≡ (xs ++ of_kind true (p ∷ ps)) ++ (ys ++ of_kind false (p ∷ ps))
    → ((zs ws : List Node) (t e i : ℕ) → t ≡ length zs → e ≡ length (zs ++ of_kind true ps) + length ws → all ≡ (zs ++ of_kind true ps) ++ (ws ++ of_kind false ps)
    → i < length ps → slice_get all (get_or (numbers t e ps) i 0) ≡ Some (get_or ps i q).node)
    → k < length (p ∷ ps) → slice_get all (get_or (numbers s d (p ∷ ps)) k 0) ≡ Some (get_or (p ∷ ps) k q).node
numbered_at true ps p xs ys all s d zero q f es ed ea more l =
    let top : of_kind true (p ∷ ps) ≡ p.node ∷ of_kind true ps = ap (λ b. cond b (p.node ∷ of_kind true ps) (of_kind true ps)) f in
    ap (λ b. slice_get all (get_or (cond b (s ∷ numbers (s + 1) d ps) (d ∷ numbers s (d + 1) ps)) 0 0)) f
    ∙ ap (λ a. slice_get a s) (ea ∙ ap (λ t. (xs ++ t) ++ (ys ++ of_kind false (p ∷ ps))) top ∙ append_assoc xs (p.node ∷ of_kind true ps) _)
    ∙ get_at_seam xs _ p.node s es
numbered_at true ps p xs ys all s d (suc k) q f es ed ea more l =
    let top : of_kind true (p ∷ ps) ≡ p.node ∷ of_kind true ps = ap (λ b. cond b (p.node ∷ of_kind true ps) (of_kind true ps)) f in
    let bottom : of_kind false (p ∷ ps) ≡ of_kind false ps = ap (λ b. cond b (of_kind false ps) (p.node ∷ of_kind false ps)) f in
    let turn : xs ++ of_kind true (p ∷ ps) ≡ (xs ++ p.node ∷ []) ++ of_kind true ps = ap (λ t. xs ++ t) top ∙ sym (append_assoc xs (p.node ∷ []) (of_kind true ps)) in
    ap (λ b. slice_get all (get_or (cond b (s ∷ numbers (s + 1) d ps) (d ∷ numbers s (d + 1) ps)) (suc k) 0)) f
    ∙ more (xs ++ p.node ∷ []) ys (s + 1) d k (omega (arith, es, length-append xs (p.node ∷ []))) (ed ∙ ap (λ t. length t + length ys) turn) (ea ∙ ap₂ (λ a b. a ++ (ys ++ b)) turn bottom) (omega (arith, l))
numbered_at false ps p xs ys all s d zero q f es ed ea more l =
    let bottom : of_kind false (p ∷ ps) ≡ p.node ∷ of_kind false ps = ap (λ b. cond b (of_kind false ps) (p.node ∷ of_kind false ps)) f in
    let prefix : List Node = xs ++ of_kind true (p ∷ ps) in
    ap (λ b. slice_get all (get_or (cond b (s ∷ numbers (s + 1) d ps) (d ∷ numbers s (d + 1) ps)) 0 0)) f
    ∙ ap (λ a. slice_get a d) (ea ∙ ap (λ t. prefix ++ (ys ++ t)) bottom ∙ sym (append_assoc prefix ys (p.node ∷ of_kind false ps)))
    ∙ get_at_seam (prefix ++ ys) (of_kind false ps) p.node d (ed ∙ sym (length-append prefix ys))
numbered_at false ps p xs ys all s d (suc k) q f es ed ea more l =
    let top : of_kind true (p ∷ ps) ≡ of_kind true ps = ap (λ b. cond b (p.node ∷ of_kind true ps) (of_kind true ps)) f in
    let bottom : of_kind false (p ∷ ps) ≡ p.node ∷ of_kind false ps = ap (λ b. cond b (of_kind false ps) (p.node ∷ of_kind false ps)) f in
    let turn : ys ++ of_kind false (p ∷ ps) ≡ (ys ++ p.node ∷ []) ++ of_kind false ps = ap (λ t. ys ++ t) bottom ∙ sym (append_assoc ys (p.node ∷ []) (of_kind false ps)) in
    ap (λ b. slice_get all (get_or (cond b (s ∷ numbers (s + 1) d ps) (d ∷ numbers s (d + 1) ps)) (suc k) 0)) f
    ∙ more xs (ys ++ p.node ∷ []) s (d + 1) k es (omega (arith, ed, ap (λ t. length (xs ++ t)) top, length-append ys (p.node ∷ []))) (ea ∙ ap₂ (λ a b. (xs ++ a) ++ b) top turn) (omega (arith, l))

all_from : (ps : List NumberedNode) (q : NumberedNode) (all xs ys : List Node) (s d k : ℕ) → s ≡ length xs → d ≡ length (xs ++ of_kind true ps) + length ys
    → all ≡ (xs ++ of_kind true ps) ++ (ys ++ of_kind false ps) → k < length ps → slice_get all (get_or (numbers s d ps) k 0) ≡ Some (get_or ps k q).node
all_from [] q all xs ys s d k es ed ea l = absurd (omega arith)
all_from (p ∷ ps) q all xs ys s d k es ed ea l =
    numbered_at p.node.is_static ps p xs ys all s d k q refl es ed ea (λ zs ws t e i. all_from ps q all zs ws t e i) l

pub node_by_number : (ps : List NumberedNode) (q : NumberedNode) (k : ℕ) → k < length ps → slice_get (in_order ps) (get_or (numbers 0 (length (of_kind true ps)) ps) k 0) ≡ Some (get_or ps k q).node
node_by_number ps q k l = all_from ps q (in_order ps) [] [] 0 (length (of_kind true ps)) k refl (omega arith) refl l

number_at : (ps : List NumberedNode) (k : ℕ) (q : NumberedNode) → k < length ps → get_or (map (λ p. p.number) ps) k 0 ≡ (get_or ps k q).number
number_at [] k q l = absurd (omega arith)
number_at (p ∷ ps) zero q l = refl
number_at (p ∷ ps) (suc k) q l = number_at ps k q (omega (arith, l))

pub all_numbered : (ps : List NumberedNode) → IsNumbered ps → All (λ p. slice_get (in_order ps) p.number ≡ Some p.node) ps
all_numbered ps e k q l =
    ap (slice_get (in_order ps)) (sym (number_at ps k q l) ∙ ap (λ ns. get_or ns k 0) (ap (map (λ p. p.number)) e ∙ numbers_given 0 (length (of_kind true ps)) ps))
    ∙ node_by_number ps q k l
