-- What a plan's script says of an id and of a child of it.
use Rattle.std.proofs.Common.{◌≡◌, ◌≢◌, ◌≤◌, ℕ, ◌+◌, ◌⊎◌, Bool, true, false, ◌||◌, List, [], ◌∷◌, ◌++◌, map, length, length-append, suc, is_some, refl, sym, ap, ap₂, ◌∙◌, arith, subst, append-nil, if◌then◌else◌, inl, inr, ⊎_elim}
use Rattle.std.specs.List.{list_any}
use Rattle.std.proofs.lemmas.Bool.{cases_Bool, or_left}
use Rattle.tk_plan.specs.Script.{move, moves, moves_below, opening}
use Rattle.tk_plan.specs.Trees.{Forest, Tree, flat, flats, more, no_trees, tree}
use Rattle.tk_plan.specs.declared.trees.nodes.Node.{Node}
use Rattle.tk_plan.specs.declared.trees.nodes.NumberedNode.{NumberedNode}
use Rattle.tk_plan.specs.declared.scripts.steps.Act.{Act}
use Rattle.tk_plan.specs.declared.scripts.steps.Act.TheVariants.{File, Finish, Register, Report, Skip, Start}
use Rattle.tk_ids.specs.IdText.{SegmentView}
use Rattle.tk_report_text.proofs.Ids.{same_decides}
use Rattle.tk_report_text.specs.Labels.{Label, same_id}
use Rattle.tk_run_laws.proofs.ChainCuts.{none_head, shown_none_below, shown_none_in, shown_not, shown_opening}
use Rattle.tk_run_laws.proofs.Lists.{Each, at_most_tail, count-append, each_split, none_left, zero_or}
use Rattle.tk_run_laws.proofs.MoveLabels.{AreBuilt, HasNone, IsBuilt, IsChain, IsChainBelow, Move, act_label, count_ids, move_label, moves_in, of_publications, publications, shown, shown-append, shown_more}
use Rattle.tk_run_laws.proofs.Orders.{any_kept}
use Rattle.tk_run_laws.proofs.SameReports.{chain_one_below, first_one, rest_one, rest_zero}
use Rattle.tk_run_laws.specs.Listening.{is_of}
use Rattle.tk_run_laws.specs.Scripts.{id_at}

-- ---- ids

pub snoc_same : (xs ys : List SegmentView) (x y : SegmentView) → xs ++ x ∷ [] ≡ ys ++ y ∷ [] → xs ≡ ys
snoc_same [] [] x y e = refl
snoc_same [] (b ∷ []) x y e = cc
snoc_same [] (b ∷ (c ∷ ys)) x y e = cc
snoc_same (a ∷ []) [] x y e = cc
snoc_same (a ∷ (b ∷ xs)) [] x y e = cc
snoc_same (a ∷ xs) (b ∷ ys) x y e = let same : a ≡ b = cc in let rest : xs ++ x ∷ [] ≡ ys ++ y ∷ [] = cc in ap₂ (λ h t. h ∷ t) same (snoc_same xs ys x y rest)

pub not_eq : (x y : List SegmentView) → x ≢ y → same_id x y ≡ false
not_eq x y n = ⊎_elim (λ t. absurd (n ((same_decides x y).0 t))) (λ f. f) (cases_Bool (same_id x y))

pub eq_not : (x y : List SegmentView) → same_id x y ≡ false → x ≢ y
eq_not x y f e = let t = (same_decides x y).1 e in let bad : true ≡ false = sym t ∙ f in cc

pub snoc_some : (a : List SegmentView) (s : SegmentView) → a ++ s ∷ [] ≢ []
snoc_some [] s e = cc
snoc_some (x ∷ a) s e = cc

pub no_child_of_itself : (i : List SegmentView) (s : SegmentView) → i ≡ i ++ s ∷ [] → ⊥
no_child_of_itself i s same =
    let a : length i ≡ length (i ++ s ∷ []) = ap (λ (l : List SegmentView). length l) same in omega (arith, a, length-append i (s ∷ []))

module _ (all : List NumberedNode) where
  mutual
    none_nil_in : (above : List SegmentView) (t : Tree) → IsBuilt all above t → HasNone all (λ j. same_id j []) (flat t)
    none_nil_in above (tree n k f) b = rw (not_eq (id_at all k) [] (λ none. snoc_some above n.segment (sym b.0 ∙ none))) (none_nil (id_at all k) f b.1)

    -- each node has an id
    pub none_nil : (above : List SegmentView) (f : Forest) → AreBuilt all above f → HasNone all (λ j. same_id j []) (flats f)
    none_nil above no_trees b = refl
    none_nil above (more t f) b =
        let first = none_nil_in above t b.0 in
        let rest = none_nil above f b.1 in
        omega (arith, first, rest, count-append (λ (p : NumberedNode). same_id (id_at all p.number) []) (flat t) (flats f))

-- ---- parent and child are a chain

abbrev pub either : List SegmentView → List SegmentView → List SegmentView → Bool
either p c i = same_id i p || same_id i c

few_more : (a b : Bool) (x y z : ℕ) → x ≤ y + z → (if a || b then 1 + x else x) ≤ (if a then 1 + y else y) + (if b then 1 + z else z)
few_more true true x y z h = omega (arith, h)
few_more true false x y z h = omega (arith, h)
few_more false true x y z h = omega (arith, h)
few_more false false x y z h = h

few_end : (a b c : ℕ) → a ≤ b + c → b ≡ 0 → c ≤ 1 → a ≤ 1
few_end a b c h g k = omega (arith, h, g, k)

left_zero : (a b c : ℕ) → a ≡ b + c → a ≡ 0 → b ≡ 0
left_zero a b c e z = omega (arith, e, z)

right_zero : (a b c : ℕ) → a ≡ b + c → a ≡ 0 → c ≡ 0
right_zero a b c e z = omega (arith, e, z)

both_zero : (a b c : ℕ) → a ≡ b + c → b ≡ 0 → c ≡ 0 → a ≡ 0
both_zero a b c e x y = omega (arith, e, x, y)

module _ (all : List NumberedNode) where
  -- how many of the nodes have that id
  abbrev pub with_id : List SegmentView → List NumberedNode → ℕ
  with_id i ps = count_ids all (λ j. same_id j i) ps

  pub both_ids : (i : List SegmentView) (xs ys : List NumberedNode) → with_id i (xs ++ ys) ≡ with_id i xs + with_id i ys
  both_ids i xs ys = count-append (λ (p : NumberedNode). same_id (id_at all p.number) i) xs ys

  pub pair_none : (p c : List SegmentView) (ps : List NumberedNode) → with_id p ps ≡ 0 → with_id c ps ≡ 0 → HasNone all (either p c) ps
  pair_none p c [] h g = refl
  pair_none p c (x ∷ xs) h g =
      let first = none_head all (λ j. same_id j p) x.number (with_id p xs) h in
      let second = none_head all (λ j. same_id j c) x.number (with_id c xs) g in
      rw (first.0, second.0) (pair_none p c xs first.1 second.1)

  pair_few : (p c : List SegmentView) (ps : List NumberedNode) → count_ids all (either p c) ps ≤ with_id p ps + with_id c ps
  pair_few p c [] = omega arith
  pair_few p c (x ∷ xs) = few_more (same_id (id_at all x.number) p) (same_id (id_at all x.number) c) _ _ _ (pair_few p c xs)

  module _ (p : List SegmentView) (s : SegmentView) where
    mutual
      pub parent_in : (above : List SegmentView) (t : Tree) → IsBuilt all above t → above ≢ p → with_id p (flat t) ≡ 0 → with_id (p ++ s ∷ []) (flat t) ≡ 0
      parent_in above (tree n k f) b d z =
          let h = not_eq (id_at all k) (p ++ s ∷ []) (λ e. d (snoc_same above p n.segment s (sym b.0 ∙ e))) in
          let g = none_head all (λ j. same_id j p) k (with_id p (flats f)) z in
          rw h (parent_in_below (id_at all k) f b.1 (eq_not (id_at all k) p g.0) g.1)

      pub parent_in_below : (above : List SegmentView) (f : Forest) → AreBuilt all above f → above ≢ p → with_id p (flats f) ≡ 0 → with_id (p ++ s ∷ []) (flats f) ≡ 0
      parent_in_below above no_trees b d z = refl
      parent_in_below above (more t f) b d z =
          let e = both_ids p (flat t) (flats f) in
          both_zero _ _ _ (both_ids (p ++ s ∷ []) (flat t) (flats f)) (parent_in above t b.0 d (left_zero _ _ _ e z)) (parent_in_below above f b.1 d (right_zero _ _ _ e z))

    mutual
      chain_pair : (above : List SegmentView) (t : Tree) → IsBuilt all above t → above ≢ p → with_id p (flat t) ≤ 1 → with_id (p ++ s ∷ []) (flat t) ≤ 1 → IsChain all (either p (p ++ s ∷ [])) t
      chain_pair above (tree n k f) b d h g =
          let few = pair_few p (p ++ s ∷ []) (flats f) in
          let tail = at_most_tail (same_id (id_at all k) (p ++ s ∷ [])) (with_id (p ++ s ∷ []) (flats f)) g in
          ⊎_elim
          (λ t. chain_one_below all (either p (p ++ s ∷ [])) f (few_end _ _ _ few (none_left (same_id (id_at all k) p) (with_id p (flats f)) t h) tail))
          (λ x. chain_pair_below (id_at all k) f b.1 (eq_not (id_at all k) p x) (at_most_tail (same_id (id_at all k) p) (with_id p (flats f)) h) tail)
          (cases_Bool (same_id (id_at all k) p))

      pub chain_pair_below : (above : List SegmentView) (f : Forest) → AreBuilt all above f → above ≢ p → with_id p (flats f) ≤ 1 → with_id (p ++ s ∷ []) (flats f) ≤ 1 → IsChainBelow all (either p (p ++ s ∷ [])) f
      chain_pair_below above no_trees b d h g = tt
      chain_pair_below above (more t f) b d h g =
          let e = both_ids p (flat t) (flats f) in
          let c = both_ids (p ++ s ∷ []) (flat t) (flats f) in
          ⊎_elim
          (λ z. inl (pair_none p (p ++ s ∷ []) (flat t) z (parent_in above t b.0 d z), chain_pair_below above f b.1 d (rest_one _ _ _ e h) (rest_one _ _ _ c g)))
          (λ z. let y = rest_zero _ _ _ e h z in inr (chain_pair above t b.0 d (first_one _ _ _ e h) (first_one _ _ _ c g), pair_none p (p ++ s ∷ []) (flats f) y (parent_in_below above f b.1 d y)))
          (zero_or (with_id p (flat t)))

-- ---- the labels of an id and of a child of it

-- what a node does, where what stands below it gives these labels
abbrev pub run_around : List NumberedNode → Node → ℕ → List Label → List Label
run_around all n k below = if is_some n.skip then act_label all k Skip ∷ [] else map (move_label all) (opening n k) ++ (below ++ act_label all k Finish ∷ [])

-- and its registration before that
abbrev pub around : List NumberedNode → ℕ → Node → ℕ → List Label → List Label
around all parent n k below = if n.is_static then run_around all n k below else act_label all k (Register parent) ∷ run_around all n k below

module _ (all : List NumberedNode) (q : List SegmentView → Bool) where
  pub shown_yes : (k : ℕ) (a : Act) (ms : List Move) (l : List Label) → q (id_at all k) ≡ true → shown all q ms ≡ l → shown all q (move k a ∷ ms) ≡ act_label all k a ∷ l
  shown_yes k a ms l h e = rw h (ap (λ m. act_label all k a ∷ m) e)

  shown_past : (k : ℕ) (a : Act) (ms : List Move) → q (id_at all k) ≡ false → shown all q (move k a ∷ ms) ≡ shown all q ms
  shown_past k a ms h = rw h refl

  pub own_opening : (n : Node) (k : ℕ) → q (id_at all k) ≡ true → shown all q (opening n k) ≡ map (move_label all) (opening n k)
  own_opening n k h =
      shown_yes k Start (publications n k) (map (move_label all) (publications n k)) h
      (of_publications (λ ms. shown all q ms ≡ map (move_label all) ms) n k (λ j ms g. shown_yes k (Report j) ms (map (move_label all) ms) h g) (λ j ms g. shown_yes k (File j) ms (map (move_label all) ms) h g) refl)

  -- a node whose id passes
  own_tree : (parent : ℕ) (n : Node) (k : ℕ) (f : Forest) → q (id_at all k) ≡ true → shown all q (moves_in parent (tree n k f)) ≡ around all parent n k (shown all q (moves_below k f))
  own_tree parent n k f h =
      let last = move k Finish ∷ [] in
      let below = shown all q (moves_below k f) in
      let ran : shown all q (opening n k ++ (moves_below k f ++ last)) ≡ map (move_label all) (opening n k) ++ (below ++ act_label all k Finish ∷ [])
      = shown-append all q (opening n k) (moves_below k f ++ last)
      ∙ ap₂ (λ a b. a ++ b) (own_opening n k h) (shown-append all q (moves_below k f) last ∙ ap (λ b. below ++ b) (shown_yes k Finish [] [] h refl)) in
      let own : shown all q (moves (tree n k f)) ≡ run_around all n k below
      = elim (is_some n.skip) as (λ b. shown all q (if b then move k Skip ∷ [] else opening n k ++ (moves_below k f ++ last))
      ≡ (if b then act_label all k Skip ∷ [] else map (move_label all) (opening n k) ++ (below ++ act_label all k Finish ∷ [])))
      [ true ↦ shown_yes k Skip [] [] h refl | false ↦ ran ] in
      elim n.is_static as (λ b. shown all q ((if b then [] else move k (Register parent) ∷ []) ++ moves (tree n k f))
      ≡ (if b then run_around all n k below else act_label all k (Register parent) ∷ run_around all n k below))
      [ true ↦ own | false ↦ shown_yes k (Register parent) (moves (tree n k f)) (run_around all n k below) h own ]

  -- a node whose id doesn't pass shows what stands below it, or nothing
  other_tree : (F : List Label → Type 0) → F [] → (parent : ℕ) (n : Node) (k : ℕ) (f : Forest) → q (id_at all k) ≡ false → F (shown all q (moves_below k f)) → F (shown all q (moves_in parent (tree n k f)))
  other_tree F none parent n k f h g =
      let last = move k Finish ∷ [] in
      let below = shown all q (moves_below k f) in
      let ran : shown all q (opening n k ++ (moves_below k f ++ last)) ≡ below
      = shown-append all q (opening n k) (moves_below k f ++ last)
      ∙ ap₂ (λ a b. a ++ b) (shown_opening all q n k h) (shown-append all q (moves_below k f) last ∙ (ap (λ l. below ++ l) (shown_not all q k Finish [] h refl) ∙ append-nil below)) in
      let own : F (shown all q (moves (tree n k f)))
      = elim (is_some n.skip) as (λ b. F (shown all q (if b then move k Skip ∷ [] else opening n k ++ (moves_below k f ++ last))))
      [ true ↦ subst F (sym (shown_not all q k Skip [] h refl)) none | false ↦ subst F (sym ran) g ] in
      elim n.is_static as (λ b. F (shown all q ((if b then [] else move k (Register parent) ∷ []) ++ moves (tree n k f))))
      [ true ↦ own | false ↦ subst F (sym (shown_past k (Register parent) (moves (tree n k f)) h)) own ]

module _ (all : List NumberedNode) (P : NumberedNode → Type 0) (p : List SegmentView) (s : SegmentView) where
  abbrev pair : List SegmentView → Bool
  pair = either p (p ++ s ∷ [])

  -- the labels are those of a node with that id, around labels of its child
  pub record IsOfNode (l : List Label) : Type 0 where
    pub numbered_node : NumberedNode
    pub parent : ℕ
    pub below : List Label
    pub is : same_id (id_at all numbered_node.number) p ≡ true
    pub apart : list_any (is_of p) below ≡ false
    pub labels : l ≡ around all parent numbered_node.node numbered_node.number below
    pub holds : P numbered_node

  abbrev pub IsOwn : List Label → Type 0
  IsOwn l = (l ≡ []) ⊎ IsOfNode l

  -- the id is among these labels where it is among its own
  pub same_any : (ms : List Move) → list_any (is_of p) (shown all pair ms) ≡ list_any (is_of p) (shown all (λ j. same_id j p) ms)
  same_any ms =
      let ls = map (move_label all) ms in
      sym (any_kept (λ (l : Label). pair l.id) (is_of p) (λ l h. or_left (same_id l.id p) _ h) ls) ∙ any_kept (is_of p) (is_of p) (λ l h. h) ls

  mutual
    own_law : (above : List SegmentView) (parent : ℕ) (t : Tree) → IsBuilt all above t → above ≢ p → Each P (flat t) → with_id all p (flat t) ≤ 1 → IsOwn (shown all pair (moves_in parent t))
    own_law above parent (tree n k f) b d a h = ⊎_elim
        (λ y. inr (record {
          numbered_node = record { node = n; number = k; span = suc (length (flats f)) };
          parent = parent;
          below = shown all pair (moves_below k f);
          is = y;
          apart = same_any (moves_below k f) ∙ ap (list_any (is_of p)) (shown_none_below all (λ j. same_id j p) k f (none_left (same_id (id_at all k) p) (with_id all p (flats f)) y h));
          labels = own_tree all pair parent n k f (or_left (same_id (id_at all k) p) _ y);
          holds = a.0;
        }))
        (λ x. other_tree all pair IsOwn (inl refl) parent n k f
        (ap₂ (λ a b. a || b) x (not_eq (id_at all k) (p ++ s ∷ []) (λ e. d (snoc_same above p n.segment s (sym b.0 ∙ e)))))
        (own_law_below (id_at all k) k f b.1 (eq_not (id_at all k) p x) a.1 (at_most_tail (same_id (id_at all k) p) (with_id all p (flats f)) h)))
        (cases_Bool (same_id (id_at all k) p))

    pub own_law_below : (above : List SegmentView) (parent : ℕ) (f : Forest) → AreBuilt all above f → above ≢ p → Each P (flats f) → with_id all p (flats f) ≤ 1 → IsOwn (shown all pair (moves_below parent f))
    own_law_below above parent no_trees b d a h = inl refl
    own_law_below above parent (more t f) b d a h =
        let both = each_split P (flat t) (flats f) a in
        let e = both_ids all p (flat t) (flats f) in
        let first = shown all pair (moves_in parent t) in
        let rest = shown all pair (moves_below parent f) in
        ⊎_elim
        (λ z. subst IsOwn (sym (shown_more all pair parent t f ∙ ap (λ l. l ++ rest) (shown_none_in all pair parent t (pair_none all p (p ++ s ∷ []) (flat t) z (parent_in all p s above t b.0 d z)))))
        (own_law_below above parent f b.1 d both.1 (rest_one _ _ _ e h)))
        (λ z.
        let y = rest_zero _ _ _ e h z in
        subst IsOwn (sym (shown_more all pair parent t f
        ∙ (ap (λ l. first ++ l) (shown_none_below all pair parent f (pair_none all p (p ++ s ∷ []) (flats f) y (parent_in_below all p s above f b.1 d y))) ∙ append-nil first)))
        (own_law above parent t b.0 d both.0 (first_one _ _ _ e h)))
        (zero_or (with_id all p (flat t)))
