-- In a plan's scripts each step has what it needs to be played.
use Rattle.std.proofs.Common.{◌≡◌, ℕ, zero, suc, ◌+◌, ◌==◌, Bool, true, false, List, [], ◌∷◌, ◌++◌, length, Some, slice_get, refl, sym, ap, subst, arith, tests, append_assoc, append-nil, if◌then◌else◌, is_some, inl, inr, ⊎_elim}
use Rattle.std.proofs.lemmas.Bool.{and_parts, cases_Bool}
use Rattle.tk_plan.specs.Cutting.{Part, all_static, from_each, moves_of, on_spine, parts, parts_below, piece, root_script, script_of, spine_begins, spine_ends, whole_unit}
use Rattle.tk_plan.specs.Cutting as cut
use Rattle.tk_plan.specs.Script.{move, moves, moves_below, opening, stamped}
use Rattle.tk_plan.specs.Trees.{Forest, Tree, flat, flats, forest, more, no_trees, number_of, tree}
use Rattle.tk_plan.specs.declared.trees.nodes.Node.{Node}
use Rattle.tk_plan.specs.declared.trees.nodes.NumberedNode.{NumberedNode}
use Rattle.tk_plan.specs.declared.scripts.steps.Act.TheVariants.{Finish, Register, Skip}
use Rattle.tk_plan.proofs.Cuts.{spine_facts}
use Rattle.tk_ids.specs.IdText.{SegmentView}
use Rattle.tk_ids.specs.Table.{ids_of}
use Rattle.tk_ids.specs.declared.descriptors.Descriptor.{Descriptor}
use Rattle.tk_run_laws.proofs.Lists.{Each, each-append, each_split}
use Rattle.tk_run_laws.proofs.MoveLabels.{AreBuilt, IsBuilt, Move, of_publications}
use Rattle.tk_run_laws.proofs.PlanTrees.{AreKeyed, IsKeyed, IsPlanTree}
use Rattle.tk_run_laws.specs.Scripts.{ArePlayable, HasKey, IsPlayable, id_at, is_registration, position}

-- ---- positions

position_more : (x : ℕ) (ids rest : List ℕ) → slice_get ids (position x ids) ≡ Some x → slice_get (ids ++ rest) (position x (ids ++ rest)) ≡ Some x
position_more x [] rest h = cc
position_more x (y ∷ ys) rest h =
    let more = position_more x ys rest in
    elim (y == x) as (λ b. slice_get (y ∷ ys) (if b then 0 else suc (position x ys)) ≡ Some x → slice_get (y ∷ (ys ++ rest)) (if b then 0 else suc (position x (ys ++ rest))) ≡ Some x)
    [ true ↦ (λ e. e) | false ↦ (λ e. more e) ] h

position_last : (x : ℕ) (ids : List ℕ) → slice_get (ids ++ x ∷ []) (position x (ids ++ x ∷ [])) ≡ Some x
position_last x [] = let same : (x == x) ≡ true = grind (arith, tests) in rw same refl
position_last x (y ∷ ys) = ⊎_elim
    (λ e. let same : y ≡ x = grind (arith, tests, e) in rw e (ap Some same))
    (λ e. rw e (position_last x ys))
    (cases_Bool (y == x))

-- ---- moves

-- each move can be played after those before it
abbrev Plays : List NumberedNode → List Descriptor → List ℕ → List Move → Type 0
Plays all table ids [] = Unit {0}
Plays all table ids (m ∷ ms) = IsPlayable all table ids m.node m.act × Plays all table (if is_registration m.act then ids ++ m.node ∷ [] else ids) ms

module _ (all : List NumberedNode) (table : List Descriptor) where
  plays_stamped : (ids : List ℕ) (p : ℕ) (ms : List Move) → Plays all table ids ms → ArePlayable all table ids (stamped p ms)
  plays_stamped ids p [] h = tt
  plays_stamped ids p (m ∷ ms) h = (h.0, plays_stamped (if is_registration m.act then ids ++ m.node ∷ [] else ids) (p + 1) ms h.1)

  plays-append : (ids : List ℕ) (xs ys : List Move) → Plays all table ids xs → ((rest : List ℕ) → Plays all table (ids ++ rest) ys) → Plays all table ids (xs ++ ys)
  plays-append ids [] ys h g = subst (λ i. Plays all table i ys) (append-nil ids) (g [])
  plays-append ids (m ∷ ms) ys h g = (
    h.0,
    elim (is_registration m.act) as (λ d. Plays all table (if d then ids ++ m.node ∷ [] else ids) ms → Plays all table (if d then ids ++ m.node ∷ [] else ids) (ms ++ ys)) [
      | true ↦ (λ a. plays-append (ids ++ m.node ∷ []) ms ys a (λ rest. subst (λ i. Plays all table i ys) (sym (append_assoc ids (m.node ∷ []) rest)) (g (m.node ∷ rest))))
      | false ↦ (λ a. plays-append ids ms ys a g)
    ] h.1,
  )

  has_more : (ids rest : List ℕ) (k : ℕ) → HasKey all table ids k → HasKey all table (ids ++ rest) k
  has_more ids rest k (inl h) = inl h
  has_more ids rest k (inr h) = inr (h.0, position_more k ids rest h.1)

  plays_opening : (ids : List ℕ) (n : Node) (k : ℕ) → HasKey all table ids k → Plays all table ids (opening n k)
  plays_opening ids n k h = (h, of_publications (Plays all table ids) n k (λ i ms g. (h, g)) (λ i ms g. (h, g)) tt)

  mutual
    plays : (ids : List ℕ) (t : Tree) → AreKeyed all table (flat t) → (above : List SegmentView) → IsBuilt all above t → HasKey all table ids (number_of t) → Plays all table ids (moves t)
    plays ids (tree n k f) each above b h =
        let whole = plays-append ids (opening n k) (moves_below k f ++ move k Finish ∷ []) (plays_opening ids n k h) (λ rest.
        let here = has_more ids rest k h in
        plays-append (ids ++ rest) (moves_below k f) (move k Finish ∷ []) (plays_below (ids ++ rest) k f each.1 b.1 here) (λ more. (has_more (ids ++ rest) more k here, tt))) in
        elim (is_some n.skip) as (λ s. Plays all table ids (if s then move k Skip ∷ [] else opening n k ++ (moves_below k f ++ move k Finish ∷ []))) [ true ↦ (h, tt) | false ↦ whole ]

    plays_below : (ids : List ℕ) (parent : ℕ) (f : Forest) → AreKeyed all table (flats f) → AreBuilt all (id_at all parent) f → HasKey all table ids parent → Plays all table ids (moves_below parent f)
    plays_below ids parent no_trees each b h = tt
    plays_below ids parent (more (tree n k g) f) each b h =
        let t = tree n k g in
        let both = each_split (λ (p : NumberedNode). IsKeyed all table p.node p.number) (flat t) (flats f) each in
        let own : IsKeyed all table n k = both.0.0 in
        let rest : (i : List ℕ) → HasKey all table i parent → HasKey all table i k → Plays all table i (moves t ++ moves_below parent f)
        = λ i above own. plays-append i (moves t) (moves_below parent f) (plays i (tree n k g) both.0 (id_at all parent) b.0 own) (λ more. plays_below (i ++ more) parent f both.1 b.1 (has_more i more parent above)) in
        elim n.is_static as (λ s. ((s ≡ true) → HasKey all table ids k) → ((s ≡ false) → HasKey all table (ids ++ k ∷ []) k)
        → Plays all table ids ((if s then [] else move k (Register parent) ∷ []) ++ (moves t ++ moves_below parent f))) [
          | true ↦ (λ x y. rest ids h (x refl))
          | false ↦ (λ x y. ((h, (n, own.node, b.0.0)), rest (ids ++ k ∷ []) (has_more ids (k ∷ []) parent h) (y refl)))
        ] (λ e. inl (own.static e)) (λ e. inr (own.dynamic e, position_last k ids))

  -- ---- trees whose tops are static

  abbrev is_static : Tree → Bool
  is_static (tree n k f) = n.is_static

  plays_top : (ids : List ℕ) (above : List SegmentView) (t : Tree) → is_static t ≡ true → AreKeyed all table (flat t) → IsBuilt all above t → Plays all table ids (moves t)
  plays_top ids above (tree n k f) s each b = plays ids (tree n k f) each above b (inl (each.0.static s))

  plays_statics : (ids : List ℕ) (above : List SegmentView) (parent : ℕ) (f : Forest) → all_static f ≡ true → AreKeyed all table (flats f) → AreBuilt all above f → Plays all table ids (moves_below parent f)
  plays_statics ids above parent no_trees s each b = tt
  plays_statics ids above parent (more (tree n k g) f) s each b =
      let t = tree n k g in
      let statics = and_parts n.is_static (all_static f) s in
      let both = each_split (λ (p : NumberedNode). IsKeyed all table p.node p.number) (flat t) (flats f) each in
      subst (λ x. Plays all table ids ((if x then [] else move k (Register parent) ∷ []) ++ (moves t ++ moves_below parent f))) (sym statics.0)
      (plays-append ids (moves t) (moves_below parent f) (plays_top ids above t statics.0 both.0 b.0) (λ more. plays_statics (ids ++ more) above parent f statics.1 both.1 b.1))

  -- a node on the spine is found by its number, and the table has its id there
  abbrev pub IsOfSpine : Node → ℕ → Type 0
  IsOfSpine n k = IsKeyed all table n k × (slice_get (ids_of table) k ≡ Some (id_at all k))

  -- a part of the spine is of a node in the table, and a unit can be played
  abbrev pub IsKnownPart : Part → Type 0
  IsKnownPart (spine_begins n k) = IsOfSpine n k
  IsKnownPart (whole_unit t) = Plays all table [] (moves t)
  IsKnownPart (spine_ends n k) = IsOfSpine n k

  mutual
    known_parts : (b : Bool) (above : List SegmentView) (t : Tree) → is_static t ≡ true → AreKeyed all table (flat t) → IsBuilt all above t → Each IsKnownPart (parts b t)
    known_parts b above (tree n k f) s each built =
        let own : IsOfSpine n k = (each.0, (each.0.static s).1) in
        ⊎_elim
        (λ (y : on_spine b n f ≡ true).
        subst (λ x. Each IsKnownPart (if x then spine_begins n k ∷ (parts_below false f ++ spine_ends n k ∷ []) else whole_unit (tree n k f) ∷ [])) (sym y)
        (own, each-append IsKnownPart (parts_below false f) (spine_ends n k ∷ []) (known_below false (id_at all k) f (spine_facts b n f y).1 each.1 built.1) (own, tt)))
        (λ (y : on_spine b n f ≡ false).
        subst (λ x. Each IsKnownPart (if x then spine_begins n k ∷ (parts_below false f ++ spine_ends n k ∷ []) else whole_unit (tree n k f) ∷ [])) (sym y)
        (plays_top [] above (tree n k f) s each built, tt))
        (cases_Bool (on_spine b n f))

    known_below : (b : Bool) (above : List SegmentView) (f : Forest) → all_static f ≡ true → AreKeyed all table (flats f) → AreBuilt all above f → Each IsKnownPart (parts_below b f)
    known_below b above no_trees s each built = tt
    known_below b above (more (tree n k g) f) s each built =
        let statics = and_parts n.is_static (all_static f) s in
        let both = each_split (λ (p : NumberedNode). IsKeyed all table p.node p.number) (flat (tree n k g)) (flats f) each in
        each-append IsKnownPart (parts b (tree n k g)) (parts_below b f) (known_parts b above (tree n k g) statics.0 both.0 built.0) (known_below b above f statics.1 both.1 built.1)

  plays_at : (i : ℕ) (ps : List Part) → Each IsKnownPart ps → (u : ℕ) → ArePlayable all table [] (cut.steps_of (slice_get (from_each piece i ps) u))
  plays_at i [] h u = tt
  plays_at i (spine_begins n k ∷ ps) h u = plays_at (i + length (moves_of (spine_begins n k))) ps h.1 u
  plays_at i (whole_unit t ∷ ps) h zero = plays_stamped [] i (moves t) h.0
  plays_at i (whole_unit t ∷ ps) h (suc u) = plays_at (i + length (moves t)) ps h.1 u
  plays_at i (spine_ends n k ∷ ps) h u = plays_at (i + length (moves_of (spine_ends n k))) ps h.1 u

  -- ---- the scripts of a plan

  module _ (plan : IsPlanTree all table) where
    pub parts_known : Each IsKnownPart (parts_below true (forest all))
    parts_known = known_below true [] (forest all) plan.statics plan.keyed plan.built

    pub unit_plays : (u : ℕ) → ArePlayable all table [] (script_of (forest all) u)
    unit_plays = plays_at 0 (parts_below true (forest all)) parts_known

    pub root_plays : ArePlayable all table [] (root_script (forest all))
    root_plays = plays_stamped [] 0 (moves_below 0 (forest all)) (plays_statics [] [] 0 (forest all) plan.statics plan.keyed plan.built)
