-- Each static node stands on the spine or in a unit, and none does both.
use Rattle.std.proofs.Common.{◌≡◌, ◌≤◌, ◌<◌, ℕ, zero, suc, ◌+◌, ◌⊎◌, Bool, true, false, cond, List, [], ◌∷◌, ◌++◌, length, flat_map, Some, slice_get, refl, sym, ap, ◌∙◌, subst, arith, inl, inr, ⊎_elim, length-append}
use Rattle.std.proofs.lemmas.Bool.{cases_lt}
use Rattle.std.proofs.lemmas.Option.{same_Some}
use Rattle.tk_ids.specs.declared.descriptors.Descriptor.{Descriptor}
use Rattle.tk_plan.specs.declared.trees.nodes.Node.{Node}
use Rattle.tk_plan.specs.declared.trees.nodes.NumberedNode.{NumberedNode}
use Rattle.tk_plan.specs.Trees.{Tree, tree, Forest, no_trees, more, flat, flats, forest, number_of, IsForest}
use Rattle.tk_plan.specs.Cutting.{Part, Piece, spine_begins, whole_unit, spine_ends, parts, parts_below, moves_of, from_each, piece, spine_numbers, all_static, on_spine}
use Rattle.tk_plan.specs.Numbers.{IsNumbered, numbered_from, with_number, of_kind}
use Rattle.tk_plan.specs.Planned.{IsPlanned}
use Rattle.tk_plan.proofs.Cuts.{spine_facts}
use Rattle.tk_plan.proofs.TableDescriptors.{statics-append, statics_length}
use Rattle.tk_plan.proofs.NumberedPlans.{rooted_static}
use Rattle.tk_plan.proofs.SpineEmissions.{static_both, top_static}
use Rattle.tk_run_laws.specs.Spines.{count_static, end_of, ArePlaced}

-- ---- the numbers of some nodes

-- the numbers of the static nodes are s and those after it
abbrev Follow : ℕ → List NumberedNode → Type 0
Follow s [] = Unit {0}
Follow s (p ∷ ps) =
    ((p.node.is_static ≡ true) × (p.number ≡ s) × Follow (s + 1) ps)
    ⊎ ((p.node.is_static ≡ false) × Follow s ps)

follow_by : (b : Bool) (s d : ℕ) (p : NumberedNode) (xs ys : List NumberedNode) → p.node.is_static ≡ b → Follow (s + 1) xs → Follow s ys
    → Follow s (cond b (with_number s p ∷ xs) (with_number d p ∷ ys))
follow_by true s d p xs ys e f g = inl (e, refl, f)
follow_by false s d p xs ys e f g = inr (e, g)

-- what is numbered from s on has such numbers
follow : (s d : ℕ) (ps : List NumberedNode) → Follow s (numbered_from s d ps)
follow s d [] = tt
follow s d (p ∷ ps) = follow_by p.node.is_static s d p _ _ refl (follow (s + 1) d ps) (follow s (d + 1) ps)

-- how many nodes are static, after one that is or isn't
count_by : (b : Bool) (p : NumberedNode) (ps : List NumberedNode) → p.node.is_static ≡ b → count_static (p ∷ ps) ≡ cond b (1 + count_static ps) (count_static ps)
count_by true p ps e = ap (λ b. length (cond b (p.node ∷ of_kind true ps) (of_kind true ps))) e ∙ omega arith
count_by false p ps e = ap (λ b. length (cond b (p.node ∷ of_kind true ps) (of_kind true ps))) e

pub count-append : (xs ys : List NumberedNode) → count_static (xs ++ ys) ≡ count_static xs + count_static ys
count-append xs ys = ap length (statics-append xs ys) ∙ length-append (of_kind true xs) (of_kind true ys)

-- so have both parts of a list
follow-append : (s : ℕ) (xs ys : List NumberedNode) → Follow s (xs ++ ys) → Follow s xs × Follow (s + count_static xs) ys
follow-append s [] ys h = (tt, subst (λ n. Follow n ys) (omega arith) h)
follow-append s (x ∷ xs) ys (inl h) =
    let both = follow-append (s + 1) xs ys h.2 in
    let count = count_by true x xs h.0 in
    (inl (h.0, h.1, both.0), subst (λ n. Follow n ys) (omega (arith, count)) both.1)
follow-append s (x ∷ xs) ys (inr h) =
    let both = follow-append s xs ys h.1 in
    let count = count_by false x xs h.0 in
    (inr (h.0, both.0), subst (λ n. Follow n ys) (omega (arith, count)) both.1)

-- ---- the numbers that the parts of a plan take

-- The parts take the numbers from s on and before e: a spine node takes one, a unit those of its
-- static nodes.
abbrev pub Walks : ℕ → List Part → ℕ → Type 0
Walks s [] e = s ≡ e
Walks s (spine_begins n k ∷ ps) e = (k ≡ s) × Walks (s + 1) ps e
Walks s (whole_unit t ∷ ps) e = (number_of t ≡ s) × Walks (s + count_static (flat t)) ps e
Walks s (spine_ends n k ∷ ps) e = Walks s ps e

walks-append : (s m e : ℕ) (xs ys : List Part) → Walks s xs m → Walks m ys e → Walks s (xs ++ ys) e
walks-append s m e [] ys h g = subst (λ n. Walks n ys e) (sym h) g
walks-append s m e (spine_begins n k ∷ xs) ys h g = (h.0, walks-append (s + 1) m e xs ys h.1 g)
walks-append s m e (whole_unit t ∷ xs) ys h g = (h.0, walks-append (s + count_static (flat t)) m e xs ys h.1 g)
walks-append s m e (spine_ends n k ∷ xs) ys h g = walks-append s m e xs ys h g

walks_by : (b c : Bool) (n : Node) (k s e : ℕ) (f : Forest) → on_spine b n f ≡ c → k ≡ s → s + count_static (flat (tree n k f)) ≡ e
    → (all_static f ≡ true → Walks (s + 1) (parts_below false f) e)
    → Walks s (cond c (spine_begins n k ∷ (parts_below false f ++ spine_ends n k ∷ [])) (whole_unit (tree n k f) ∷ [])) e
walks_by b true n k s e f o first count inside = (first, walks-append (s + 1) e e (parts_below false f) (spine_ends n k ∷ []) (inside (spine_facts b n f o).1) refl)
walks_by b false n k s e f o first count inside = (first, count)

walks_top : (b : Bool) (n : Node) (k s : ℕ) (f : Forest) → n.is_static ≡ true → Follow s (flat (tree n k f))
    → (all_static f ≡ true → Follow (s + 1) (flats f) → Walks (s + 1) (parts_below false f) (s + 1 + count_static (flats f)))
    → Walks s (parts b (tree n k f)) (s + count_static (flat (tree n k f)))
walks_top b n k s f e (inl h) inside =
    let count = count_by true (record { node = n; number = k; span = suc (length (flats f)) }) (flats f) e in
    walks_by b (on_spine b n f) n k s (s + count_static (flat (tree n k f))) f refl h.1 refl
    (λ statics. subst (Walks (s + 1) (parts_below false f)) (omega (arith, count)) (inside statics h.2))
walks_top b n k s f e (inr h) inside = let bad : true ≡ false = sym e ∙ h.0 in cc

mutual
  walks : (b : Bool) (t : Tree) (s : ℕ) → top_static t ≡ true → Follow s (flat t) → Walks s (parts b t) (s + count_static (flat t))
  walks b (tree n k f) s e h = walks_top b n k s f e h (λ statics g. walks_below false f (s + 1) statics g)

  walks_below : (b : Bool) (f : Forest) (s : ℕ) → all_static f ≡ true → Follow s (flats f) → Walks s (parts_below b f) (s + count_static (flats f))
  walks_below b no_trees s e h = omega arith
  walks_below b (more t f) s e h =
      let statics = static_both t f e in
      let both = follow-append s (flat t) (flats f) h in
      let count = count-append (flat t) (flats f) in
      walks-append s (s + count_static (flat t)) (s + count_static (flats (more t f))) (parts b t) (parts_below b f)
      (walks b t s statics.0 both.0)
      (subst (Walks (s + count_static (flat t)) (parts_below b f)) (omega (arith, count)) (walks_below b f (s + count_static (flat t)) statics.1 both.1))

-- ---- what follows of numbers taken so

ordered : (ps : List Part) (s e : ℕ) → Walks s ps e → s ≤ e
ordered [] s e h = omega (arith, h)
ordered (spine_begins n k ∷ ps) s e h = let rest = ordered ps (s + 1) e h.1 in omega (arith, rest)
ordered (whole_unit t ∷ ps) s e h = let rest = ordered ps (s + count_static (flat t)) e h.1 in omega (arith, rest)
ordered (spine_ends n k ∷ ps) s e h = ordered ps s e h

-- the numbers of spine nodes lie in the range
spine_range : (ps : List Part) (s e j k : ℕ) → Walks s ps e → slice_get (flat_map spine_numbers ps) j ≡ Some k → (s ≤ k) × (k < e)
spine_range [] s e j k h g = cc
spine_range (spine_begins n m ∷ ps) s e zero k h g =
    let same : m ≡ k = same_Some _ _ g in
    let rest = ordered ps (s + 1) e h.1 in
    (omega (arith, same, h.0), omega (arith, same, h.0, rest))
spine_range (spine_begins n m ∷ ps) s e (suc j) k h g = let rest = spine_range ps (s + 1) e j k h.1 g in (omega (arith, rest.0), rest.1)
spine_range (whole_unit t ∷ ps) s e j k h g = let rest = spine_range ps (s + count_static (flat t)) e j k h.1 g in (omega (arith, rest.0), rest.1)
spine_range (spine_ends n m ∷ ps) s e j k h g = spine_range ps s e j k h g

-- and so do those of units
piece_range : (ps : List Part) (i s e j : ℕ) (q : Piece) → Walks s ps e → slice_get (from_each piece i ps) j ≡ Some q → (s ≤ number_of q.tree) × (end_of q.tree ≤ e)
piece_range [] i s e j q h g = cc
piece_range (spine_begins n m ∷ ps) i s e j q h g = let rest = piece_range ps (i + length (moves_of (spine_begins n m))) (s + 1) e j q h.1 g in (omega (arith, rest.0), rest.1)
piece_range (whole_unit t ∷ ps) i s e zero q h g =
    let same : t ≡ q.tree = ap (λ p. p.tree) (same_Some _ _ g) in
    let rest = ordered ps (s + count_static (flat t)) e h.1 in
    subst (λ u. (s ≤ number_of u) × (end_of u ≤ e)) same (omega (arith, h.0), omega (arith, h.0, rest))
piece_range (whole_unit t ∷ ps) i s e (suc j) q h g =
    let rest = piece_range ps (i + length (moves_of (whole_unit t))) (s + count_static (flat t)) e j q h.1 g in (omega (arith, rest.0), rest.1)
piece_range (spine_ends n m ∷ ps) i s e j q h g = piece_range ps (i + length (moves_of (spine_ends n m))) s e j q h g

-- the key is one of the numbers of the unit at the place
abbrev InPiece : List Piece → ℕ → ℕ → Type 0
InPiece pieces unit key = (q : Piece) × (slice_get pieces unit ≡ Some q) × (number_of q.tree ≤ key) × (key < end_of q.tree)

abbrev Placed : List Part → ℕ → ℕ → Type 0
Placed ps i key = ((j : ℕ) × (slice_get (flat_map spine_numbers ps) j ≡ Some key)) ⊎ ((unit : ℕ) × InPiece (from_each piece i ps) unit key)

-- each number of the range is of a spine node or of a unit
placed : (ps : List Part) (i s e key : ℕ) → Walks s ps e → s ≤ key → key < e → Placed ps i key
placed [] i s e key h low high = absurd (omega (arith, h, low, high))
placed (spine_begins n m ∷ ps) i s e key h low high = ⊎_elim
    (λ l. let same : m ≡ key = omega (arith, h.0, low, l) in inl (0, ap Some same))
    (λ l. ⊎_elim (λ x. inl (suc x.0, x.1)) (λ x. inr x) (placed ps (i + length (moves_of (spine_begins n m))) (s + 1) e key h.1 l high))
    (cases_lt key (s + 1))
placed (whole_unit t ∷ ps) i s e key h low high = ⊎_elim
    (λ l. inr (0, (record { tree = t; first = i }, refl, omega (arith, h.0, low), omega (arith, h.0, l))))
    (λ l. ⊎_elim (λ x. inl x) (λ x. inr (suc x.0, x.1)) (placed ps (i + length (moves_of (whole_unit t))) (s + count_static (flat t)) e key h.1 l high))
    (cases_lt key (s + count_static (flat t)))
placed (spine_ends n m ∷ ps) i s e key h low high = placed ps (i + length (moves_of (spine_ends n m))) s e key h low high

-- and of one of them only
apart : (ps : List Part) (i s e j unit key : ℕ) → Walks s ps e → slice_get (flat_map spine_numbers ps) j ≡ Some key → InPiece (from_each piece i ps) unit key → ⊥
apart [] i s e j unit key h g x = cc
apart (spine_begins n m ∷ ps) i s e zero unit key h g x =
    let same : m ≡ key = same_Some _ _ g in
    let range = piece_range ps (i + length (moves_of (spine_begins n m))) (s + 1) e unit x.0 h.1 x.1 in
    omega (arith, same, h.0, range.0, x.2)
apart (spine_begins n m ∷ ps) i s e (suc j) unit key h g x = apart ps (i + length (moves_of (spine_begins n m))) (s + 1) e j unit key h.1 g x
apart (whole_unit t ∷ ps) i s e j zero key h g x =
    let same : t ≡ x.0.tree = ap (λ p. p.tree) (same_Some _ _ x.1) in
    let range = spine_range ps (s + count_static (flat t)) e j key h.1 g in
    let before : key < end_of t = subst (λ u. key < end_of u) (sym same) x.3 in
    omega (arith, h.0, range.0, before)
apart (whole_unit t ∷ ps) i s e j (suc unit) key h g x = apart ps (i + length (moves_of (whole_unit t))) (s + count_static (flat t)) e j unit key h.1 g x
apart (spine_ends n m ∷ ps) i s e j unit key h g x = apart ps (i + length (moves_of (spine_ends n m))) s e j unit key h g x

-- ---- a plan

-- the parts of a plan take the keys of the table
pub plan_walks : (nodes : List NumberedNode) (table : List Descriptor) → IsPlanned nodes table → IsNumbered nodes → Walks 0 (parts_below true (forest nodes)) (length table)
unfolding IsForest
plan_walks nodes table plan numbers =
    let len : length table ≡ count_static nodes = statics_length nodes table plan in
    let same : count_static nodes ≡ count_static (flats (forest nodes)) = ap count_static plan.trees in
    let numbers_follow : Follow 0 nodes = subst (Follow 0) (sym numbers) (follow 0 (count_static nodes) nodes) in
    subst (Walks 0 (parts_below true (forest nodes))) (omega (arith, len, same))
    (walks_below true (forest nodes) 0 (rooted_static (forest nodes) plan.root) (subst (Follow 0) plan.trees numbers_follow))

-- each static node stands on the spine or in a unit, and none does both
pub are_placed : (nodes : List NumberedNode) (table : List Descriptor) → IsPlanned nodes table → IsNumbered nodes → ArePlaced nodes table
are_placed nodes table plan numbers =
    let ps = parts_below true (forest nodes) in
    let taken = plan_walks nodes table plan numbers in
    record {
      placed = λ key l. ⊎_elim
          (λ x. inl x)
          (λ x. inr (x.0, record { piece = x.1.0; its = x.1.1; from_first = x.1.2; before_end = x.1.3 }))
          (placed ps 0 0 (length table) key taken (omega arith) l);
      apart = λ unit key on its. apart ps 0 0 (length table) on.0 unit key taken on.1 (its.piece, its.its, its.from_first, its.before_end);
      within = λ unit q e. (piece_range ps 0 0 (length table) unit q taken e).1;
    }
