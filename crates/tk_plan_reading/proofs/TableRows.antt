-- The descriptors of a plan's static nodes, put into a table one after another.
use Rattle.std.proofs.Common.{◌≡◌, ℕ, zero, suc, ◌+◌, ◌⊎◌, inl, inr, List, [], ◌∷◌, ◌++◌, length, map, Bool, true, false, cond, ◌||◌, Some, None, slice_get, refl, sym, ap, ◌∙◌, subst, arith, append_assoc, append-nil, length-append}
use Rattle.std.proofs.lemmas.List.{map-append}
use Rattle.std.specs.List.{list_any}
use Rattle.std.proofs.lemmas.Bool.{true≢false}
use Rattle.serde_json.specs.Data.{Data}
use Rattle.tk_ids.specs.IdText.{SegmentView}
use Rattle.tk_ids.specs.Table.{ids_of, HasId, HasParent}
use Rattle.tk_ids.specs.declared.descriptors.Descriptor.{Descriptor}
use Rattle.tk_plan.specs.Trees.{Tree, tree, Forest, no_trees, more}
use Rattle.tk_plan.specs.Ids.{ids, ids_below, descriptor, descriptors, descriptors_below}
use Rattle.tk_plan_json.specs.Verdicts.{same_segment, verdict}
use Rattle.tk_plan_json.specs.NodeInputs.{NodeInput, NodeArray, segment_in, below, node_inputs, node_inputs_in, children_of, children_in, dynamic_of, dynamic_in, grown, forest_of}
use Rattle.tk_plan_reading.specs.steps.{Follow}
use Rattle.tk_plan_json.proofs.Distinct.{segment_at, IsApart, AreApart, apart_grown, Among, among_split, among_at, Begins, begins_below, begins_in, same_next, same_self, any_left, any_right, longer}
use Rattle.tk_ids.proofs.ParentIds.{parent_of-child}

-- ---- a static node stands below a static one

abbrev mutual
  pub IsUnder : Bool → Tree → Type 0
  IsUnder up (tree n k f) = (n.is_static ≡ true → up ≡ true) × AreUnder n.is_static f

  pub AreUnder : Bool → Forest → Type 0
  AreUnder up no_trees = Unit {0}
  AreUnder up (more t f) = IsUnder up t × AreUnder up f

abbrev AllUnder : Bool → List NodeInput → Type 0
AllUnder up [] = Unit {0}
AllUnder up (x ∷ xs) = (x.is_static ≡ true → up ≡ true) × AllUnder up xs

under_in : (array : NodeArray) (up : Bool) (i : ℕ) (earlier : List SegmentView) (ds : List Data) → (array.is_static ≡ true → up ≡ true) → AllUnder up (node_inputs_in array i earlier ds)
under_in array up i earlier [] h = tt
under_in array up i earlier (d ∷ ds) h = (h, under_in array up (i + 1) (earlier ++ segment_in d ∷ []) ds h)

under_append : (up : Bool) (xs ys : List NodeInput) → AllUnder up xs → AllUnder up ys → AllUnder up (xs ++ ys)
under_append up [] ys a b = b
under_append up (x ∷ xs) ys a b = (a.0, under_append up xs ys a.1 b)

under_children : (array : NodeArray) (earlier : List SegmentView) (b : Bool) (v : Data) → AllUnder b (node_inputs_in array 0 earlier (children_of b v))
under_children array earlier true v = under_in array true 0 earlier (children_of true v) (λ e. refl)
under_children array earlier false v = tt

false_true : (b : Bool) → false ≡ true → b ≡ true
false_true b e = cc

under_below : (s : NodeInput) → AllUnder s.is_static (below s)
under_below s =
    under_append s.is_static (children_in s (children_of s.is_static s.value)) (dynamic_in s (children_of s.is_static s.value) (dynamic_of s.value)) (under_children _ [] s.is_static s.value)
    (under_in _ s.is_static 0 _ (dynamic_of s.value) (false_true s.is_static))

under_all : (n : ℕ) → ((up : Bool) (s : NodeInput) → (s.is_static ≡ true → up ≡ true) → IsUnder up (grown n s)) → (up : Bool) (xs : List NodeInput) → AllUnder up xs → AreUnder up (forest_of (map (grown n) xs))
under_all n each up [] h = tt
under_all n each up (x ∷ xs) h = (each up x h.0, under_all n each up xs h.1)

under_grown : (n : ℕ) (up : Bool) (s : NodeInput) → (s.is_static ≡ true → up ≡ true) → IsUnder up (grown n s)
unfolding grown
under_grown zero up s h = (h, tt)
under_grown (suc n) up s h = (h, under_all n (under_grown n) s.is_static (below s) (under_below s))

-- ---- ids among those of a table

at_among : (id : List SegmentView) (xs : List (List SegmentView)) → Among id xs → (k : ℕ) × (slice_get xs k ≡ Some id)
at_among id [] a = absurd a
at_among id (x ∷ xs) (inl e) = (0, ap Some (sym e))
at_among id (x ∷ xs) (inr a) = let there = at_among id xs a in (suc there.0, there.1)

among_left : (id : List SegmentView) (xs ys : List (List SegmentView)) → Among id xs → Among id (xs ++ ys)
among_left id [] ys a = absurd a
among_left id (x ∷ xs) ys (inl e) = inl e
among_left id (x ∷ xs) ys (inr a) = inr (among_left id xs ys a)

among_right : (id : List SegmentView) (xs ys : List (List SegmentView)) → Among id ys → Among id (xs ++ ys)
among_right id [] ys a = a
among_right id (x ∷ xs) ys a = inr (among_right id xs ys a)

-- the id is in the table
abbrev Held : List Descriptor → List SegmentView → Type 0
Held table id = Among id (ids_of table)

held_split : (id : List SegmentView) (xs ys : List Descriptor) → Held (xs ++ ys) id → Held xs id ⊎ Held ys id
held_split id xs ys a = among_split id (ids_of xs) (ids_of ys) (subst (Among id) (map-append _ xs ys) a)

held_left : (id : List SegmentView) (xs ys : List Descriptor) → Held xs id → Held (xs ++ ys) id
held_left id xs ys a = subst (Among id) (sym (map-append _ xs ys)) (among_left id (ids_of xs) (ids_of ys) a)

held_right : (id : List SegmentView) (xs ys : List Descriptor) → Held ys id → Held (xs ++ ys) id
held_right id xs ys a = subst (Among id) (sym (map-append _ xs ys)) (among_right id (ids_of xs) (ids_of ys) a)

of_kind : (b : Bool) (id i : List SegmentView) (d : Descriptor) (ds : List Descriptor) (is : List (List SegmentView)) → d.id ≡ i → (Held ds id → Among id is) → Held (cond b (d ∷ []) [] ++ ds) id → Among id (i ∷ is)
of_kind true id i d ds is e f (inl h) = inl (h ∙ e)
of_kind true id i d ds is e f (inr a) = inr (f a)
of_kind false id i d ds is e f a = inr (f a)

mutual
  described : (above id : List SegmentView) (t : Tree) → Held (descriptors above t) id → Among id (ids above t)
  described above id (tree n k f) a =
      of_kind n.is_static id (above ++ n.segment ∷ []) (descriptor (above ++ n.segment ∷ []) n) (descriptors_below (above ++ n.segment ∷ []) f) (ids_below (above ++ n.segment ∷ []) f) refl
      (λ b. described_below (above ++ n.segment ∷ []) id f b) a

  described_below : (above id : List SegmentView) (f : Forest) → Held (descriptors_below above f) id → Among id (ids_below above f)
  described_below above id no_trees a = absurd a
  described_below above id (more t f) a =
      elim (held_split id (descriptors above t) (descriptors_below above f) a) [
        | inl b ↦ among_left id (ids above t) (ids_below above f) (described above id t b)
        | inr b ↦ among_right id (ids above t) (ids_below above f) (described_below above id f b)
      ]

-- ---- one after another

follow_append : (table xs ys : List Descriptor) → Follow table xs → Follow (table ++ xs) ys → Follow table (xs ++ ys)
follow_append table [] ys f g = subst (λ t. Follow t ys) (append-nil table) g
follow_append table (x ∷ xs) ys f g = (f.0, f.1, follow_append (table ++ x ∷ []) xs ys f.2 (subst (λ t. Follow t ys) (sym (append_assoc table (x ∷ []) xs)) g))

-- a child of that parent may stand in the table, if it is static
abbrev Ready : List Descriptor → List SegmentView → Bool → Type 0
Ready table above up = up ≡ true → (above ≡ []) ⊎ Held table above

-- what begins with the parent's id and a segment has one of the earlier segments
abbrev Fresh : List Descriptor → List SegmentView → List SegmentView → Type 0
Fresh table above earlier = (id : List SegmentView) (s : SegmentView) → Held table id → Begins above s id → list_any (same_segment s) earlier ≡ true

parent_held : (table : List Descriptor) (above : List SegmentView) (s : SegmentView) → (above ≡ []) ⊎ Held table above → HasParent table (above ++ s ∷ [])
parent_held table above s (inl e) h = absurd (let n = ap length e in omega (arith, h, n, length-append above (s ∷ [])))
parent_held table above s (inr a) h = subst (HasId table) (sym (parent_of-child above s)) (at_among above (ids_of table) a)

ready_later : (table ds : List Descriptor) (above : List SegmentView) (up : Bool) → Ready table above up → Ready (table ++ ds) above up
ready_later table ds above up r e = by (r e)
  where
    by : (above ≡ []) ⊎ Held table above → (above ≡ []) ⊎ Held (table ++ ds) above
    by (inl h) = inl h
    by (inr a) = inr (held_left above table ds a)

-- the node's own descriptor, if it is static, and then those below it
node_follows : (b up : Bool) (table : List Descriptor) (above : List SegmentView) (s : SegmentView) (d : Descriptor) (ds : List Descriptor) → d.id ≡ above ++ s ∷ [] → (b ≡ true → up ≡ true) → Ready table above up
    → ((id : List SegmentView) → Held table id → Begins above s id → ⊥)
    → ((next : List Descriptor) → Ready next (above ++ s ∷ []) b → Fresh next (above ++ s ∷ []) [] → Follow next ds)
    → Follow table (cond b (d ∷ []) [] ++ ds)
node_follows true up table above s d ds e h r none after = (
  subst (HasParent table) (sym e) (parent_held table above s (r (h refl))),
  λ has. none (above ++ s ∷ []) (among_at (above ++ s ∷ []) (ids_of table) has.0 (has.1 ∙ ap Some e)) (record { rest = []; is = refl }),
  after (table ++ d ∷ []) (λ t. inr (held_right (above ++ s ∷ []) table (d ∷ []) (inl (sym e))))
      (λ id t a b. absurd (elim (held_split id table (d ∷ []) a) [
        | inl c ↦ none id c (begins_below above s t id b)
        | inr c ↦ (elim c [ inl same ↦ longer (above ++ s ∷ []) t b.rest (sym (same ∙ e) ∙ b.is) | inr never ↦ never ])
      ])),
)
node_follows false up table above s d ds e h r none after =
    after table (λ t. absurd (true≢false (sym t))) (λ id t a b. absurd (none id a (begins_below above s t id b)))

mutual
  follows : (table : List Descriptor) (above : List SegmentView) (up : Bool) (t : Tree) → IsApart t → IsUnder up t → Ready table above up → ((id : List SegmentView) → Held table id → Begins above (segment_at t) id → ⊥)
      → Follow table (descriptors above t)
  follows table above up (tree n k f) apart under r none =
      node_follows n.is_static up table above n.segment (descriptor (above ++ n.segment ∷ []) n) (descriptors_below (above ++ n.segment ∷ []) f) refl under.0 r none
      (λ next ready fresh. follow_below next (above ++ n.segment ∷ []) n.is_static [] f apart under.1 ready fresh)

  follow_below : (table : List Descriptor) (above : List SegmentView) (up : Bool) (earlier : List SegmentView) (f : Forest) → AreApart earlier f → AreUnder up f → Ready table above up → Fresh table above earlier
      → Follow table (descriptors_below above f)
  follow_below table above up earlier no_trees apart under r fresh = tt
  follow_below table above up earlier (more t f) apart under r fresh =
      follow_append table (descriptors above t) (descriptors_below above f)
      (follows table above up t apart.1 under.0 r (λ id a b. true≢false (sym (fresh id (segment_at t) a b) ∙ apart.0)))
      (follow_below (table ++ descriptors above t) above up (earlier ++ segment_at t ∷ []) f apart.2 under.1 (ready_later table (descriptors above t) above up r)
      (λ id s a b. elim (held_split id table (descriptors above t) a) [
        | inl c ↦ any_left s earlier (segment_at t ∷ []) (fresh id s c b)
        | inr c ↦ any_right s earlier (segment_at t ∷ []) (last above id s (segment_at t) b (begins_in above id t (described above id t c)))
      ]))
    where
      last : (above id : List SegmentView) (s t : SegmentView) → Begins above s id → Begins above t id → list_any (same_segment s) (t ∷ []) ≡ true
      last above id s t b own = let same = same_next above b.rest own.rest s t (sym b.is ∙ own.is) in subst (λ x. list_any (same_segment s) (x ∷ []) ≡ true) same (ap (λ y. y || false) (same_self s))

pub plan_follows : (n : ℕ) (s : NodeInput) → s.above ≡ [] → verdict [] (node_inputs n s) ≡ None → Follow [] (descriptors s.above (grown n s))
plan_follows n s none fine = follows [] s.above true (grown n s) (apart_grown n [] s fine) (under_grown n true s (λ e. refl)) (λ e. inl none) (λ id a b. a)
