-- What holds of the tree of every plan: the numbers, keys and ids of its nodes agree.
use Rattle.std.proofs.Common.{◌≡◌, ◌≤◌, ◌<◌, ℕ, zero, suc, ◌+◌, ◌⊎◌, Bool, true, false, cond, ◌==◌, List, [], ◌∷◌, ◌++◌, All, map}
use Rattle.std.proofs.Common.{length, Some, slice_get, refl, sym, ap, ap₂, ◌∙◌, subst, arith, tests, if◌then◌else◌, inl, inr, ⊎_elim}
use Rattle.std.proofs.lemmas.Bool.{cases_Bool}
use Rattle.std.proofs.lemmas.List.{map-append, length-map}
use Rattle.std.proofs.lemmas.Option.{same_Some, slice_get_within}
use Rattle.tk_base.proofs.Lists.{All_at, get_below}
use Rattle.tk_plan.specs.Cutting.{after_of, all_static, before_of}
use Rattle.tk_plan.specs.Events.{IsStatic}
use Rattle.tk_plan.specs.Ids.{AreDistinct, descriptor, descriptors, descriptors_below, ids, ids_below}
use Rattle.tk_plan.specs.Numbers.{IsNumbered, in_order, numbered_from, of_kind, with_number}
use Rattle.tk_plan.specs.Planned.{IsPlanned}
use Rattle.tk_plan.specs.Trees.{Forest, IsForest, Tree, flat, flats, forest, more, no_trees, tree}
use Rattle.tk_plan.specs.declared.trees.nodes.Node.{Node}
use Rattle.tk_plan.specs.declared.trees.nodes.NumberedNode.{NumberedNode}
use Rattle.tk_plan.proofs.NodeKeys.{ids-length, ids_below-length, key_within, keyed}
use Rattle.tk_plan.proofs.NodeOrder.{all_numbered}
use Rattle.tk_plan.proofs.NumberedPlans.{rooted_static}
use Rattle.tk_plan.proofs.SpineEmissions.{after_static, before_static}
use Rattle.tk_plan.proofs.TableDescriptors.{statics_length}
use Rattle.tk_ids.specs.IdText.{SegmentView}
use Rattle.tk_ids.specs.Table.{ids_of}
use Rattle.tk_ids.specs.declared.descriptors.Descriptor.{Descriptor}
use Rattle.tk_report_text.proofs.Ids.{same_decides}
use Rattle.tk_report_text.specs.Labels.{same_id}
use Rattle.tk_run_laws.proofs.Lists.{Each, count, each_from}
use Rattle.tk_run_laws.proofs.MoveLabels.{AreBuilt, IsBuilt, count_ids}
use Rattle.tk_run_laws.proofs.Positions.{map_get, of_map}
use Rattle.tk_run_laws.proofs.RegistrationCounts.{is_dynamic_node}
use Rattle.tk_run_laws.specs.Scripts.{id_at, id_of}

-- what the plan says of the node of that number: the table has the ids of the static ones alone, under their numbers
pub record IsKeyed (all : List NumberedNode) (table : List Descriptor) (n : Node) (k : ℕ) : Type 0 where
  pub node : slice_get (in_order all) k ≡ Some n
  pub static : n.is_static ≡ true → (k < length table) × (slice_get (ids_of table) k ≡ Some (id_at all k))
  pub dynamic : n.is_static ≡ false → length table ≤ k
  pub apart : n.is_static ≡ false → (j : ℕ) → slice_get (ids_of table) j ≡ Some (id_at all k) → ⊥

abbrev pub AreKeyed : List NumberedNode → List Descriptor → List NumberedNode → Type 0
AreKeyed all table ps = Each (λ p. IsKeyed all table p.node p.number) ps

-- what holds of the tree of a plan
pub record IsPlanTree (all : List NumberedNode) (table : List Descriptor) : Type 0 where
  pub keyed : AreKeyed all table (flats (forest all))
  pub distinct : (id : List SegmentView) → count_ids all (λ i. same_id i id) (flats (forest all)) ≤ 1
  pub few_static : length table ≤ 65536
  pub few_dynamic : count is_dynamic_node (flats (forest all)) ≤ 65536
  pub built : AreBuilt all [] (forest all)
  pub once : (j k : ℕ) (x : List SegmentView) → slice_get (ids_of table) j ≡ Some x → slice_get (ids_of table) k ≡ Some x → j ≡ k
  pub statics : all_static (forest all) ≡ true
  pub before : All (IsStatic table) (before_of (forest all))
  pub after : All (IsStatic table) (after_of (forest all))

-- ---- numbers

-- where the numbers of some nodes lie
abbrev InRange : ℕ → ℕ → List NumberedNode → NumberedNode → Type 0
InRange s d ps p =
    ((p.node.is_static ≡ true) × (s ≤ p.number) × (p.number < s + length (of_kind true ps)))
    ⊎ ((p.node.is_static ≡ false) × (d ≤ p.number))

-- the number of a node lies there, and its id is found by it
abbrev IsFound : ℕ → ℕ → List NumberedNode → List (List SegmentView) → NumberedNode → List SegmentView → Type 0
IsFound s d ps is p id = InRange s d ps p × (id_of (numbered_from s d ps) is p.number ≡ id)

found_by : (b : Bool) (q : NumberedNode) (ps : List NumberedNode) (j : List SegmentView) (is : List (List SegmentView)) (s d i : ℕ) (p : NumberedNode) (id : List SegmentView)
    → q.node.is_static ≡ b
    → ((s d i : ℕ) → s + length (of_kind true ps) ≤ d → slice_get (numbered_from s d ps) i ≡ Some p → slice_get is i ≡ Some id → IsFound s d ps is p id)
    → s + length (cond b (q.node ∷ of_kind true ps) (of_kind true ps)) ≤ d
    → slice_get (cond b (with_number s q ∷ numbered_from (s + 1) d ps) (with_number d q ∷ numbered_from s (d + 1) ps)) i ≡ Some p → slice_get (j ∷ is) i ≡ Some id
    → (((p.node.is_static ≡ true) × (s ≤ p.number) × (p.number < s + length (cond b (q.node ∷ of_kind true ps) (of_kind true ps)))) ⊎ ((p.node.is_static ≡ false) × (d ≤ p.number)))
    × (id_of (cond b (with_number s q ∷ numbered_from (s + 1) d ps) (with_number d q ∷ numbered_from s (d + 1) ps)) (j ∷ is) p.number ≡ id)
found_by true q ps j is s d zero p id f next l e g =
    let same : with_number s q ≡ p = same_Some _ _ e in
    let number : s ≡ p.number = ap (λ w. w.number) same in
    let own : (s == p.number) ≡ true = grind (arith, tests, number) in (
      inl (sym (ap (λ w. w.node.is_static) same) ∙ f, omega (arith, number), omega (arith, number)),
      ap (λ b. if b then j else id_of (numbered_from (s + 1) d ps) is p.number) own ∙ same_Some _ _ g,
    )
found_by true q ps j is s d (suc i) p id f next l e g =
    let more = next (s + 1) d i (omega (arith, l)) e g in
    let differ : (s == p.number) ≡ false = ⊎_elim (λ h. grind (arith, tests, h.1)) (λ h. grind (arith, tests, h.1, l)) more.0 in (
      ⊎_elim (λ h. inl (h.0, omega (arith, h.1), omega (arith, h.2))) (λ h. inr h) more.0,
      ap (λ b. if b then j else id_of (numbered_from (s + 1) d ps) is p.number) differ ∙ more.1,
    )
found_by false q ps j is s d zero p id f next l e g =
    let same : with_number d q ≡ p = same_Some _ _ e in
    let number : d ≡ p.number = ap (λ w. w.number) same in
    let own : (d == p.number) ≡ true = grind (arith, tests, number) in (
      inr (sym (ap (λ w. w.node.is_static) same) ∙ f, omega (arith, number)),
      ap (λ b. if b then j else id_of (numbered_from s (d + 1) ps) is p.number) own ∙ same_Some _ _ g,
    )
found_by false q ps j is s d (suc i) p id f next l e g =
    let more = next s (d + 1) i (omega (arith, l)) e g in
    let differ : (d == p.number) ≡ false = ⊎_elim (λ h. grind (arith, tests, h.2, l)) (λ h. grind (arith, tests, h.1)) more.0 in (
      ⊎_elim (λ h. inl h) (λ h. inr (h.0, omega (arith, h.1))) more.0,
      ap (λ b. if b then j else id_of (numbered_from s (d + 1) ps) is p.number) differ ∙ more.1,
    )

found : (ps : List NumberedNode) (is : List (List SegmentView)) (s d i : ℕ) (p : NumberedNode) (id : List SegmentView) → s + length (of_kind true ps) ≤ d
    → slice_get (numbered_from s d ps) i ≡ Some p → slice_get is i ≡ Some id → IsFound s d ps is p id
found [] is s d i p id l e g = cc
found (q ∷ ps) [] s d i p id l e g = cc
found (q ∷ ps) (j ∷ is) s d i p id l e g = found_by q.node.is_static q ps j is s d i p id refl (λ s d i l e g. found ps is s d i p id l e g) l e g

-- ---- counts

distinct_tail : (i : List SegmentView) (is : List (List SegmentView)) → AreDistinct (i ∷ is) → AreDistinct is
distinct_tail i is h j k id a b = let same : suc j ≡ suc k = h (suc j) (suc k) id a b in omega (arith, same)

none_of : (i : List SegmentView) (is : List (List SegmentView)) → ((k : ℕ) → slice_get is k ≡ Some i → ⊥) → count (λ j. same_id j i) is ≡ 0
none_of i [] h = refl
none_of i (j ∷ is) h =
    let more = none_of i is (λ k e. h (suc k) e) in
    ⊎_elim
    (λ e. absurd (h 0 (ap Some ((same_decides j i).0 e))))
    (λ e. ap (λ b. if b then 1 + count (λ j. same_id j i) is else count (λ j. same_id j i) is) e ∙ more)
    (cases_Bool (same_id j i))

one_more : (b : Bool) (n : ℕ) → (b ≡ true → n ≡ 0) → n ≤ 1 → (if b then 1 + n else n) ≤ 1
one_more true n z h = let e = z refl in omega (arith, e)
one_more false n z h = h

zero_suc : (k : ℕ) → 0 ≡ suc k → ⊥
zero_suc k e = omega (arith, e)

at_most_one : (is : List (List SegmentView)) → AreDistinct is → (i : List SegmentView) → count (λ j. same_id j i) is ≤ 1
at_most_one [] h i = omega arith
at_most_one (j ∷ is) h i = one_more (same_id j i) _
    (λ e. let same = (same_decides j i).0 e in none_of i is (λ k a. zero_suc k (h 0 (suc k) i (ap Some same) a)))
    (at_most_one is (distinct_tail j is h) i)

dynamic_by : (b : Bool) (n : Node) (ns : List Node) (m : ℕ) → m ≡ length ns → (if (if b then false else true) then 1 + m else m) ≡ length (cond b ns (n ∷ ns))
dynamic_by true n ns m e = e
dynamic_by false n ns m e = omega (arith, e)

count_dynamic : (ps : List NumberedNode) → count is_dynamic_node ps ≡ length (of_kind false ps)
count_dynamic [] = refl
count_dynamic (p ∷ ps) = dynamic_by p.node.is_static p.node (of_kind false ps) (count is_dynamic_node ps) (count_dynamic ps)

-- ---- the table's ids are some of the nodes', in their order

abbrev Within : {A : Type 0} → List A → List A → Type 0
Within [] ys = Unit {0}
Within (x ∷ xs) [] = ⊥
Within (x ∷ xs) (y ∷ ys) = ((x ≡ y) × Within xs ys) ⊎ Within (x ∷ xs) ys

within_more : {A : Type 0} (xs ys zs : List A) → Within xs zs → Within xs (ys ++ zs)
within_more [] ys zs h = tt
within_more (x ∷ xs) [] zs h = h
within_more (x ∷ xs) (y ∷ ys) zs h = inr (within_more (x ∷ xs) ys zs h)

within-append : {A : Type 0} (us bs xs ys : List A) → Within us bs → Within xs ys → Within (us ++ xs) (bs ++ ys)
within-append [] bs xs ys h g = within_more xs bs ys g
within-append (a ∷ us) [] xs ys h g = absurd h
within-append (a ∷ us) (b ∷ bs) xs ys (inl h) g = inl (h.0, within-append us bs xs ys h.1 g)
within-append (a ∷ us) (b ∷ bs) xs ys (inr h) g = inr (within-append (a ∷ us) bs xs ys h g)

within_next : {A : Type 0} (xs ys : List A) (y : A) → Within xs ys → Within xs (y ∷ ys)
within_next [] ys y h = tt
within_next (x ∷ xs) ys y h = inr h

within_by : (b : Bool) (d : Descriptor) (ds : List Descriptor) (ys : List (List SegmentView)) → Within (ids_of ds) ys → Within (ids_of ((if b then d ∷ [] else []) ++ ds)) (d.id ∷ ys)
within_by true d ds ys h = inl (refl, h)
within_by false d ds ys h = within_next (ids_of ds) ys d.id h

mutual
  within_tree : (above : List SegmentView) (t : Tree) → Within (ids_of (descriptors above t)) (ids above t)
  within_tree above (tree n k f) =
      within_by n.is_static (descriptor (above ++ n.segment ∷ []) n) (descriptors_below (above ++ n.segment ∷ []) f) (ids_below (above ++ n.segment ∷ []) f) (within_below (above ++ n.segment ∷ []) f)

  within_below : (above : List SegmentView) (f : Forest) → Within (ids_of (descriptors_below above f)) (ids_below above f)
  within_below above no_trees = tt
  within_below above (more t f) =
      subst (λ l. Within l (ids above t ++ ids_below above f)) (sym (map-append (λ d. d.id) (descriptors above t) (descriptors_below above f)))
      (within-append _ _ _ _ (within_tree above t) (within_below above f))

somewhere : {A : Type 0} (xs ys : List A) (k : ℕ) (x : A) → Within xs ys → slice_get xs k ≡ Some x → (at : ℕ) × (slice_get ys at ≡ Some x)
somewhere [] ys k x h e = cc
somewhere (y ∷ xs) [] k x h e = absurd h
somewhere (y ∷ xs) (z ∷ ys) zero x (inl h) e = (0, ap Some (sym h.0) ∙ e)
somewhere (y ∷ xs) (z ∷ ys) (suc k) x (inl h) e = let more = somewhere xs ys k x h.1 e in (suc more.0, more.1)
somewhere (y ∷ xs) (z ∷ ys) k x (inr h) e = let more = somewhere (y ∷ xs) ys k x h e in (suc more.0, more.1)

once_within : (xs ys : List (List SegmentView)) → Within xs ys → AreDistinct ys → (j k : ℕ) (x : List SegmentView) → slice_get xs j ≡ Some x → slice_get xs k ≡ Some x → j ≡ k
once_within [] ys h d j k x a b = cc
once_within (z ∷ xs) [] h d j k x a b = absurd h
once_within (z ∷ xs) (y ∷ ys) (inl h) d zero zero x a b = refl
once_within (z ∷ xs) (y ∷ ys) (inl h) d zero (suc k) x a b =
    let there = somewhere xs ys k x h.1 b in absurd (zero_suc there.0 (d 0 (suc there.0) x (ap Some (sym h.0) ∙ a) there.1))
once_within (z ∷ xs) (y ∷ ys) (inl h) d (suc j) zero x a b =
    let there = somewhere xs ys j x h.1 a in absurd (zero_suc there.0 (d 0 (suc there.0) x (ap Some (sym h.0) ∙ b) there.1))
once_within (z ∷ xs) (y ∷ ys) (inl h) d (suc j) (suc k) x a b = ap suc (once_within xs ys h.1 (distinct_tail y ys d) j k x a b)
once_within (z ∷ xs) (y ∷ ys) (inr h) d j k x a b = once_within (z ∷ xs) ys h (distinct_tail y ys d) j k x a b

-- ---- ids

ids_are : (g : NumberedNode → List SegmentView) (ps : List NumberedNode) (is : List (List SegmentView)) → length ps ≡ length is
    → ((i : ℕ) (p : NumberedNode) (id : List SegmentView) → slice_get ps i ≡ Some p → slice_get is i ≡ Some id → g p ≡ id) → map g ps ≡ is
ids_are g [] [] l h = refl
ids_are g [] (i ∷ is) l h = absurd (omega (arith, l))
ids_are g (p ∷ ps) [] l h = absurd (omega (arith, l))
ids_are g (p ∷ ps) (i ∷ is) l h = ap₂ (λ x xs. x ∷ xs) (h 0 p i refl refl) (ids_are g ps is (omega (arith, l)) (λ k x id e f. h (suc k) x id e f))

parts_same : {A : Type 0} (xs ys us vs : List A) → length xs ≡ length us → xs ++ ys ≡ us ++ vs → (xs ≡ us) × (ys ≡ vs)
parts_same [] ys [] vs l e = (refl, e)
parts_same [] ys (u ∷ us) vs l e = absurd (omega (arith, l))
parts_same (x ∷ xs) ys [] vs l e = absurd (omega (arith, l))
parts_same (x ∷ xs) ys (u ∷ us) vs l e =
    let head : x ≡ u = cc in
    let tail : xs ++ ys ≡ us ++ vs = cc in
    let more = parts_same xs ys us vs (omega (arith, l)) tail in (ap₂ (λ h t. h ∷ t) head more.0, more.1)

count_map : {A B : Type 0} (g : A → B) (q : B → Bool) (xs : List A) → count (λ x. q (g x)) xs ≡ count q (map g xs)
count_map g q [] = refl
count_map g q (x ∷ xs) = ap (λ n. if q (g x) then 1 + n else n) (count_map g q xs)

module _ (all : List NumberedNode) where
  abbrev own_id : NumberedNode → List SegmentView
  own_id p = id_at all p.number

  mutual
    built : (above : List SegmentView) (t : Tree) → map own_id (flat t) ≡ ids above t → IsBuilt all above t
    built above (tree n k f) e =
        let id = above ++ n.segment ∷ [] in
        let head : id_at all k ≡ id = cc in
        let tail : map own_id (flats f) ≡ ids_below id f = cc in
        (head, subst (λ i. AreBuilt all i f) (sym head) (built_below id f tail))

    built_below : (above : List SegmentView) (f : Forest) → map own_id (flats f) ≡ ids_below above f → AreBuilt all above f
    built_below above no_trees e = tt
    built_below above (more t f) e =
        let both = parts_same (map own_id (flat t)) (map own_id (flats f)) (ids above t) (ids_below above f) (length-map (flat t) own_id ∙ ids-length above t)
        (sym (map-append own_id (flat t) (flats f)) ∙ e) in
        (built above t both.0, built_below above f both.1)

-- ---- what a plan is

module _ (all : List NumberedNode) (table : List Descriptor) (p : IsPlanned all table) (numbers : IsNumbered all) where
  trees : all ≡ flats (forest all)
  unfolding IsForest
  trees = p.trees

  found_at : (i : ℕ) (q : NumberedNode) (id : List SegmentView) → slice_get all i ≡ Some q → slice_get (ids_below [] (forest all)) i ≡ Some id
      → IsFound 0 (length (of_kind true all)) all (ids_below [] (forest all)) q id
  found_at i q id e g = found all (ids_below [] (forest all)) 0 (length (of_kind true all)) i q id (omega arith) (ap (λ ps. slice_get ps i) (sym numbers) ∙ e) g

  id_found : (i : ℕ) (q : NumberedNode) (id : List SegmentView) → slice_get all i ≡ Some q → slice_get (ids_below [] (forest all)) i ≡ Some id → id_at all q.number ≡ id
  id_found i q id e g = ap (λ ps. id_of ps (ids_below [] (forest all)) q.number) numbers ∙ (found_at i q id e g).1

  as_many : length all ≡ length (ids_below [] (forest all))
  as_many = ap (λ (ps : List NumberedNode). length ps) trees ∙ ids_below-length [] (forest all)

  own_ids : map (own_id all) all ≡ ids_below [] (forest all)
  own_ids = ids_are (own_id all) all (ids_below [] (forest all)) as_many id_found

  node_keyed : (i : ℕ) (q : NumberedNode) → slice_get all i ≡ Some q → IsKeyed all table q.node q.number
  node_keyed i q e =
      let within = slice_get_within all i q e in
      let id = get_below (ids_below [] (forest all)) i (omega (arith, within, as_many)) in
      let id_is = id_found i q id.0 e id.1 in
      let facts = keyed all table p numbers i q id.0 e id.1 in
      let len = statics_length all table p in
      record {
        node = All_at (λ w. slice_get (in_order all) w.number ≡ Some w.node) all i q (all_numbered all numbers) e;
        static = λ s. (key_within all table p numbers i q id.0 e id.1 s, map_get (λ (d : Descriptor). d.id) table q.number (descriptor id.0 q.node) (facts.static s) ∙ ap Some (sym id_is));
        dynamic = λ s. ⊎_elim
            (λ h. let bad : true ≡ false = sym h.0 ∙ s in cc)
            (λ h. omega (arith, h.1, len))
            (found_at i q id.0 e id.1).0;
        apart = λ s j g. facts.dynamic s (j, g ∙ ap Some id_is);
      }

  table_ids : Within (ids_of table) (ids_below [] (forest all))
  table_ids = subst (λ t. Within (ids_of t) (ids_below [] (forest all))) (sym p.described) (within_below [] (forest all))

  -- each id of the table is that of a node
  pub node_of : (key : ℕ) (id : List SegmentView) → slice_get (ids_of table) key ≡ Some id → (i : ℕ) × (q : NumberedNode) × (slice_get (flats (forest all)) i ≡ Some q) × (id_at all q.number ≡ id)
  node_of key id e =
      let there = somewhere (ids_of table) (ids_below [] (forest all)) key id table_ids e in
      let q = of_map (own_id all) all there.0 id (ap (λ l. slice_get l there.0) own_ids ∙ there.1) in
      (there.0, q.0, ap (λ ps. slice_get ps there.0) (sym trees) ∙ q.1, q.2)

  pub plan_tree : IsPlanTree all table
  plan_tree = record {
    keyed = subst (AreKeyed all table) trees (each_from (λ q. IsKeyed all table q.node q.number) all node_keyed);
    distinct = λ id. subst (λ ps. count_ids all (λ i. same_id i id) ps ≤ 1) trees
        (subst (λ m. m ≤ 1) (sym (count_map (own_id all) (λ i. same_id i id) all ∙ ap (count (λ i. same_id i id)) own_ids)) (at_most_one (ids_below [] (forest all)) p.distinct id));
    few_static = p.few_static;
    few_dynamic = subst (λ ps. count is_dynamic_node ps ≤ 65536) trees (subst (λ m. m ≤ 65536) (sym (count_dynamic all)) p.few_dynamic);
    built = built_below all [] (forest all) (ap (map (own_id all)) (sym trees) ∙ own_ids);
    once = once_within (ids_of table) (ids_below [] (forest all)) table_ids p.distinct;
    statics = rooted_static (forest all) p.root;
    before = (before_static all table p numbers).each;
    after = (after_static all table p numbers).each;
  }
