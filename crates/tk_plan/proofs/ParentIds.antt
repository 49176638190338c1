-- The parents of static nodes have their ids in the table.
use Rattle.std.proofs.Common.{◌≡◌, ℕ, zero, suc, ◌+◌, ◌≤◌, ◌<◌, ◌⊎◌, inl, inr, List, [], ◌∷◌, ◌++◌, Bool, cond, true, false, Some, length, slice_get, refl, sym, ap, ap₂, ◌∙◌, subst, arith, length-append, append_assoc, append-nil}
use Rattle.std.proofs.lemmas.Option.{slice_get_within, same_Some}
use Rattle.tk_base.proofs.Lists.{get_at_seam}
use Rattle.tk_ids.specs.IdText.{SegmentView}
use Rattle.tk_ids.specs.declared.descriptors.Descriptor.{Descriptor}
use Rattle.tk_ids.specs.Table.{ids_of}
use Rattle.tk_plan.specs.declared.trees.nodes.Node.{Node}
use Rattle.tk_plan.specs.declared.trees.nodes.NumberedNode.{NumberedNode}
use Rattle.tk_plan.specs.Trees.{Tree, tree, Forest, no_trees, more, flat, flats, forest, IsForest}
use Rattle.tk_plan.specs.Numbers.{of_kind, with_number, numbered_from, IsNumbered}
use Rattle.tk_plan.specs.Ids.{descriptor, descriptors, descriptors_below}
use Rattle.tk_plan.specs.Parents.{parents, parents_below, HasParentAt, AreParents}
use Rattle.tk_plan.specs.Planned.{IsPlanned, is_rooted}
use Rattle.tk_plan.proofs.TableDescriptors.{descriptors-length, statics-append, statics_length}
use Rattle.tk_plan.proofs.Grows.{forest_nil}
use Rattle.tk_ids.proofs.ParentIds.{parent_of-child}

-- ---- numbers in preorder

-- the static nodes have the numbers from s on, and each other a number not below n
abbrev Placed : ℕ → ℕ → List NumberedNode → Type 0
Placed n s [] = Unit {0}
Placed n s (p ∷ ps) = cond p.node.is_static ((p.number ≡ s) × Placed n (s + 1) ps) ((n ≤ p.number) × Placed n s ps)

placed_by : (b : Bool) (n s d : ℕ) (p : NumberedNode) (x y : List NumberedNode) → p.node.is_static ≡ b → n ≤ d → Placed n (s + 1) x → Placed n s y
    → Placed n s (cond b (with_number s p ∷ x) (with_number d p ∷ y))
placed_by true n s d p x y e h f g = subst (λ c. cond c ((s ≡ s) × Placed n (s + 1) x) ((n ≤ s) × Placed n s x)) (sym e) (refl, f)
placed_by false n s d p x y e h f g = subst (λ c. cond c ((d ≡ s) × Placed n (s + 1) y) ((n ≤ d) × Placed n s y)) (sym e) (h, g)

placed_numbered : (n s d : ℕ) (ps : List NumberedNode) → n ≤ d → Placed n s (numbered_from s d ps)
placed_numbered n s d [] h = tt
placed_numbered n s d (p ∷ ps) h = placed_by p.node.is_static n s d p _ _ refl h (placed_numbered n (s + 1) d ps h) (placed_numbered n s (d + 1) ps (omega (arith, h)))

parted_by : (b : Bool) (n s k : ℕ) (node : Node) (xs ys : List NumberedNode)
    → ((s : ℕ) → Placed n s (xs ++ ys) → Placed n s xs × Placed n (s + length (of_kind true xs)) ys)
    → cond b ((k ≡ s) × Placed n (s + 1) (xs ++ ys)) ((n ≤ k) × Placed n s (xs ++ ys))
    → cond b ((k ≡ s) × Placed n (s + 1) xs) ((n ≤ k) × Placed n s xs) × Placed n (s + length (cond b (node ∷ of_kind true xs) (of_kind true xs))) ys
parted_by true n s k node xs ys next h =
    let r = next (s + 1) h.1 in
    ((h.0, r.0), subst (λ i. Placed n i ys) (omega arith) r.1)
parted_by false n s k node xs ys next h =
    let r = next s h.1 in
    ((h.0, r.0), r.1)

placed_parts : (n s : ℕ) (xs ys : List NumberedNode) → Placed n s (xs ++ ys) → Placed n s xs × Placed n (s + length (of_kind true xs)) ys
placed_parts n s [] ys h = (tt, subst (λ i. Placed n i ys) (omega arith) h)
placed_parts n s (x ∷ xs) ys h = parted_by x.node.is_static n s x.number x.node xs ys (λ s. placed_parts n s xs ys) h

-- ---- one parent for each static node

one_more : (b : Bool) (a : ℕ) (n : Node) (ps : List ℕ) (ns : List Node) → length ps ≡ length ns → length (cond b (a ∷ []) [] ++ ps) ≡ length (cond b (n ∷ ns) ns)
one_more true a n ps ns e = ap suc e
one_more false a n ps ns e = e

mutual
  parents-length : (above : ℕ) (t : Tree) → length (parents above t) ≡ length (of_kind true (flat t))
  parents-length above (tree n k f) = one_more n.is_static above n _ _ (parents_below-length k f)

  parents_below-length : (above : ℕ) (f : Forest) → length (parents_below above f) ≡ length (of_kind true (flats f))
  parents_below-length above no_trees = refl
  parents_below-length above (more t f) =
      length-append (parents above t) (parents_below above f)
      ∙ ap₂ (λ a b. a + b) (parents-length above t) (parents_below-length above f)
      ∙ sym (length-append (of_kind true (flat t)) (of_kind true (flats f)))
      ∙ ap length (sym (statics-append (flat t) (flats f)))

-- ---- ids of a table

one_later : {A : Type 0} (n i : ℕ) (xs ys : List A) (x : A) → (slice_get xs i ≡ Some x) ⊎ ((j : ℕ) × (i ≡ n + j) × (slice_get ys j ≡ Some x))
    → (slice_get xs i ≡ Some x) ⊎ ((j : ℕ) × (suc i ≡ suc n + j) × (slice_get ys j ≡ Some x))
one_later n i xs ys x (inl h) = inl h
one_later n i xs ys x (inr h) = inr (h.0, omega (arith, h.1), h.2)

either_part : {A : Type 0} (xs ys : List A) (i : ℕ) (x : A) → slice_get (xs ++ ys) i ≡ Some x
    → (slice_get xs i ≡ Some x) ⊎ ((j : ℕ) × (i ≡ length xs + j) × (slice_get ys j ≡ Some x))
either_part [] ys i x e = inr (i, omega arith, e)
either_part (z ∷ xs) ys zero x e = inl e
either_part (z ∷ xs) ys (suc i) x e = one_later (length xs) i xs ys x (either_part xs ys i x e)

ids-append : (xs ys : List Descriptor) → ids_of (xs ++ ys) ≡ ids_of xs ++ ids_of ys
ids-append [] ys = refl
ids-append (x ∷ xs) ys = ap (λ l. x.id ∷ l) (ids-append xs ys)

ids-length : (xs : List Descriptor) → length (ids_of xs) ≡ length xs
ids-length [] = refl
ids-length (x ∷ xs) = ap suc (ids-length xs)

module _ (table : List Descriptor) where
  -- where there is such a key, it has that id, which isn't empty
  abbrev IsAbove : ℕ → List SegmentView → Type 0
  IsAbove key id = key < length table → (slice_get (ids_of table) key ≡ Some id) × (0 < length id)

  -- what is to be shown of the static nodes from a key on
  abbrev Related : ℕ → List ℕ → Type 0
  Related s numbers = (i above : ℕ) → slice_get numbers i ≡ Some above → above < length table → HasParentAt table (s + i) above

  id_at : (pre post : List Descriptor) (d : Descriptor) (s : ℕ) → table ≡ pre ++ d ∷ post → s ≡ length pre → slice_get (ids_of table) s ≡ Some d.id
  id_at pre post d s e h =
      ap (λ l. slice_get (ids_of l) s) e ∙ ap (λ l. slice_get l s) (ids-append pre (d ∷ post))
      ∙ get_at_seam (ids_of pre) (ids_of post) d.id s (h ∙ sym (ids-length pre))

  node_by : (b : Bool) (above : List SegmentView) (a s k : ℕ) (n : Node) (f : Forest) (pre post : List Descriptor)
      → ((id : List SegmentView) (s : ℕ) (pre : List Descriptor) → table ≡ pre ++ (descriptors_below id f ++ post) → s ≡ length pre → Placed (length table) s (flats f) → IsAbove k id → Related s (parents_below k f))
      → table ≡ pre ++ ((cond b (descriptor (above ++ n.segment ∷ []) n ∷ []) [] ++ descriptors_below (above ++ n.segment ∷ []) f) ++ post) → s ≡ length pre
      → cond b ((k ≡ s) × Placed (length table) (s + 1) (flats f)) ((length table ≤ k) × Placed (length table) s (flats f))
      → IsAbove a above → Related s (cond b (a ∷ []) [] ++ parents_below k f)
  node_by true above a s k n f pre post next e h placed up zero b g l =
      let id = above ++ n.segment ∷ [] in
      let same : a ≡ b = same_Some a b g in
      let its = id_at pre (descriptors_below id f ++ post) (descriptor id n) s e h in
      let over = up (omega (arith, same, l)) in
      record {
        id = id;
        its = ap (slice_get (ids_of table)) (omega arith) ∙ its;
        long = omega (arith, over.1, length-append above (n.segment ∷ []));
        parent = ap (slice_get (ids_of table)) (sym same) ∙ over.0 ∙ ap (λ i. Some i) (sym (parent_of-child above n.segment));
      }
  node_by true above a s k n f pre post next e h placed up (suc i) b g l =
      let id = above ++ n.segment ∷ [] in
      let its = id_at pre (descriptors_below id f ++ post) (descriptor id n) s e h in
      let whole = e ∙ sym (append_assoc pre (descriptor id n ∷ []) (descriptors_below id f ++ post)) in
      subst (λ j. HasParentAt table j b) (omega arith)
      (next id (s + 1) (pre ++ descriptor id n ∷ []) whole (omega (arith, h, length-append pre (descriptor id n ∷ []))) placed.1
      (λ _. (ap (slice_get (ids_of table)) placed.0 ∙ its, omega (arith, length-append above (n.segment ∷ [])))) i b g l)
  node_by false above a s k n f pre post next e h placed up i b g l =
      next (above ++ n.segment ∷ []) s pre e h placed.1 (λ less. absurd (omega (arith, less, placed.0))) i b g l

  part_by : (a s i b : ℕ) (t : Tree) (f : Forest) → Related s (parents a t) → Related (s + length (parents a t)) (parents_below a f)
      → (slice_get (parents a t) i ≡ Some b) ⊎ ((j : ℕ) × (i ≡ length (parents a t) + j) × (slice_get (parents_below a f) j ≡ Some b)) → b < length table → HasParentAt table (s + i) b
  part_by a s i b t f first rest (inl h) l = first i b h l
  part_by a s i b t f first rest (inr h) l = subst (λ j. HasParentAt table j b) (omega (arith, h.1)) (rest h.0 b h.2 l)

  both : (a s : ℕ) (t : Tree) (f : Forest) → Related s (parents a t) → Related (s + length (parents a t)) (parents_below a f) → Related s (parents_below a (more t f))
  both a s t f first rest i b g l = part_by a s i b t f first rest (either_part (parents a t) (parents_below a f) i b g) l

  mutual
    related : (above : List SegmentView) (a s : ℕ) (t : Tree) (pre post : List Descriptor) → table ≡ pre ++ (descriptors above t ++ post) → s ≡ length pre → Placed (length table) s (flat t) → IsAbove a above
        → Related s (parents a t)
    related above a s (tree n k f) pre post e h placed up =
        node_by n.is_static above a s k n f pre post (λ id s pre e h. related_below id k s f pre post e h) e h placed up

    related_below : (above : List SegmentView) (a s : ℕ) (f : Forest) (pre post : List Descriptor) → table ≡ pre ++ (descriptors_below above f ++ post) → s ≡ length pre → Placed (length table) s (flats f) → IsAbove a above
        → Related s (parents_below a f)
    related_below above a s no_trees pre post e h placed up = λ i b g l. absurd (omega (arith, slice_get_within [] i b g))
    related_below above a s (more t f) pre post e h placed up =
        let ds = descriptors above t in
        let es = descriptors_below above f in
        let parts = placed_parts (length table) s (flat t) (flats f) placed in
        let counted = parents-length a t in
        let first = e ∙ ap (λ l. pre ++ l) (append_assoc ds es post) in
        let rest = first ∙ sym (append_assoc pre ds (es ++ post)) in
        both a s t f
        (related above a s t pre (es ++ post) first h parts.0 up)
        (related_below above a (s + length (parents a t)) f (pre ++ ds) post rest
        (omega (arith, h, counted, descriptors-length above t, length-append pre ds))
        (subst (λ j. Placed (length table) j (flats f)) (omega (arith, counted)) parts.1) up)

-- ---- of a plan

root_by : (b : Bool) (table : List Descriptor) (n : Node) (k : ℕ) (f : Forest) → b ≡ true
    → table ≡ cond b (descriptor (n.segment ∷ []) n ∷ []) [] ++ descriptors_below (n.segment ∷ []) f
    → cond b ((k ≡ 0) × Placed (length table) 1 (flats f)) ((length table ≤ k) × Placed (length table) 0 (flats f))
    → AreParents table (cond b (0 ∷ []) [] ++ parents_below k f)
root_by true table n k f static e placed zero above low g l = absurd (omega (arith, low))
root_by true table n k f static e placed (suc key) above low g l =
    let d = descriptor (n.segment ∷ []) n in
    let whole : table ≡ (d ∷ []) ++ (descriptors_below (n.segment ∷ []) f ++ []) = e ∙ ap (λ l. d ∷ l) (sym (append-nil (descriptors_below (n.segment ∷ []) f))) in
    subst (λ j. HasParentAt table j above) (omega arith)
    (related_below table (n.segment ∷ []) k 1 f (d ∷ []) [] whole refl placed.1
    (λ _. (ap (slice_get (ids_of table)) placed.0 ∙ id_at table [] (descriptors_below (n.segment ∷ []) f) d 0 e refl, omega arith)) key above g l)
root_by false table n k f static e placed key above low g l = absurd (grind (static, arith))

of_root : (f : Forest) (table : List Descriptor) → is_rooted f ≡ true → table ≡ descriptors_below [] f → Placed (length table) 0 (flats f) → AreParents table (parents_below 0 f)
of_root no_trees table r e placed = absurd (grind (r, arith))
of_root (more (tree n k g) (more t f)) table r e placed = absurd (grind (r, arith))
of_root (more (tree n k g) no_trees) table r e placed =
    let ds = descriptors [] (tree n k g) in
    subst (AreParents table) (sym (append-nil (parents 0 (tree n k g))))
    (root_by n.is_static table n k g r (e ∙ append-nil ds) (placed_parts (length table) 0 (flat (tree n k g)) [] placed).0)

pub are_parents : (nodes : List NumberedNode) (table : List Descriptor) → IsPlanned nodes table → IsNumbered nodes → AreParents table (parents_below 0 (forest nodes))
unfolding IsForest
are_parents nodes table planned numbers =
    let statics = statics_length nodes table planned in
    let here : Placed (length table) 0 nodes = subst (Placed (length table) 0) (sym numbers) (placed_numbered (length table) 0 (length (of_kind true nodes)) nodes (omega (arith, statics))) in
    of_root (forest nodes) table planned.root planned.described (subst (Placed (length table) 0) planned.trees here)

pub parents_end : (above : ℕ) (ps : List NumberedNode) → length ps < 1 → parents_below above (forest ps) ≡ []
parents_end above [] h = ap (parents_below above) forest_nil
parents_end above (p ∷ ps) h = absurd (omega (arith, h))
