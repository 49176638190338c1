-- Reading one node after another.
use Rattle.std.proofs.Common.{◌≡◌, ℕ, zero, suc, ◌+◌, ◌-◌, get_or, length, Bool, true, false, ◌==◌, ◌&&◌, List, [], ◌∷◌, ◌++◌, map, flat_map, codes, Option, Some, None, option_map, refl, sym, ap, ap₂, ◌∙◌, arith, append_assoc, append-nil}
use Rattle.std.proofs.lemmas.Bool.Decides.{nat_tests}
use Rattle.std.proofs.lemmas.List.{map-append, nil_from_length}
use Rattle.std.proofs.Common.{length-append}
use Rattle.std.proofs.Math.ListN.{set}
use Rattle.std.proofs.Math.Seq.{set-append_seam}
use Rattle.serde_json.specs.Data.{Data}
use Rattle.serde_json.specs.View.{view}
use Rattle.serde_json.specs.declared.value.Value.{Value}
use Rattle.std.proofs.lemmas.Grind.{flat_map-append}
use Rattle.std.specs.Option.{option_or}
use Rattle.tk_ids.specs.IdText.{SegmentView}
use Rattle.tk_plan.specs.declared.trees.nodes.Node.{Node}
use Rattle.tk_plan.specs.declared.trees.nodes.NumberedNode.{NumberedNode}
use Rattle.tk_plan.specs.Trees.{flat, contents}
use Rattle.tk_plan.specs.Ids.{descriptor_in, descriptors}
use Rattle.tk_plan_json.specs.Checks.{first, member_at}
use Rattle.tk_plan_json.specs.declared.node_faults.NodeFault.{NodeFault}
use Rattle.tk_plan_json.specs.declared.read_nodes.ReadNodes.{ReadNodes}
use Rattle.tk_plan_json.specs.NodeInputs.{NodeInput, NodeArray, node_input, segment_in, id_of, node_of, below, node_inputs, node_inputs_in, children_of, dynamic_of, children_in, dynamic_in, grown}
use Rattle.tk_plan_json.specs.Verdicts.{checks, located, at_node}
use Rattle.tk_plan_json.specs.Progress.{IsNoted}
use Rattle.tk_plan_json.specs.steps.Progress.{state, IsStarted, IsSpanned, AddsNodes}
use Rattle.tk_plan_json.proofs.CheckSteps.{noted_same}
use Rattle.tk_plan_json.proofs.Verdicts.{located-append, located-cons, nodes-grown, nodes-all, flats-forest, descriptors-forest}

-- of all the sites of k levels more, those that are left are still to be read
pub record Goes (k : ℕ) (above : List SegmentView) (old now : ReadNodes) (all left : List NodeInput) : Type 0 where
  pub located : located (contents old.nodes.items) (flat_map (node_inputs k) all) ≡ located (contents now.nodes.items) (flat_map (node_inputs k) left)
  pub nodes : old.nodes.items ++ flat_map flat (map (grown k) all) ≡ now.nodes.items ++ flat_map flat (map (grown k) left)
  pub described : old.descriptors.items ++ flat_map (descriptors above) (map (grown k) all) ≡ now.descriptors.items ++ flat_map (descriptors above) (map (grown k) left)
  pub noted : IsNoted now

-- so are the segments of the values that are left
pub record Met (earlier met : List SegmentView) (all left : List Data) : Type 0 where
  pub segments : earlier ++ map segment_in all ≡ met ++ map segment_in left

pub met_next : (earlier met new : List SegmentView) (all rest left : List Data) (d : Data) → rest ≡ d ∷ left → new ≡ met ++ segment_in d ∷ [] → Met earlier met all rest → Met earlier new all left
met_next earlier met new all rest left d split e m =
    record { segments = m.segments ∙ ap (λ l. met ++ map segment_in l) split ∙ sym (append_assoc met (segment_in d ∷ []) (map segment_in left)) ∙ ap (λ l. l ++ map segment_in left) (sym e) }

pub met_end : (earlier met : List SegmentView) (all left : List Data) → left ≡ [] → Met earlier met all left → met ≡ earlier ++ map segment_in all
met_end earlier met all left none m = sym (m.segments ∙ ap (λ l. met ++ map segment_in l) none ∙ append-nil met)

pub after_none : (before : List Node) (xs ys : List NodeInput) → located before xs ≡ None → located before (xs ++ ys) ≡ located (before ++ map node_of xs) ys
after_none before xs ys e = located-append before xs ys ∙ ap (λ o. option_or o (located (before ++ map node_of xs) ys)) e

pub after_some : (before : List Node) (xs ys : List NodeInput) (f : NodeFault) → located before xs ≡ Some f → located before (xs ++ ys) ≡ Some f
after_some before xs ys f e = located-append before xs ys ∙ ap (λ o. option_or o (located (before ++ map node_of xs) ys)) e

contents_after : (old new : List NumberedNode) (k : ℕ) (x : NodeInput) → new ≡ old ++ flat (grown k x) → contents new ≡ contents old ++ map node_of (node_inputs k x)
contents_after old new k x e = ap contents e ∙ map-append _ old (flat (grown k x)) ∙ ap (λ l. contents old ++ l) (nodes-grown k x)

-- the sites that are left, from the next on
pub node_input_next : (array : NodeArray) (i j : ℕ) (met new : List SegmentView) (left rest : List Value) (v : Value) → left ≡ v ∷ rest → j ≡ i + 1 → new ≡ met ++ segment_in (view v) ∷ []
    → node_inputs_in array i met (map view left) ≡ node_input array i met (view v) ∷ node_inputs_in array j new (map view rest)
node_input_next array i j met new left rest v split up n =
    ap (λ vs. node_inputs_in array i met (map view vs)) split ∙ ap₂ (λ k m. node_input array i met (view v) ∷ node_inputs_in array k m (map view rest)) (sym up) (sym n)

module _ (k m : ℕ) (above up : List SegmentView) (old now : ReadNodes) (all rest left : List NodeInput) (x y : NodeInput) (levels : m ≡ k) (same : y ≡ x) (split : rest ≡ x ∷ left) (g : Goes k above old now all rest) where
  here : located (contents now.nodes.items) (node_inputs m y) ≡ located (contents now.nodes.items) (node_inputs k x)
  here = ap₂ (λ n s. located (contents now.nodes.items) (node_inputs n s)) levels same

  until : located (contents old.nodes.items) (flat_map (node_inputs k) all) ≡ located (contents now.nodes.items) (node_inputs k x ++ flat_map (node_inputs k) left)
  until = g.located ∙ ap (λ ss. located (contents now.nodes.items) (flat_map (node_inputs k) ss)) split

  pub goes_fault : (f : NodeFault) → located (contents now.nodes.items) (node_inputs m y) ≡ Some f → located (contents old.nodes.items) (flat_map (node_inputs k) all) ≡ Some f
  unfolding here until
  goes_fault f e = until ∙ after_some _ (node_inputs k x) _ f (sym here ∙ e)

  pub goes_next : (new : ReadNodes) → located (contents now.nodes.items) (node_inputs m y) ≡ None → up ≡ above → AddsNodes now new (flat (grown m y)) (descriptors up (grown m y)) → Goes k above old new all left
  unfolding here until
  goes_next new e is a =
      let added : new.nodes.items ≡ now.nodes.items ++ flat (grown k x) = a.nodes ∙ ap (λ l. now.nodes.items ++ l) (ap₂ (λ n s. flat (grown n s)) levels same) in
      let stated : new.descriptors.items ≡ now.descriptors.items ++ descriptors above (grown k x) =
      a.descriptors ∙ ap (λ u. now.descriptors.items ++ descriptors u (grown m y)) is ∙ ap₂ (λ n s. now.descriptors.items ++ descriptors above (grown n s)) levels same in
      record {
        located = until ∙ after_none _ (node_inputs k x) _ (sym here ∙ e) ∙ ap (λ b. located b (flat_map (node_inputs k) left)) (sym (contents_after _ _ k x added));
        nodes = g.nodes ∙ ap (λ ss. now.nodes.items ++ flat_map flat (map (grown k) ss)) split ∙ sym (append_assoc now.nodes.items (flat (grown k x)) _)
            ∙ ap (λ l. l ++ flat_map flat (map (grown k) left)) (sym added);
        described = g.described ∙ ap (λ ss. now.descriptors.items ++ flat_map (descriptors above) (map (grown k) ss)) split ∙ sym (append_assoc now.descriptors.items (descriptors above (grown k x)) _)
            ∙ ap (λ l. l ++ flat_map (descriptors above) (map (grown k) left)) (sym stated);
        noted = a.noted;
      }

pub goes_end : (k : ℕ) (above : List SegmentView) (old now : ReadNodes) (all : List NodeInput) → Goes k above old now all []
    → (located (contents old.nodes.items) (flat_map (node_inputs k) all) ≡ None) × AddsNodes old now (flat_map flat (map (grown k) all)) (flat_map (descriptors above) (map (grown k) all))
unfolding located
goes_end k above old now all g = (g.located, record { nodes = sym (g.nodes ∙ append-nil now.nodes.items); descriptors = sym (g.described ∙ append-nil now.descriptors.items); noted = g.noted })

-- where there is nothing to read
pub goes_nowhere : (k : ℕ) (above : List SegmentView) (old : ReadNodes) (array : NodeArray) (earlier : List SegmentView) (ds : List Data) → ds ≡ [] → IsNoted old
    → (located (contents old.nodes.items) (flat_map (node_inputs k) (node_inputs_in array 0 earlier ds)) ≡ None)
    × AddsNodes old old (flat_map flat (map (grown k) (node_inputs_in array 0 earlier ds))) (flat_map (descriptors above) (map (grown k) (node_inputs_in array 0 earlier ds)))
unfolding located
goes_nowhere k above old array earlier ds none noted = (
  ap (λ l. located (contents old.nodes.items) (flat_map (node_inputs k) (node_inputs_in array 0 earlier l))) none,
  record {
    nodes = sym (append-nil old.nodes.items) ∙ ap (λ l. old.nodes.items ++ flat_map flat (map (grown k) (node_inputs_in array 0 earlier l))) (sym none);
    descriptors = sym (append-nil old.descriptors.items) ∙ ap (λ l. old.descriptors.items ++ flat_map (descriptors above) (map (grown k) (node_inputs_in array 0 earlier l))) (sym none);
    noted = noted;
  },
)

-- the element at the seam is what is there
at_seam : (old rest : List NumberedNode) (p x : NumberedNode) → x ≡ get_or (old ++ p ∷ rest) (length old) x → x ≡ p
at_seam [] rest p x e = e
at_seam (o ∷ old) rest p x e = at_seam old rest p x e

contents_same : (old rest : List NumberedNode) (p q : NumberedNode) → p.node ≡ q.node → contents (old ++ p ∷ rest) ≡ contents (old ++ q ∷ rest)
contents_same [] rest p q e = ap (λ n. n ∷ contents rest) e
contents_same (o ∷ old) rest p q e = ap (λ l. o.node ∷ l) (contents_same old rest p q e)

-- the span of a node is written once all below it is there
pub span_written : (two : List NumberedNode) (x : NumberedNode) (at len : ℕ) (old rest : List NumberedNode) (node : Node) → len ≡ length two → x ≡ get_or two at x
    → two ≡ old ++ record { node = node; number = 0; span = 1 } ∷ rest → at ≡ length old
    → set two at (record { node = x.node; number = x.number; span = len - at }) ≡ old ++ record { node = node; number = 0; span = suc (length rest) } ∷ rest
span_written two x at len old rest node len_is x_is two_is at_is =
    let p : NumberedNode = record { node = node; number = 0; span = 1 } in
    let q : NumberedNode = record { node = node; number = 0; span = suc (length rest) } in
    let there : x ≡ p = at_seam old rest p x (x_is ∙ ap₂ (λ l i. get_or l i x) two_is at_is) in
    let span : len - at ≡ suc (length rest) = omega (arith, length-append old (p ∷ rest), ap length two_is) in
    ap₂ (λ l i. set l i (record { node = x.node; number = x.number; span = len - at })) two_is at_is ∙ ap₂ (λ y w. set (old ++ p ∷ rest) (length old) (record { node = y.node; number = y.number; span = w })) there span
    ∙ set-append_seam old p rest q

-- ---- a node, and what is below it

pub check_fault : (m : ℕ) (before : List Node) (s : NodeInput) (f : NodeFault) → option_map (at_node (length before)) (first (checks before s)) ≡ Some f → located before (node_inputs m s) ≡ Some f
unfolding node_inputs
check_fault zero before s f e = located-cons before s [] ∙ ap (λ o. option_or o (located (before ++ node_of s ∷ []) [])) e
check_fault (suc m) before s f e = located-cons before s (flat_map (node_inputs m) (below s)) ∙ ap (λ o. option_or o (located (before ++ node_of s ∷ []) (flat_map (node_inputs m) (below s)))) e

-- the array that a node with this id has in the member of this name
abbrev array_with : NodeInput → List SegmentView → List ℕ → Bool → NodeArray
array_with s id name b = record { path = member_at s.path name; level = s.level + 1; is_static = b; takes_files = s.takes_files; above = id }

-- the two arrays of a node
pub parts_of : (s : NodeInput) (cs ds : List Data) (id e1 e2 : List SegmentView) → cs ≡ children_of s.is_static s.value → ds ≡ dynamic_of s.value → id ≡ id_of s → e1 ≡ [] → e2 ≡ e1 ++ map segment_in cs
    → below s ≡ node_inputs_in (array_with s id (codes "children") true) 0 e1 cs ++ node_inputs_in (array_with s id (codes "dynamic") false) 0 e2 ds
parts_of s cs ds id e1 e2 children dynamic is none met =
    let two : e2 ≡ map segment_in cs = met ∙ ap (λ e. e ++ map segment_in cs) none in
    ap₂ (λ a b. node_inputs_in (array_with s (id_of s) (codes "children") true) 0 [] a ++ node_inputs_in (array_with s (id_of s) (codes "dynamic") false) 0 (map segment_in a) b) (sym children) (sym dynamic)
    ∙ ap₂ (λ a b. node_inputs_in (array_with s (id_of s) (codes "children") true) 0 a cs ++ node_inputs_in (array_with s (id_of s) (codes "dynamic") false) 0 b ds) (sym none) (sym two)
    ∙ ap (λ a. node_inputs_in (array_with s a (codes "children") true) 0 e1 cs ++ node_inputs_in (array_with s a (codes "dynamic") false) 0 e2 ds) (sym is)

contents_all : (old : List NumberedNode) (k : ℕ) (xs : List NodeInput) → contents (old ++ flat_map flat (map (grown k) xs)) ≡ contents old ++ map node_of (flat_map (node_inputs k) xs)
contents_all old k xs = map-append _ old (flat_map flat (map (grown k) xs)) ∙ ap (λ l. contents old ++ l) (nodes-all (grown k) (node_inputs k) (nodes-grown k) xs)

-- what is below a node stands in two arrays, whose nodes are read one after the other
module _ (k : ℕ) (old : ReadNodes) (xs ys all : List NodeInput) (parts : all ≡ xs ++ ys) where
  both : located (contents old.nodes.items) (flat_map (node_inputs k) all) ≡ located (contents old.nodes.items) (flat_map (node_inputs k) xs ++ flat_map (node_inputs k) ys)
  both = ap (located (contents old.nodes.items)) (ap (flat_map (node_inputs k)) parts ∙ flat_map-append (node_inputs k) xs ys)

  pub first_fault : (f : NodeFault) → located (contents old.nodes.items) (flat_map (node_inputs k) xs) ≡ Some f → located (contents old.nodes.items) (flat_map (node_inputs k) all) ≡ Some f
  unfolding both
  first_fault f e = both ∙ after_some _ (flat_map (node_inputs k) xs) _ f e

  module _ (above up : List SegmentView) (is : up ≡ above) (mid : ReadNodes) (none : located (contents old.nodes.items) (flat_map (node_inputs k) xs) ≡ None)
      (first_part : AddsNodes old mid (flat_map flat (map (grown k) xs)) (flat_map (descriptors up) (map (grown k) xs))) where
    pub second_located : located (contents old.nodes.items) (flat_map (node_inputs k) all) ≡ located (contents mid.nodes.items) (flat_map (node_inputs k) ys)
    unfolding both
    second_located =
        both ∙ after_none _ (flat_map (node_inputs k) xs) _ none
        ∙ ap (λ b. located b (flat_map (node_inputs k) ys)) (sym (ap contents first_part.nodes ∙ contents_all old.nodes.items k xs))

    pub both_added : (new : ReadNodes) → AddsNodes mid new (flat_map flat (map (grown k) ys)) (flat_map (descriptors up) (map (grown k) ys))
        → AddsNodes old new (flat_map flat (map (grown k) all)) (flat_map (descriptors above) (map (grown k) all))
    both_added new second =
        let ts : map (grown k) xs ++ map (grown k) ys ≡ map (grown k) all = sym (ap (map (grown k)) parts ∙ map-append (grown k) xs ys) in
        record {
          nodes = second.nodes ∙ ap (λ l. l ++ flat_map flat (map (grown k) ys)) first_part.nodes ∙ append_assoc old.nodes.items _ _
              ∙ ap (λ l. old.nodes.items ++ l) (sym (flat_map-append flat (map (grown k) xs) (map (grown k) ys)) ∙ ap (flat_map flat) ts);
          descriptors = second.descriptors ∙ ap (λ l. l ++ flat_map (descriptors up) (map (grown k) ys)) first_part.descriptors ∙ append_assoc old.descriptors.items _ _
              ∙ ap (λ l. old.descriptors.items ++ l) (sym (flat_map-append (descriptors up) (map (grown k) xs) (map (grown k) ys)) ∙ ap₂ (λ i l. flat_map (descriptors i) l) is ts);
          noted = second.noted;
        }

-- A node was checked and put at the end.
module _ (k m : ℕ) (levels : m ≡ suc k) (old pushed : ReadNodes) (s : NodeInput) (later : List SegmentView) (id : Option (List SegmentView)) (fine : first (checks (contents old.nodes.items) s) ≡ None) (started : IsStarted (state old s.earlier) (state pushed later) s id) where
  pub below_located : located (contents old.nodes.items) (node_inputs m s) ≡ located (contents pushed.nodes.items) (flat_map (node_inputs k) (below s))
  unfolding node_inputs
  below_located =
      ap (λ n. located (contents old.nodes.items) (node_inputs n s)) levels
      ∙ located-cons (contents old.nodes.items) s (flat_map (node_inputs k) (below s))
      ∙ ap (λ o. option_or (option_map (at_node (length (contents old.nodes.items))) o) (located (contents old.nodes.items ++ node_of s ∷ []) (flat_map (node_inputs k) (below s)))) fine
      ∙ ap (λ b. located b (flat_map (node_inputs k) (below s))) (sym (ap contents started.nodes ∙ map-append _ old.nodes.items (record { node = node_of s; number = 0; span = 1 } ∷ [])))

  grown_here : flat (grown m s) ≡ record { node = node_of s; number = 0; span = suc (length (flat_map flat (map (grown k) (below s)))) } ∷ flat_map flat (map (grown k) (below s))
  unfolding grown
  grown_here = ap (λ n. flat (grown n s)) levels ∙ ap (λ l. record { node = node_of s; number = 0; span = suc (length l) } ∷ l) (flats-forest (map (grown k) (below s)))

  described_here : descriptors s.above (grown m s) ≡ descriptor_in (id_of s) (node_of s) ++ flat_map (descriptors (id_of s)) (map (grown k) (below s))
  unfolding grown
  described_here = ap (λ n. descriptors s.above (grown n s)) levels ∙ ap (λ l. descriptor_in (id_of s) (node_of s) ++ l) (descriptors-forest (id_of s) (map (grown k) (below s)))

  pub leaf_located : below s ≡ [] → located (contents old.nodes.items) (node_inputs m s) ≡ None
  unfolding located
  leaf_located none = below_located ∙ ap (λ ss. located (contents pushed.nodes.items) (flat_map (node_inputs k) ss)) none

  pub leaf_added : below s ≡ [] → AddsNodes old pushed (flat (grown m s)) (descriptors s.above (grown m s))
  leaf_added none = record {
    nodes = started.nodes ∙ ap (λ l. old.nodes.items ++ l)
        (ap (λ ss. record { node = node_of s; number = 0; span = suc (length (flat_map flat (map (grown k) ss))) } ∷ flat_map flat (map (grown k) ss)) (sym none) ∙ sym grown_here);
    descriptors = started.descriptors ∙ ap (λ l. old.descriptors.items ++ l)
        (sym (append-nil (descriptor_in (id_of s) (node_of s))) ∙ ap (λ ss. descriptor_in (id_of s) (node_of s) ++ flat_map (descriptors (id_of s)) (map (grown k) ss)) (sym none) ∙ sym described_here);
    noted = started.noted;
  }

  -- then all below it were read, and its span was written
  pub node_added : (read new : ReadNodes) (at : ℕ) → at ≡ length old.nodes.items
      → AddsNodes pushed read (flat_map flat (map (grown k) (below s))) (flat_map (descriptors (id_of s)) (map (grown k) (below s))) → IsSpanned read new at
      → AddsNodes old new (flat (grown m s)) (descriptors s.above (grown m s))
  node_added read new at is a spanned =
      let rest : List NumberedNode = flat_map flat (map (grown k) (below s)) in
      let before : List NumberedNode = old.nodes.items in
      let open_node : NumberedNode = record { node = node_of s; number = 0; span = 1 } in
      let whole_node : NumberedNode = record { node = node_of s; number = 0; span = suc (length rest) } in
      let whole : read.nodes.items ≡ before ++ open_node ∷ rest = a.nodes ∙ ap (λ l. l ++ rest) started.nodes ∙ append_assoc before (open_node ∷ []) rest in
      let written : new.nodes.items ≡ before ++ whole_node ∷ rest = spanned.nodes before rest (node_of s) whole is in
      record {
        nodes = written ∙ ap (λ l. before ++ l) (sym grown_here);
        descriptors = spanned.descriptors ∙ a.descriptors ∙ ap (λ l. l ++ flat_map (descriptors (id_of s)) (map (grown k) (below s))) started.descriptors
            ∙ append_assoc old.descriptors.items _ _ ∙ ap (λ l. old.descriptors.items ++ l) (sym described_here);
        noted = noted_same read new (ap contents written ∙ contents_same before rest whole_node open_node refl ∙ sym (ap contents whole)) spanned.keys spanned.descriptors spanned.dynamics a.noted;
      }

-- nothing stands below a node whose arrays are empty
pub leaf_below : (s : NodeInput) → (length (children_of s.is_static s.value) == 0 && length (dynamic_of s.value) == 0) ≡ true → below s ≡ []
leaf_below s leaf =
    let cs = children_of s.is_static s.value in
    let ds = dynamic_of s.value in
    let no_children : length cs ≡ 0 = grind (arith, nat_tests) in
    let no_dynamic : length ds ≡ 0 = grind (arith, nat_tests) in
    ap₂ (λ a b. children_in s a ++ dynamic_in s a b) (nil_from_length cs no_children) (nil_from_length ds no_dynamic)
