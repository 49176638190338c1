-- What the table says of the nodes, by their numbers.
use Rattle.std.proofs.Common.{◌≡◌, ℕ, zero, suc, ◌+◌, ◌<◌, List, [], ◌∷◌, ◌++◌, Bool, cond, true, false, Option, Some, None, map, length, slice_get, refl, sym, ap, ap₂, ◌∙◌, subst, arith, length-append, append_assoc}
use Rattle.std.proofs.lemmas.Option.{slice_get_within, same_Some}
use Rattle.std.proofs.lemmas.Bool.{both_ways}
use Rattle.tk_base.proofs.Lists.{get_at_seam}
use Rattle.tk_ids.specs.IdText.{SegmentView}
use Rattle.tk_ids.specs.declared.descriptors.Descriptor.{Descriptor}
use Rattle.tk_ids.specs.Table.{ids_of}
use Rattle.tk_plan.specs.declared.trees.nodes.NumberedNode.{NumberedNode}
use Rattle.tk_plan.specs.Trees.{Tree, tree, Forest, no_trees, more, flat, flats, forest, IsForest}
use Rattle.tk_plan.specs.Numbers.{of_kind, with_number, numbered_from, IsNumbered}
use Rattle.tk_plan.specs.Ids.{ids, ids_below, descriptor, descriptor_in, descriptors, descriptors_below}
use Rattle.tk_plan.specs.Planned.{IsPlanned}
use Rattle.tk_plan.specs.Laws.{IsKeyed}

-- ---- nodes beside their ids

-- the descriptors of the static nodes among some, given the ids of all
abbrev pub statics_of : List NumberedNode → List (List SegmentView) → List Descriptor
statics_of [] is = []
statics_of (p ∷ ps) [] = []
statics_of (p ∷ ps) (i ∷ is) = descriptor_in i p.node ++ statics_of ps is

statics_of-append : (xs ys : List NumberedNode) (is js : List (List SegmentView)) → length xs ≡ length is → statics_of (xs ++ ys) (is ++ js) ≡ statics_of xs is ++ statics_of ys js
statics_of-append [] ys [] js e = refl
statics_of-append [] ys (i ∷ is) js e = absurd (omega (arith, e))
statics_of-append (x ∷ xs) ys [] js e = absurd (omega (arith, e))
statics_of-append (x ∷ xs) ys (i ∷ is) js e =
    ap (λ l. descriptor_in i x.node ++ l) (statics_of-append xs ys is js (omega (arith, e))) ∙ sym (append_assoc (descriptor_in i x.node) (statics_of xs is) (statics_of ys js))

mutual
  pub ids-length : (above : List SegmentView) (t : Tree) → length (flat t) ≡ length (ids above t)
  ids-length above (tree n k f) = ap suc (ids_below-length (above ++ n.segment ∷ []) f)

  pub ids_below-length : (above : List SegmentView) (f : Forest) → length (flats f) ≡ length (ids_below above f)
  ids_below-length above no_trees = refl
  ids_below-length above (more t f) =
      length-append (flat t) (flats f) ∙ ap₂ (λ a b. a + b) (ids-length above t) (ids_below-length above f) ∙ sym (length-append (ids above t) (ids_below above f))

mutual
  described : (above : List SegmentView) (t : Tree) → descriptors above t ≡ statics_of (flat t) (ids above t)
  described above (tree n k f) = ap (λ l. descriptor_in (above ++ n.segment ∷ []) n ++ l) (described_below (above ++ n.segment ∷ []) f)

  described_below : (above : List SegmentView) (f : Forest) → descriptors_below above f ≡ statics_of (flats f) (ids_below above f)
  described_below above no_trees = refl
  described_below above (more t f) =
      ap₂ (λ a b. a ++ b) (described above t) (described_below above f) ∙ sym (statics_of-append (flat t) (flats f) (ids above t) (ids_below above f) (ids-length above t))

table_is : (nodes : List NumberedNode) (table : List Descriptor) → IsPlanned nodes table → table ≡ statics_of nodes (ids_below [] (forest nodes))
unfolding IsForest
table_is nodes table p = p.described ∙ described_below [] (forest nodes) ∙ ap (λ ps. statics_of ps (ids_below [] (forest nodes))) (sym p.trees)

-- ---- a static node's number

the : {A : Type 0} → Option A → A → A
the None d = d
the (Some x) d = x

static_by : (b : Bool) (q : NumberedNode) (ps : List NumberedNode) (j : List SegmentView) (is : List (List SegmentView)) (prefix : List Descriptor) (s d i : ℕ) (p : NumberedNode) (id : List SegmentView)
    → q.node.is_static ≡ b → s ≡ length prefix
    → ((prefix : List Descriptor) (s d k : ℕ) → s ≡ length prefix → slice_get (numbered_from s d ps) k ≡ Some p → slice_get is k ≡ Some id
    → slice_get (prefix ++ statics_of ps is) p.number ≡ Some (descriptor id p.node))
    → slice_get (cond b (with_number s q ∷ numbered_from (s + 1) d ps) (with_number d q ∷ numbered_from s (d + 1) ps)) i ≡ Some p
    → slice_get (j ∷ is) i ≡ Some id → p.node.is_static ≡ true
    → slice_get (prefix ++ (cond b (descriptor j q.node ∷ []) [] ++ statics_of ps is)) p.number ≡ Some (descriptor id p.node)
static_by true q ps j is prefix s d zero p id f es next e g h =
    let same = same_Some (with_number s q) p e in
    get_at_seam prefix (statics_of ps is) (descriptor j q.node) p.number (sym (ap (λ w. w.number) same) ∙ es)
    ∙ ap₂ (λ x n. Some (descriptor x n)) (same_Some j id g) (ap (λ w. w.node) same)
static_by true q ps j is prefix s d (suc i) p id f es next e g h =
    ap (λ l. slice_get l p.number) (sym (append_assoc prefix (descriptor j q.node ∷ []) (statics_of ps is)))
    ∙ next (prefix ++ descriptor j q.node ∷ []) (s + 1) d i (omega (arith, es, length-append prefix (descriptor j q.node ∷ []))) e g
static_by false q ps j is prefix s d zero p id f es next e g h =
    absurd (both_ways p.node.is_static (ap (λ w. w.node.is_static) (sym (same_Some (with_number d q) p e)) ∙ f) h)
static_by false q ps j is prefix s d (suc i) p id f es next e g h = next prefix s (d + 1) i es e g

static_at : (ps : List NumberedNode) (is : List (List SegmentView)) (prefix : List Descriptor) (s d i : ℕ) (p : NumberedNode) (id : List SegmentView) → s ≡ length prefix
    → slice_get (numbered_from s d ps) i ≡ Some p → slice_get is i ≡ Some id → p.node.is_static ≡ true
    → slice_get (prefix ++ statics_of ps is) p.number ≡ Some (descriptor id p.node)
static_at [] is prefix s d i p id es e g h = absurd (omega (arith, slice_get_within [] i p e))
static_at (q ∷ ps) [] prefix s d i p id es e g h = absurd (omega (arith, slice_get_within [] i id g))
static_at (q ∷ ps) (j ∷ is) prefix s d i p id es e g h =
    subst (λ b. slice_get (prefix ++ (cond b (descriptor j q.node ∷ []) [] ++ statics_of ps is)) p.number ≡ Some (descriptor id p.node)) refl
    (static_by q.node.is_static q ps j is prefix s d i p id refl es (λ prefix s d k es e g. static_at ps is prefix s d k p id es e g h) e g h)

-- ---- a descriptor comes from a static node

record Source (ps : List NumberedNode) (is : List (List SegmentView)) (id : List SegmentView) : Type 0 where
  at : ℕ
  top : NumberedNode
  is_there : slice_get ps at ≡ Some top
  is_static : top.node.is_static ≡ true
  has_id : slice_get is at ≡ Some id

later : (q : NumberedNode) (ps : List NumberedNode) (j : List SegmentView) (is : List (List SegmentView)) (id : List SegmentView) → Source ps is id → Source (q ∷ ps) (j ∷ is) id
later q ps j is id s = record { at = suc s.at; top = s.top; is_there = s.is_there; is_static = s.is_static; has_id = s.has_id }

source_by : (b : Bool) (q : NumberedNode) (ps : List NumberedNode) (j : List SegmentView) (is : List (List SegmentView)) (k : ℕ) (id : List SegmentView) → q.node.is_static ≡ b
    → ((k : ℕ) → slice_get (map (λ d. d.id) (statics_of ps is)) k ≡ Some id → Source ps is id)
    → slice_get (map (λ d. d.id) (cond b (descriptor j q.node ∷ []) [] ++ statics_of ps is)) k ≡ Some id → Source (q ∷ ps) (j ∷ is) id
source_by true q ps j is zero id f next e = record { at = 0; top = q; is_there = refl; is_static = f; has_id = e }
source_by true q ps j is (suc k) id f next e = later q ps j is id (next k e)
source_by false q ps j is k id f next e = later q ps j is id (next k e)

source : (ps : List NumberedNode) (is : List (List SegmentView)) (k : ℕ) (id : List SegmentView) → slice_get (map (λ d. d.id) (statics_of ps is)) k ≡ Some id → Source ps is id
source [] is k id e = absurd (omega (arith, slice_get_within [] k id e))
source (q ∷ ps) [] k id e = absurd (omega (arith, slice_get_within [] k id e))
source (q ∷ ps) (j ∷ is) k id e = source_by q.node.is_static q ps j is k id refl (λ k e. source ps is k id e) e

-- ---- the law

pub keyed : (nodes : List NumberedNode) (table : List Descriptor) → IsPlanned nodes table → IsNumbered nodes
    → (i : ℕ) (p : NumberedNode) (id : List SegmentView) → slice_get nodes i ≡ Some p → slice_get (ids_below [] (forest nodes)) i ≡ Some id → IsKeyed table p id
keyed nodes table plan numbers i p id e g =
    let all = ids_below [] (forest nodes) in
    let is = table_is nodes table plan in
    record {
      static = λ h. ap (λ l. slice_get l p.number) is
          ∙ static_at nodes all [] 0 (length (of_kind true nodes)) i p id refl (ap (λ ps. slice_get ps i) (sym numbers) ∙ e) g h;
      dynamic = λ h has.
          let s = source nodes all has.0 id (ap (λ l. slice_get (ids_of l) has.0) (sym is) ∙ has.1) in
          let same = plan.distinct s.at i id s.has_id g in
          both_ways p.node.is_static h (ap (λ q. q.node.is_static) (same_Some p s.top (sym e ∙ ap (slice_get nodes) (sym same) ∙ s.is_there)) ∙ s.is_static);
    }

-- a static node's number is below the table's length
pub key_within : (nodes : List NumberedNode) (table : List Descriptor) → IsPlanned nodes table → IsNumbered nodes → (i : ℕ) (p : NumberedNode) (id : List SegmentView)
    → slice_get nodes i ≡ Some p → slice_get (ids_below [] (forest nodes)) i ≡ Some id → p.node.is_static ≡ true → p.number < length table
key_within nodes table plan numbers i p id e g h = slice_get_within table p.number _ ((keyed nodes table plan numbers i p id e g).static h)
