-- What the spine's events are.
use Rattle.std.proofs.Common.{◌≡◌, ◌≢◌, ℕ, zero, suc, ◌+◌, ◌≤◌, ◌<◌, List, [], ◌∷◌, ◌++◌, Bool, cond, true, false, All, length, flat_map, get_or, slice_index_or, refl, ap, ◌∙◌, subst, arith, length-append}
use Rattle.std.specs.List.{list_all}
use Rattle.std.proofs.lemmas.Option.{slice_get-get_or}
use Rattle.std.proofs.lemmas.List.Elements.{All-nil, All-cons, All-head, All-tail, All-append}
use Rattle.std.proofs.lemmas.Bool.{and_parts}
use Rattle.tk_base.proofs.Lists.{All_one}
use Rattle.tk_base.specs.declared.limits.TheConstants.{MAX_EVENTS}
use Rattle.tk_ids.specs.declared.tables.TheConstants.{MAX_DESCRIPTORS}
use Rattle.tk_ids.specs.declared.descriptors.Descriptor.{Descriptor}
use Rattle.tk_events.specs.declared.kinds.Kind.{Kind}
use Rattle.tk_events.specs.declared.kinds.Kind.TheVariants.{Dynamic, Reporting, File}
use Rattle.tk_events.specs.declared.payloads.Payload.{Payload}
use Rattle.tk_events.specs.declared.payloads.Payload.TheVariants.{Report, Path}
use Rattle.tk_events.specs.Event.{is_lawful}
use Rattle.tk_plan.specs.declared.trees.nodes.Node.{Node}
use Rattle.tk_plan.specs.declared.trees.nodes.NumberedNode.{NumberedNode}
use Rattle.tk_plan.specs.Trees.{Tree, tree, Forest, no_trees, more, flat, flats, forest, IsForest, contents}
use Rattle.tk_plan.specs.Script.{moves, opening}
use Rattle.tk_plan.specs.Events.{event, published, entry_event, file_event, opening_events, finish_event, IsStatic, AreStatic}
use Rattle.tk_plan.specs.Cutting.{Part, spine_begins, whole_unit, spine_ends, parts, parts_below, from_each, begin_events, end_events, piece, moves_of, on_spine, all_static, before_of, after_of, units_of, pieces_of}
use Rattle.tk_plan.specs.Numbers.{IsNumbered, of_kind}
use Rattle.tk_plan.specs.Ids.{ids_below}
use Rattle.tk_plan.specs.Planned.{IsPlanned, is_lawful_node}
use Rattle.tk_plan.proofs.TreeMoves.{length-opening}
use Rattle.tk_plan.proofs.Cuts.{spine_facts, parts_below-moves, from_each-append}
use Rattle.tk_plan.proofs.NodeKeys.{key_within, ids_below-length}
use Rattle.tk_plan.proofs.NumberedPlans.{rooted_static}
use Rattle.tk_plan.proofs.TableDescriptors.{statics-append, statics_length}
use Rattle.tk_plan.proofs.PlanParts.{counted}
use Rattle.tk_plan.proofs.ListParts.{all_prefix, all_back}

abbrev pub top_static : Tree → Bool
top_static (tree n k f) = n.is_static

pub static_both : (t : Tree) (f : Forest) → all_static (more t f) ≡ true → (top_static t ≡ true) × (all_static f ≡ true)
static_both (tree n k g) f e = and_parts n.is_static (all_static f) e

module _ (table : List Descriptor) where
  -- a node that may stand on the spine under that number
  abbrev Fit : Node → ℕ → Type 0
  Fit n k = (is_lawful_node n ≡ true) × (k < length table)

  abbrev FitPlaced : NumberedNode → Type 0
  FitPlaced p = (is_lawful_node p.node ≡ true) × (p.node.is_static ≡ true → p.number < length table)

  abbrev FitPart : Part → Type 0
  FitPart (spine_begins n k) = Fit n k
  FitPart (whole_unit t) = Unit {0}
  FitPart (spine_ends n k) = Fit n k

  -- ---- the parts

  part_by : (b : Bool) (n : Node) (k : ℕ) (f : Forest) → Fit n k → (b ≡ true → All FitPart (parts_below false f))
      → All FitPart (cond b (spine_begins n k ∷ (parts_below false f ++ spine_ends n k ∷ [])) (whole_unit (tree n k f) ∷ []))
  part_by true n k f fit below = All-cons FitPart (spine_begins n k) _ fit (All-append FitPart (parts_below false f) (spine_ends n k ∷ []) (below refl) (All_one FitPart (spine_ends n k) fit))
  part_by false n k f fit below = All_one FitPart (whole_unit (tree n k f)) tt

  mutual
    parts_fit : (b : Bool) (t : Tree) → top_static t ≡ true → All FitPlaced (flat t) → All FitPart (parts b t)
    parts_fit b (tree n k f) e h =
        let top = All-head FitPlaced _ (flats f) h in
        part_by (on_spine b n f) n k f (top.0, top.1 e) (λ on. below_fit false f (spine_facts b n f on).1 (All-tail FitPlaced _ (flats f) h))

    below_fit : (b : Bool) (f : Forest) → all_static f ≡ true → All FitPlaced (flats f) → All FitPart (parts_below b f)
    below_fit b no_trees e h = All-nil FitPart
    below_fit b (more t f) e h =
        let both = static_both t f e in
        All-append FitPart (parts b t) (parts_below b f)
        (parts_fit b t both.0 (all_prefix FitPlaced (flat t) (flats f) h)) (below_fit b f both.1 (all_back FitPlaced (flat t) (flats f) h))

  -- ---- their events

  published_static : {A : Type 0} (kind : Kind) (payload : A → Payload) → kind ≢ Dynamic → (k i : ℕ) (xs : List A) → k < length table → list_all (λ x. is_lawful kind (payload x)) xs ≡ true
      → All (IsStatic table) (published (λ j y. event kind k j (payload y)) i xs)
  published_static kind payload other k i [] l h = All-nil (IsStatic table)
  published_static kind payload other k i (x ∷ xs) l h =
      let both = and_parts (is_lawful kind (payload x)) _ h in
      All-cons (IsStatic table) _ (published (λ j y. event kind k j (payload y)) (i + 1) xs) (record { known = l; lawful = both.0; registers_none = other }) (published_static kind payload other k (i + 1) xs l both.1)

  begun_static : (k i : ℕ) (n : Node) → Fit n k → All (IsStatic table) (opening_events k i n)
  begun_static k i n fit =
      let both = and_parts (list_all (λ e. is_lawful Reporting (Report e)) n.entries) _ fit.0 in
      All-cons (IsStatic table) _ _ (record { known = fit.1; lawful = refl; registers_none = λ same. cc })
      (All-append (IsStatic table) (published (entry_event k) (i + 1) n.entries) (published (file_event k) (i + 1 + length n.entries) n.files)
      (published_static Reporting Report (λ same. cc) k (i + 1) n.entries fit.1 both.0)
      (published_static File Path (λ same. cc) k (i + 1 + length n.entries) n.files fit.1 both.1))

  ended_static : (k i : ℕ) (n : Node) → Fit n k → All (IsStatic table) (finish_event k i n ∷ [])
  ended_static k i n fit =
      All_one (IsStatic table) _ (record { known = fit.1; lawful = refl; registers_none = λ same. cc })

  heads_static : (i : ℕ) (ps : List Part) → All FitPart ps → All (IsStatic table) (from_each begin_events i ps)
  heads_static i [] h = All-nil (IsStatic table)
  heads_static i (spine_begins n k ∷ ps) h = All-append (IsStatic table) (opening_events k i n) _ (begun_static k i n (All-head FitPart (spine_begins n k) ps h)) (heads_static (i + length (moves_of (spine_begins n k))) ps (All-tail FitPart (spine_begins n k) ps h))
  heads_static i (whole_unit t ∷ ps) h = heads_static (i + length (moves t)) ps (All-tail FitPart (whole_unit t) ps h)
  heads_static i (spine_ends n k ∷ ps) h = heads_static (i + 1) ps (All-tail FitPart (spine_ends n k) ps h)

  tails_static : (i : ℕ) (ps : List Part) → All FitPart ps → All (IsStatic table) (from_each end_events i ps)
  tails_static i [] h = All-nil (IsStatic table)
  tails_static i (spine_begins n k ∷ ps) h = tails_static (i + length (moves_of (spine_begins n k))) ps (All-tail FitPart (spine_begins n k) ps h)
  tails_static i (whole_unit t ∷ ps) h = tails_static (i + length (moves t)) ps (All-tail FitPart (whole_unit t) ps h)
  tails_static i (spine_ends n k ∷ ps) h = All-append (IsStatic table) (finish_event k i n ∷ []) _ (ended_static k i n (All-head FitPart (spine_ends n k) ps h)) (tails_static (i + 1) ps (All-tail FitPart (spine_ends n k) ps h))

-- ---- how many there are

length-published : {A : Type 0} (kind : Kind) (payload : A → Payload) (k i : ℕ) (xs : List A) → length (published (λ j y. event kind k j (payload y)) i xs) ≡ length xs
length-published kind payload k i [] = refl
length-published kind payload k i (x ∷ xs) = ap suc (length-published kind payload k (i + 1) xs)

length-begun : (k i : ℕ) (n : Node) → length (opening_events k i n) ≡ length (opening n k)
length-begun k i n =
    omega (arith, length-append (published (entry_event k) (i + 1) n.entries) (published (file_event k) (i + 1 + length n.entries) n.files), length-published Reporting Report k (i + 1) n.entries, length-published File Path k (i + 1 + length n.entries) n.files, length-opening n k)

heads_few : (i : ℕ) (ps : List Part) → length (from_each begin_events i ps) ≤ length (flat_map moves_of ps)
heads_few i [] = omega arith
heads_few i (spine_begins n k ∷ ps) =
    omega (arith, heads_few (i + length (moves_of (spine_begins n k))) ps, length-begun k i n, length-append (opening_events k i n) (from_each begin_events (i + length (moves_of (spine_begins n k))) ps), length-append (opening n k) (flat_map moves_of ps))
heads_few i (whole_unit t ∷ ps) = omega (arith, heads_few (i + length (moves t)) ps, length-append (moves t) (flat_map moves_of ps))
heads_few i (spine_ends n k ∷ ps) = omega (arith, heads_few (i + 1) ps)

tails_few : (i : ℕ) (ps : List Part) → length (from_each end_events i ps) ≤ length (flat_map moves_of ps)
tails_few i [] = omega arith
tails_few i (spine_begins n k ∷ ps) = omega (arith, tails_few (i + length (moves_of (spine_begins n k))) ps, length-append (opening n k) (flat_map moves_of ps))
tails_few i (whole_unit t ∷ ps) = omega (arith, tails_few (i + length (moves t)) ps, length-append (moves t) (flat_map moves_of ps))
tails_few i (spine_ends n k ∷ ps) = omega (arith, tails_few (i + 1) ps)

-- ---- of a plan

lawful_at : (ps : List NumberedNode) (k : ℕ) (d : NumberedNode) → list_all is_lawful_node (contents ps) ≡ true → k < length ps → is_lawful_node (slice_index_or ps k d).node ≡ true
lawful_at [] k d h l = absurd (omega arith)
lawful_at (p ∷ ps) zero d h l = (and_parts (is_lawful_node p.node) _ h).0
lawful_at (p ∷ ps) (suc k) d h l = lawful_at ps k d (and_parts (is_lawful_node p.node) _ h).1 (omega (arith, l))

nodes_fit : (nodes : List NumberedNode) (table : List Descriptor) → IsPlanned nodes table → IsNumbered nodes → All (FitPlaced table) nodes
unfolding IsForest
nodes_fit nodes table plan numbers k d l =
    let ids = ids_below [] (forest nodes) in
    let long : length nodes ≡ length ids = ap length plan.trees ∙ ids_below-length [] (forest nodes) in (
      lawful_at nodes k d plan.lawful l,
      λ e. key_within nodes table plan numbers k (slice_index_or nodes k d) (get_or ids k []) (slice_get-get_or nodes k d l) (slice_get-get_or ids k [] (omega (arith, l, long))) e,
    )

spine_fits : (nodes : List NumberedNode) (table : List Descriptor) → IsPlanned nodes table → IsNumbered nodes → All (FitPart table) (parts_below true (forest nodes))
unfolding IsForest
spine_fits nodes table plan numbers =
    below_fit table true (forest nodes) (rooted_static (forest nodes) plan.root) (subst (All (FitPlaced table)) plan.trees (nodes_fit nodes table plan numbers))

all_few : (nodes : List NumberedNode) (table : List Descriptor) → IsPlanned nodes table → length (flat_map moves_of (parts_below true (forest nodes))) ≤ MAX_EVENTS
all_few nodes table plan = omega (arith, plan.few_events, ap length (parts_below-moves true 0 (forest nodes) (rooted_static (forest nodes) plan.root)))

pub before_static : (nodes : List NumberedNode) (table : List Descriptor) → IsPlanned nodes table → IsNumbered nodes → AreStatic table (before_of (forest nodes))
before_static nodes table plan numbers = record {
  each = heads_static table 0 (parts_below true (forest nodes)) (spine_fits nodes table plan numbers);
  few = omega (arith, heads_few 0 (parts_below true (forest nodes)), all_few nodes table plan);
}

pub after_static : (nodes : List NumberedNode) (table : List Descriptor) → IsPlanned nodes table → IsNumbered nodes → AreStatic table (after_of (forest nodes))
after_static nodes table plan numbers = record {
  each = tails_static table 0 (parts_below true (forest nodes)) (spine_fits nodes table plan numbers);
  few = omega (arith, tails_few 0 (parts_below true (forest nodes)), all_few nodes table plan);
}

-- ---- how many units there are

static_top : (b : Bool) (n : Node) (ns : List Node) → b ≡ true → length (cond b (n ∷ ns) ns) ≡ suc (length ns)
static_top true n ns e = refl
static_top false n ns e = absurd (grind arith)

unit_by : (b : Bool) (n : Node) (k i : ℕ) (f : Forest) (m : ℕ) → ((i : ℕ) → b ≡ true → length (from_each piece i (parts_below false f)) ≤ m)
    → length (from_each piece i (cond b (spine_begins n k ∷ (parts_below false f ++ spine_ends n k ∷ [])) (whole_unit (tree n k f) ∷ []))) ≤ suc m
unit_by true n k i f m h =
    let at : ℕ = i + length (moves_of (spine_begins n k)) in
    omega (arith, h at refl, ap length (from_each-append piece at (parts_below false f) (spine_ends n k ∷ [])), length-append (from_each piece at (parts_below false f)) [])
unit_by false n k i f m h = omega arith

mutual
  parts_few : (b : Bool) (i : ℕ) (t : Tree) → top_static t ≡ true → length (from_each piece i (parts b t)) ≤ length (of_kind true (flat t))
  parts_few b i (tree n k f) e =
      omega (arith, unit_by (on_spine b n f) n k i f (length (of_kind true (flats f))) (λ i on. below_few false i f (spine_facts b n f on).1), static_top n.is_static n (of_kind true (flats f)) e)

  below_few : (b : Bool) (i : ℕ) (f : Forest) → all_static f ≡ true → length (from_each piece i (parts_below b f)) ≤ length (of_kind true (flats f))
  below_few b i no_trees e = omega arith
  below_few b i (more t f) e =
      let both = static_both t f e in
      let at : ℕ = i + length (flat_map moves_of (parts b t)) in
      omega (
        arith,
        parts_few b i t both.0,
        below_few b at f both.1,
        ap length (from_each-append piece i (parts b t) (parts_below b f)),
        length-append (from_each piece i (parts b t)) (from_each piece at (parts_below b f)),
        ap length (statics-append (flat t) (flats f)),
        length-append (of_kind true (flat t)) (of_kind true (flats f)),
      )

pub few_units : (nodes : List NumberedNode) (table : List Descriptor) → IsPlanned nodes table → length (units_of (forest nodes)) ≤ MAX_DESCRIPTORS
unfolding IsForest
few_units nodes table plan =
    omega (
      arith,
      counted (pieces_of (forest nodes)),
      below_few true 0 (forest nodes) (rooted_static (forest nodes) plan.root),
      ap (λ ps. length (of_kind true ps)) plan.trees,
      statics_length nodes table plan,
      plan.few_static,
    )
