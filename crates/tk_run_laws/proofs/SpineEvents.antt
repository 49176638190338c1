-- The events around the units: whose they are, and which.
use Rattle.std.proofs.Common.{◌≡◌, ◌≢◌, ℕ, ◌+◌, Bool, cond, true, false, ◌||◌, ◌==◌, List, [], ◌∷◌, ◌++◌, All, length, flat_map}
use Rattle.std.proofs.Common.{slice_index_or, refl, ap, ◌∙◌, subst, eq-eqb}
use Rattle.std.proofs.lemmas.Bool.{and_from, not_from_false, or_from, or_left, or_right}
use Rattle.std.proofs.lemmas.List.{map-append}
use Rattle.std.proofs.lemmas.List.Elements.{All-nil, All-cons, All-head, All-tail, All-append}
use Rattle.std.proofs.lemmas.List.Folds.{list_any-append}
use Rattle.std.proofs.lemmas.Option.{slice_get-get_or}
use Rattle.std.proofs.lemmas.Grind.{flat_map-append}
use Rattle.tk_base.proofs.Lists.{All_at, All_one as all_single}
use Rattle.tk_ids.specs.declared.descriptors.Descriptor.{Descriptor}
use Rattle.tk_events.specs.declared.kinds.Kind.{Kind}
use Rattle.tk_events.specs.declared.kinds.Kind.TheVariants.{Dynamic, Skipped, Started, Finished, Reporting, File}
use Rattle.tk_events.specs.declared.payloads.Payload.{Payload}
use Rattle.tk_events.specs.declared.payloads.Payload.TheVariants.{Report, Path}
use Rattle.tk_events.specs.declared.events.Event.{Event}
use Rattle.tk_events.specs.Event.{kind_code}
use Rattle.tk_query_lifecycle.specs.Lifecycle.{has_event, is_event, runs}
use Rattle.tk_queue_session.specs.Emission.{entries_by, entry_by}
use Rattle.tk_plan.specs.declared.trees.nodes.Node.{Node}
use Rattle.tk_plan.specs.declared.trees.nodes.NumberedNode.{NumberedNode}
use Rattle.tk_plan.specs.Trees.{Tree, tree, Forest, no_trees, more, forest}
use Rattle.tk_plan.specs.Script.{moves}
use Rattle.tk_plan.specs.Events.{event, published, entry_event, file_event, opening_events, IsStatic}
use Rattle.tk_plan.specs.Cutting.{Part, spine_begins, whole_unit, spine_ends, parts, parts_below, from_each, begin_events, end_events, moves_of, on_spine, spine_numbers, spine_of, before_of, after_of}
use Rattle.tk_plan.specs.Numbers.{IsNumbered}
use Rattle.tk_plan.specs.Planned.{IsPlanned}
use Rattle.tk_plan.proofs.ListParts.{all_prefix, all_back}
use Rattle.tk_plan.proofs.SpineEmissions.{before_static, after_static}
use Rattle.tk_run_laws.specs.Spines.{IsOnSpine, IsSpineEvent}

-- a spine node's number is that of its two parts
abbrev Keyed : (ℕ → Type 0) → Part → Type 0
Keyed P (spine_begins n k) = P k
Keyed P (whole_unit t) = Unit {0}
Keyed P (spine_ends n k) = P k

module _ (P : ℕ → Type 0) where
  -- by whether a node stands on the spine
  keyed_by : (b : Bool) (n : Node) (k : ℕ) (f : Forest) → (All P (flat_map spine_numbers (parts_below false f)) → All (Keyed P) (parts_below false f))
      → All P (flat_map spine_numbers (cond b (spine_begins n k ∷ (parts_below false f ++ spine_ends n k ∷ [])) (whole_unit (tree n k f) ∷ [])))
      → All (Keyed P) (cond b (spine_begins n k ∷ (parts_below false f ++ spine_ends n k ∷ [])) (whole_unit (tree n k f) ∷ []))
  keyed_by false n k f below h = all_single (Keyed P) (whole_unit (tree n k f)) tt
  keyed_by true n k f below h =
      let own = All-head P k (flat_map spine_numbers (parts_below false f ++ spine_ends n k ∷ [])) h in
      let others = subst (All P) (flat_map-append spine_numbers (parts_below false f) (spine_ends n k ∷ [])) (All-tail P k _ h) in
      All-cons (Keyed P) (spine_begins n k) _ own
      (All-append (Keyed P) (parts_below false f) (spine_ends n k ∷ []) (below (all_prefix P (flat_map spine_numbers (parts_below false f)) [] others)) (all_single (Keyed P) (spine_ends n k) own))

  -- what holds of the numbers of the spine holds of the number of each of its parts
  mutual
    keyed_parts : (b : Bool) (t : Tree) → All P (flat_map spine_numbers (parts b t)) → All (Keyed P) (parts b t)
    keyed_parts b (tree n k f) h = keyed_by (on_spine b n f) n k f (keyed_below false f) h

    keyed_below : (b : Bool) (f : Forest) → All P (flat_map spine_numbers (parts_below b f)) → All (Keyed P) (parts_below b f)
    keyed_below b no_trees h = All-nil (Keyed P)
    keyed_below b (more t f) h =
        let both = subst (All P) (flat_map-append spine_numbers (parts b t) (parts_below b f)) h in
        All-append (Keyed P) (parts b t) (parts_below b f)
        (keyed_parts b t (all_prefix P (flat_map spine_numbers (parts b t)) _ both)) (keyed_below b f (all_back P (flat_map spine_numbers (parts b t)) _ both))

  abbrev OfKey : Event → Type 0
  OfKey e = P e.key

  -- each event that publishes something of a node has its key
  published_keyed : {A : Type 0} (kind : Kind) (payload : A → Payload) (k i : ℕ) (xs : List A) → P k → All OfKey (published (λ j y. event kind k j (payload y)) i xs)
  published_keyed kind payload k i [] h = All-nil OfKey
  published_keyed kind payload k i (x ∷ xs) h = All-cons OfKey _ _ h (published_keyed kind payload k (i + 1) xs h)

  -- so it does of the keys of the events before the units
  begins_keyed : (i : ℕ) (ps : List Part) → All (Keyed P) ps → All OfKey (from_each begin_events i ps)
  begins_keyed i [] h = All-nil OfKey
  begins_keyed i (spine_begins n k ∷ ps) h =
      let own = All-head (Keyed P) (spine_begins n k) ps h in
      All-append OfKey (opening_events k i n) _
      (All-cons OfKey _ _ own (All-append OfKey (published (entry_event k) (i + 1) n.entries) _ (published_keyed Reporting Report k (i + 1) n.entries own) (published_keyed File Path k (i + 1 + length n.entries) n.files own)))
      (begins_keyed (i + length (moves_of (spine_begins n k))) ps (All-tail (Keyed P) (spine_begins n k) ps h))
  begins_keyed i (whole_unit t ∷ ps) h = begins_keyed (i + length (moves t)) ps (All-tail (Keyed P) (whole_unit t) ps h)
  begins_keyed i (spine_ends n k ∷ ps) h = begins_keyed (i + 1) ps (All-tail (Keyed P) (spine_ends n k) ps h)

  -- and of the keys of the events after them
  ends_keyed : (i : ℕ) (ps : List Part) → All (Keyed P) ps → All OfKey (from_each end_events i ps)
  ends_keyed i [] h = All-nil OfKey
  ends_keyed i (spine_begins n k ∷ ps) h = ends_keyed (i + length (moves_of (spine_begins n k))) ps (All-tail (Keyed P) (spine_begins n k) ps h)
  ends_keyed i (whole_unit t ∷ ps) h = ends_keyed (i + length (moves t)) ps (All-tail (Keyed P) (whole_unit t) ps h)
  ends_keyed i (spine_ends n k ∷ ps) h = All-cons OfKey _ _ (All-head (Keyed P) (spine_ends n k) ps h) (ends_keyed (i + 1) ps (All-tail (Keyed P) (spine_ends n k) ps h))

-- ---- they are events of the spine

-- a kind that is no registration has another code
pub unregistered : (kind : Kind) → kind ≢ Dynamic → (kind_code kind == kind_code Dynamic) ≡ false
unregistered Dynamic h = absurd (h refl)
unregistered Skipped h = refl
unregistered Started h = refl
unregistered Finished h = refl
unregistered Reporting h = refl
unregistered File h = refl

module _ (nodes : List NumberedNode) where
  -- each number of the spine stands on it
  on_spine_each : All (IsOnSpine nodes) (spine_of (forest nodes))
  on_spine_each i d l = (i, slice_get-get_or (spine_of (forest nodes)) i d l)

  -- so does the number of each part of it
  keyed_each : All (Keyed (IsOnSpine nodes)) (parts_below true (forest nodes))
  keyed_each = keyed_below (IsOnSpine nodes) true (forest nodes) on_spine_each

  -- static events with keys on the spine are events of the spine
  spine_each : (table : List Descriptor) (es : List Event) → All (OfKey (IsOnSpine nodes)) es → All (IsStatic table) es → All (IsSpineEvent nodes table) es
  spine_each table es keys statics i d l =
      let s = statics i d l in
      (keys i d l, s.known, and_from _ _ s.lawful (not_from_false _ (unregistered (slice_index_or es i d).kind s.registers_none)))

-- around the units are events of the spine
pub spine_emits : (nodes : List NumberedNode) (table : List Descriptor) → IsPlanned nodes table → IsNumbered nodes → All (IsSpineEvent nodes table) (before_of (forest nodes) ++ after_of (forest nodes))
spine_emits nodes table plan numbers =
    let before = before_static nodes table plan numbers in
    let after = after_static nodes table plan numbers in
    All-append (IsSpineEvent nodes table) (before_of (forest nodes)) (after_of (forest nodes))
    (spine_each nodes table (before_of (forest nodes)) (begins_keyed (IsOnSpine nodes) 0 (parts_below true (forest nodes)) (keyed_each nodes)) before.each)
    (spine_each nodes table (after_of (forest nodes)) (ends_keyed (IsOnSpine nodes) 0 (parts_below true (forest nodes)) (keyed_each nodes)) after.each)

-- ---- the starts, before the units

-- an event is among two lists in turn if it is among one of them
has-append : (kind : Kind) (key : ℕ) (xs ys : List Event) → has_event kind key (entries_by 0 (xs ++ ys)) ≡ (has_event kind key (entries_by 0 xs) || has_event kind key (entries_by 0 ys))
has-append kind key xs ys = ap (has_event kind key) (map-append (entry_by 0) xs ys) ∙ list_any-append (is_event kind key) (entries_by 0 xs) (entries_by 0 ys)

has_left : (kind : Kind) (key : ℕ) (xs ys : List Event) → has_event kind key (entries_by 0 xs) ≡ true → has_event kind key (entries_by 0 (xs ++ ys)) ≡ true
has_left kind key xs ys h = has-append kind key xs ys ∙ or_left _ (has_event kind key (entries_by 0 ys)) h

has_right : (kind : Kind) (key : ℕ) (xs ys : List Event) → has_event kind key (entries_by 0 ys) ≡ true → has_event kind key (entries_by 0 (xs ++ ys)) ≡ true
has_right kind key xs ys h = has-append kind key xs ys ∙ or_right (has_event kind key (entries_by 0 xs)) _ h

-- the key is started by the parts, wherever they stand
abbrev Begins : List Part → ℕ → Type 0
Begins ps key = (i : ℕ) → has_event Started key (entries_by 0 (from_each begin_events i ps)) ≡ true

-- a spine node's beginning starts it
begins_own : (n : Node) (k : ℕ) (ps : List Part) → Begins (spine_begins n k ∷ ps) k
begins_own n k ps i = or_left (k == k) _ (eq-eqb k k refl)

-- parts start each of their spine nodes
begins_each : (ps : List Part) → All (Begins ps) (flat_map spine_numbers ps)
begins_each [] = All-nil (Begins [])
begins_each (spine_begins n k ∷ ps) =
    All-cons (Begins (spine_begins n k ∷ ps)) k (flat_map spine_numbers ps) (begins_own n k ps)
    (λ j d l i. has_right Started _ (opening_events k i n) (from_each begin_events (i + length (moves_of (spine_begins n k))) ps) (begins_each ps j d l (i + length (moves_of (spine_begins n k)))))
begins_each (whole_unit t ∷ ps) = λ j d l i. begins_each ps j d l (i + length (moves t))
begins_each (spine_ends n k ∷ ps) = λ j d l i. begins_each ps j d l (i + 1)

-- each node on the spine starts before the units
pub starts_before : (nodes : List NumberedNode) (key : ℕ) → IsOnSpine nodes key → has_event Started key (entries_by 0 (before_of (forest nodes))) ≡ true
starts_before nodes key on =
    All_at (Begins (parts_below true (forest nodes))) (spine_of (forest nodes)) on.0 key
    (begins_each (parts_below true (forest nodes))) on.1 0

-- what publishes something of a node finishes none
published_goes_on : {A : Type 0} (kind : Kind) (payload : A → Payload) → (kind_code kind == kind_code Finished) ≡ false → (key k i : ℕ) (xs : List A)
    → has_event Finished key (entries_by 0 (published (λ j y. event kind k j (payload y)) i xs)) ≡ false
published_goes_on kind payload other key k i [] = refl
published_goes_on kind payload other key k i (x ∷ xs) = rw other (published_goes_on kind payload other key k (i + 1) xs)

-- no part's beginning finishes a node
begins_go_on : (key i : ℕ) (ps : List Part) → has_event Finished key (entries_by 0 (from_each begin_events i ps)) ≡ false
begins_go_on key i [] = refl
begins_go_on key i (spine_begins n k ∷ ps) =
    has-append Finished key (opening_events k i n) (from_each begin_events (i + length (moves_of (spine_begins n k))) ps)
    ∙ or_from _ _
    (has-append Finished key (published (entry_event k) (i + 1) n.entries) (published (file_event k) (i + 1 + length n.entries) n.files)
    ∙ or_from _ _ (published_goes_on Reporting Report refl key k (i + 1) n.entries) (published_goes_on File Path refl key k (i + 1 + length n.entries) n.files))
    (begins_go_on key (i + length (moves_of (spine_begins n k))) ps)
begins_go_on key i (whole_unit t ∷ ps) = begins_go_on key (i + length (moves t)) ps
begins_go_on key i (spine_ends n k ∷ ps) = begins_go_on key (i + 1) ps

-- nothing finishes before the units
pub no_finish_before : (nodes : List NumberedNode) (key : ℕ) → has_event Finished key (entries_by 0 (before_of (forest nodes))) ≡ false
no_finish_before nodes key = begins_go_on key 0 (parts_below true (forest nodes))

-- each node on the spine runs after the events before the units
pub spine_runs : (nodes : List NumberedNode) (key : ℕ) → IsOnSpine nodes key → runs key (entries_by 0 (before_of (forest nodes))) ≡ true
spine_runs nodes key on = and_from _ _ (starts_before nodes key on) (not_from_false _ (no_finish_before nodes key))
