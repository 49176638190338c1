-- What is played gives the labels of its steps.
use Rattle.std.proofs.Common.{◌≡◌, ℕ, ◌+◌, nat_lt, true, false, List, [], ◌∷◌, ◌++◌, map, length, flat_map, Some, slice_get, refl, sym, ap, ap₂, ◌∙◌, append_assoc, if◌then◌else◌, inl, inr, ⊎_elim, arith, tests}
use Rattle.std.proofs.lemmas.Bool.{cases_Bool}
use Rattle.std.proofs.lemmas.List.{map-append}
use Rattle.std.proofs.lemmas.Option.{slice_get_within}
use Rattle.tk_base.proofs.Lists.{get_at_seam}
use Rattle.tk_record.proofs.Registrations.{slice_get_prefix}
use Rattle.tk_plan.specs.Cutting.{Part, begin_events, end_events, from_each, moves_of, spine_begins, spine_ends, whole_unit}
use Rattle.tk_plan.specs.Events.{opening_events}
use Rattle.tk_plan.specs.Numbers.{in_order}
use Rattle.tk_plan.specs.Script.{moves, opening, stamped}
use Rattle.tk_plan.specs.StepEvents.{event_of_step, kind_of, payload_of}
use Rattle.tk_plan.specs.declared.trees.nodes.Node.{Node}
use Rattle.tk_plan.specs.declared.trees.nodes.NumberedNode.{NumberedNode}
use Rattle.tk_plan.specs.declared.scripts.steps.Act.{Act}
use Rattle.tk_plan.specs.declared.scripts.steps.Act.TheVariants.{File, Finish, Register, Report, Skip, Start}
use Rattle.tk_plan.specs.declared.scripts.steps.Step.{Step}
use Rattle.tk_plan.proofs.StepEvents.{spine_events_are_steps}
use Rattle.tk_ids.specs.IdText.{SegmentView}
use Rattle.tk_ids.specs.Table.{ids_of}
use Rattle.tk_ids.specs.declared.descriptors.Descriptor.{Descriptor}
use Rattle.tk_report_text.specs.Labels.{Label, label}
use Rattle.tk_run_laws.proofs.ChainCuts.{begin_moves, end_moves}
use Rattle.tk_run_laws.proofs.Lists.{Each}
use Rattle.tk_run_laws.proofs.MoveLabels.{act_label, ids_emitted, move_label, of_publications, step_label}
use Rattle.tk_run_laws.proofs.PlayedScripts.{IsKnownPart, IsOfSpine}
use Rattle.tk_run_laws.specs.Scripts.{ArePlayable, HasKey, IsPlayable, id_at, is_registration, key_for, key_of, known_after, payload_for, payload_of_node, played, position, step_event}

pub get_prefix : {A : Type 0} (xs ys : List A) (i : ℕ) (x : A) → slice_get xs i ≡ Some x → slice_get (xs ++ ys) i ≡ Some x
get_prefix xs ys i x e = slice_get_prefix xs ys i (slice_get_within xs i x e) ∙ e

module _ (all : List NumberedNode) (table : List Descriptor) where
  has_key : (ids : List ℕ) (k : ℕ) (a : Act) → IsPlayable all table ids k a → is_registration a ≡ false → HasKey all table ids k
  has_key ids k (Register p) h e = cc
  has_key ids k Skip h e = h
  has_key ids k Start h e = h
  has_key ids k (Report i) h e = h
  has_key ids k (File i) h e = h
  has_key ids k Finish h e = h

  -- names that are right of the table's keys
  module _ (names : ℕ → List SegmentView) (by_table : (k : ℕ) (x : List SegmentView) → slice_get (ids_of table) k ≡ Some x → names k ≡ x) where
    -- the name of a node's key is its id, where those of the keys from the base on are right
    key_named : (base : ℕ) (ids rest : List ℕ) (k : ℕ) → HasKey all table ids k → ((j x : ℕ) → slice_get (ids ++ rest) j ≡ Some x → names (base + j) ≡ id_at all x)
        → names (key_of (length table) base ids k) ≡ id_at all k
    key_named base ids rest k (inl h) by_run =
        let less = h.0 in
        let lt : nat_lt k (length table) ≡ true = grind (arith, tests, less) in
        ap (λ b. names (if b then k else base + position k ids)) lt ∙ by_table k (id_at all k) h.1
    key_named base ids rest k (inr h) by_run =
        let less = h.0 in
        let lt : nat_lt k (length table) ≡ false = grind (arith, tests, less) in
        ap (λ b. names (if b then k else base + position k ids)) lt ∙ by_run (position k ids) k (get_prefix ids rest (position k ids) k h.1)

    -- so is the name of a step's key: a registration has the next one
    step_named : (base : ℕ) (ids : List ℕ) (s : Step) (ss : List Step) → IsPlayable all table ids s.node s.act
        → ((j x : ℕ) → slice_get (ids ++ ids_emitted (s ∷ ss)) j ≡ Some x → names (base + j) ≡ id_at all x)
        → (names (key_for (length table) base ids s) ≡ id_at all s.node) × ((j x : ℕ) → slice_get (known_after ids s ++ ids_emitted ss) j ≡ Some x → names (base + j) ≡ id_at all x)
    step_named base ids s ss h by_run = ⊎_elim
        (λ (e : is_registration s.act ≡ true).
        let later : (j x : ℕ) → slice_get ((ids ++ s.node ∷ []) ++ ids_emitted ss) j ≡ Some x → names (base + j) ≡ id_at all x
        = λ j x g. by_run j x (ap (λ d. slice_get (ids ++ ((if d then s.node ∷ [] else []) ++ ids_emitted ss)) j) e ∙ (ap (λ l. slice_get l j) (sym (append_assoc ids (s.node ∷ []) (ids_emitted ss))) ∙ g)) in
        let own : names (base + length ids) ≡ id_at all s.node
        = by_run (length ids) s.node (ap (λ d. slice_get (ids ++ ((if d then s.node ∷ [] else []) ++ ids_emitted ss)) (length ids)) e ∙ get_at_seam ids (ids_emitted ss) s.node (length ids) refl) in (
          ap (λ d. names (if d then base + length ids else key_of (length table) base ids s.node)) e ∙ own,
          λ j x g. later j x (ap (λ d. slice_get ((if d then ids ++ s.node ∷ [] else ids) ++ ids_emitted ss) j) (sym e) ∙ g),
        ))
        (λ (e : is_registration s.act ≡ false).
        let later : (j x : ℕ) → slice_get (ids ++ ids_emitted ss) j ≡ Some x → names (base + j) ≡ id_at all x
        = λ j x g. by_run j x (ap (λ d. slice_get (ids ++ ((if d then s.node ∷ [] else []) ++ ids_emitted ss)) j) e ∙ g) in (
          ap (λ d. names (if d then base + length ids else key_of (length table) base ids s.node)) e ∙ key_named base ids (ids_emitted ss) s.node (has_key ids s.node s.act h e) later,
          λ j x g. later j x (ap (λ d. slice_get ((if d then ids ++ s.node ∷ [] else ids) ++ ids_emitted ss) j) (sym e) ∙ g),
        ))
        (cases_Bool (is_registration s.act))

    pub labels_played : (base : ℕ) (ids : List ℕ) (ss : List Step) → ArePlayable all table ids ss → ((j x : ℕ) → slice_get (ids ++ ids_emitted ss) j ≡ Some x → names (base + j) ≡ id_at all x)
        → map (label names) (played all (length table) base ids ss) ≡ map (step_label all) ss
    labels_played base ids [] h by_run = refl
    labels_played base ids (s ∷ ss) h by_run =
        let both = step_named base ids s ss h.0 by_run in
        let head : label names (step_event all (length table) base ids s) ≡ step_label all s
        = ap (λ i. let x : Label = record { id = i; kind = kind_of s.act; payload = payload_of_node (slice_get (in_order all) s.node) (id_at all s.node) s.act } in x) both.0 in
        ap₂ (λ l ls. l ∷ ls) head (labels_played base (known_after ids s) ss h.1 both.1)

    -- ---- the spine

    spine_label : (n : Node) (k i : ℕ) (a : Act) → IsOfSpine all table n k → payload_for n (id_at all k) a ≡ payload_of n a
        → label names (event_of_step n (record { node = k; stamp = i; act = a })) ≡ act_label all k a
    spine_label n k i a h e =
        ap₂ (λ x m. let l : Label = record { id = x; kind = kind_of a; payload = m } in l)
        (by_table k (id_at all k) h.1) (sym (ap (λ o. payload_of_node o (id_at all k) a) h.0.node ∙ e))

    opening_labels : (n : Node) (k i : ℕ) → IsOfSpine all table n k → map (label names) (opening_events k i n) ≡ map (move_label all) (opening n k)
    opening_labels n k i h =
        ap (map (label names)) (spine_events_are_steps n k i).0
        ∙ ap₂ (λ l ls. l ∷ ls) (spine_label n k i Start h refl)
        (of_publications (λ ms. (j : ℕ) → map (label names) (map (event_of_step n) (stamped j ms)) ≡ map (move_label all) ms) n k
        (λ x ms g j. ap₂ (λ l ls. l ∷ ls) (spine_label n k j (Report x) h refl) (g (j + 1)))
        (λ x ms g j. ap₂ (λ l ls. l ∷ ls) (spine_label n k j (File x) h refl) (g (j + 1)))
        (λ j. refl) (i + 1))

    pub labels_begin : (i : ℕ) (ps : List Part) → Each (IsKnownPart all table) ps → map (label names) (from_each begin_events i ps) ≡ map (move_label all) (flat_map begin_moves ps)
    labels_begin i [] h = refl
    labels_begin i (spine_begins n k ∷ ps) h =
        let j = i + length (moves_of (spine_begins n k)) in
        map-append (label names) (opening_events k i n) (from_each begin_events j ps)
        ∙ (ap₂ (λ x y. x ++ y) (opening_labels n k i h.0) (labels_begin j ps h.1) ∙ sym (map-append (move_label all) (opening n k) (flat_map begin_moves ps)))
    labels_begin i (whole_unit t ∷ ps) h = labels_begin (i + length (moves t)) ps h.1
    labels_begin i (spine_ends n k ∷ ps) h = labels_begin (i + length (moves_of (spine_ends n k))) ps h.1

    pub labels_end : (i : ℕ) (ps : List Part) → Each (IsKnownPart all table) ps → map (label names) (from_each end_events i ps) ≡ map (move_label all) (flat_map end_moves ps)
    labels_end i [] h = refl
    labels_end i (spine_begins n k ∷ ps) h = labels_end (i + length (moves_of (spine_begins n k))) ps h.1
    labels_end i (whole_unit t ∷ ps) h = labels_end (i + length (moves t)) ps h.1
    labels_end i (spine_ends n k ∷ ps) h =
        ap₂ (λ l ls. l ∷ ls) (spine_label n k i Finish h.0 refl) (labels_end (i + length (moves_of (spine_ends n k))) ps h.1)
