-- One step more of a unit's script.
use Rattle.std.proofs.Common.{◌≡◌, ◌≤◌, ◌<◌, ℕ, zero, suc, ◌+◌, ◌==◌, Bool, true, false, List, [], ◌∷◌, ◌++◌, length, take, drop, get_or, Option, Some, None, slice_get, option_map, refl, sym, ap, ap₂, ◌∙◌, subst, arith, append_assoc, if◌then◌else◌, ◌⊎◌, inl, inr, length-append}
use Rattle.std.specs.Prelude.{IsSome}
use Rattle.std.specs.Option.{option_or}
use Rattle.std.proofs.Common.{⊎_elim}
use Rattle.std.proofs.lemmas.Bool.{cases_lt}
use Rattle.std.proofs.lemmas.List.Sums.{sum_by-cons}
use Rattle.std.proofs.lemmas.List.{map-append}
use Rattle.std.proofs.lemmas.Option.{same_Some}
use Rattle.tk_base.proofs.Options.{option_or_none_left, option_or_none_right}
use Rattle.tk_ids.specs.IdText.{SegmentView}
use Rattle.tk_ids.specs.Table.{unlocked}
use Rattle.tk_ids.specs.declared.descriptors.Descriptor.{Descriptor}
use Rattle.tk_events.specs.declared.kinds.Kind.TheVariants.{Dynamic}
use Rattle.tk_events.specs.declared.payloads.Payload.TheVariants.{Described, Nothing}
use Rattle.tk_events.specs.declared.events.Event.{Event}
use Rattle.tk_events.specs.Registration.{registered_key}
use Rattle.tk_record.specs.Entries.{desc, desc_in}
use Rattle.tk_queue_session.specs.Emission.{registrations, is_dynamic, entries_by, entry_by}
use Rattle.tk_queue_session.specs.Senders.{SenderView, record_of_sender}
use Rattle.tk_queue_session.specs.Registering.{registration, child}
use Rattle.tk_plan.specs.declared.trees.nodes.Node.{Node}
use Rattle.tk_plan.specs.declared.trees.nodes.NumberedNode.{NumberedNode}
use Rattle.tk_plan.specs.declared.scripts.steps.Act.{Act}
use Rattle.tk_plan.specs.declared.scripts.steps.Act.TheVariants.{Register, Skip, Start, Report, File, Finish}
use Rattle.tk_plan.specs.declared.scripts.steps.Step.{Step}
use Rattle.tk_plan.specs.Trees.{forest}
use Rattle.tk_plan.specs.Cutting.{script_of}
use Rattle.tk_plan.specs.Numbers.{in_order, IsNumbered}
use Rattle.tk_plan.specs.Planned.{IsPlanned}
use Rattle.tk_plan.specs.Events.{event}
use Rattle.tk_plan.specs.StepEvents.{kind_of, payload_of}
use Rattle.tk_run_laws.specs.Scripts.{ArePlayable, IsPlayable, HasKey, id_at, is_registration, key_of, key_for, known_in, known_after, played, payload_of_node, registered, step_event, next_key}
use Rattle.tk_run_laws.specs.Laws.{ScriptsArePlayable, NodesAreFound}
use Rattle.tk_engine_execute.specs.Engines.{IsSameSender}
use Rattle.tk_engine_execute.proofs.Emitted.{registrations-append}
use Rattle.tk_engine_scripted.specs.steps.{key_in, noted, key_found, IsPlayed, IsRegistered, IsEmitted, begun}
use Rattle.tk_engine_scripted.proofs.RegisteredKeys.{key_in_more, has_its_key, is_found}
use Rattle.tk_queue_session.proofs.KnownKeys.{desc_in-append}

-- ---- scripts

known_in_more : (known : List ℕ) (prefix : List Step) (s : Step) → known_in known (prefix ++ s ∷ []) ≡ known_after (known_in known prefix) s
known_in_more known [] s = refl
known_in_more known (x ∷ prefix) s = known_in_more (known_after known x) prefix s

abbrev weight_of : Bool → ℕ
weight_of b = if b then 1 else 0

one_counted : (e : Event) → registrations (e ∷ []) ≡ weight_of (is_dynamic e)
one_counted e = sum_by-cons (λ x. weight_of (is_dynamic x)) e [] ∙ plus_zero (weight_of (is_dynamic e)) where
  plus_zero : (k : ℕ) → k + 0 ≡ k
  plus_zero k = omega arith

module _ (nodes : List NumberedNode) (table : List Descriptor) where
  played_more : (base : ℕ) (known : List ℕ) (prefix : List Step) (s : Step)
      → played nodes (length table) base known (prefix ++ s ∷ []) ≡ played nodes (length table) base known prefix ++ step_event nodes (length table) base (known_in known prefix) s ∷ []
  played_more base known [] s = refl
  played_more base known (x ∷ prefix) s = ap (λ l. step_event nodes (length table) base known x ∷ l) (played_more base (known_after known x) prefix s)

  playable_at : (known : List ℕ) (prefix back : List Step) (s : Step) → ArePlayable nodes table known (prefix ++ s ∷ back) → IsPlayable nodes table (known_in known prefix) s.node s.act
  playable_at known [] back s h = h.0
  playable_at known (x ∷ prefix) back s h = playable_at (known_after known x) prefix back s h.1

  registers : (base : ℕ) (known : List ℕ) (s : Step) → is_dynamic (step_event nodes (length table) base known s) ≡ is_registration s.act
  registers base known s = by_act s.act where
    by_act : (a : Act) → is_dynamic (event (kind_of a) 0 0 Nothing) ≡ is_registration a
    by_act (Register p) = refl
    by_act Skip = refl
    by_act Start = refl
    by_act (Report i) = refl
    by_act (File i) = refl
    by_act Finish = refl

  -- as many registrations as nodes are registered
  counted : (base : ℕ) (known : List ℕ) (prefix : List Step) → registrations (played nodes (length table) base known prefix) + length known ≡ length (known_in known prefix)
  counted base known [] = omega arith
  counted base known (s ∷ prefix) =
      let one = step_event nodes (length table) base known s in
      let rest = played nodes (length table) base (known_after known s) prefix in
      let more = counted base (known_after known s) prefix in
      let longer : length (known_after known s) ≡ length known + (if is_registration s.act then 1 else 0) = by_flag (is_registration s.act) known s.node in
      let weight : registrations (one ∷ []) ≡ (if is_registration s.act then 1 else 0) = one_counted one ∙ ap weight_of (registers base known s) in
      let split = registrations-append (one ∷ []) rest in
      omega (arith, split, weight, more, longer) where
        by_flag : (b : Bool) (known : List ℕ) (n : ℕ) → length (if b then known ++ n ∷ [] else known) ≡ length known + (if b then 1 else 0)
        by_flag true known n = length-append known (n ∷ [])
        by_flag false known n = omega arith

-- ---- one step more

has_key : (nodes : List NumberedNode) (table : List Descriptor) (known : List ℕ) (k : ℕ) (a : Act) → is_registration a ≡ false → IsPlayable nodes table known k a → HasKey nodes table known k
has_key nodes table known k (Register parent) e h = cc
has_key nodes table known k Skip e h = h
has_key nodes table known k Start e h = h
has_key nodes table known k (Report i) e h = h
has_key nodes table known k (File i) e h = h
has_key nodes table known k Finish e h = h

-- what has no descriptor after some events had none before
unused_before : (table : List Descriptor) (w : ℕ) (sent more : List Event) (key : ℕ) → desc (record { table = table; entries = entries_by w (sent ++ more) }) key ≡ None → desc (record { table = table; entries = entries_by w sent }) key ≡ None
unused_before table w sent more key e =
    let split : desc_in (entries_by w (sent ++ more)) key ≡ option_or (desc_in (entries_by w sent) key) (desc_in (entries_by w more) key) =
    ap (λ es. desc_in es key) (map-append (entry_by w) sent more) ∙ desc_in-append (entries_by w sent) (entries_by w more) key in
    let table_none = option_or_none_left (slice_get table key) (desc_in (entries_by w (sent ++ more)) key) e in
    let sent_none = option_or_none_left (desc_in (entries_by w sent) key) (desc_in (entries_by w more) key) (sym split ∙ option_or_none_right (slice_get table key) (desc_in (entries_by w (sent ++ more)) key) e) in
    ap₂ option_or table_none sent_none

module _ (nodes : List NumberedNode) (table : List Descriptor) (planned : IsPlanned nodes table) (numbers : IsNumbered nodes) (plays : ScriptsArePlayable) (finds : NodesAreFound)
    (unit : ℕ) (prefix back : List Step) (sent : List Event) (old new : SenderView) (keys : ℕ → Option ℕ) (was : IsPlayed (begun nodes table old.worker sent) prefix old.sent keys) where
  abbrev base : ℕ
  base = next_key old.worker sent

  abbrev known : List ℕ
  known = known_in [] prefix

  abbrev at_step : Step → Type 0
  at_step s = script_of (forest nodes) unit ≡ prefix ++ s ∷ back

  here : (s : Step) → at_step s → IsPlayable nodes table known s.node s.act
  here s whole = playable_at nodes table [] prefix back s (subst (ArePlayable nodes table []) whole (plays nodes table unit planned numbers))

  pub emitted_found : (s : Step) → at_step s → is_registration s.act ≡ false → (s.node < length table) ⊎ IsSome (keys s.node)
  emitted_found s whole plain = is_found nodes table base known keys was.keys_are s.node (has_key nodes table known s.node s.act plain (here s whole))

  pub emitted_plays : (s : Step) (key : ℕ) → at_step s → is_registration s.act ≡ false → key_found (length table) keys s.node ≡ Some key → IsEmitted nodes old new s key
      → IsPlayed (begun nodes table old.worker sent) (prefix ++ s ∷ []) new.sent keys
  emitted_plays s key whole plain found t =
      let there = has_key nodes table known s.node s.act plain (here s whole) in
      let its : key ≡ key_of (length table) base known s.node = same_Some _ _ (sym found ∙ has_its_key nodes table base known keys was.keys_are s.node there) in
      let key_is : key ≡ key_for (length table) base known s = its ∙ sym (ap (λ b. if b then base + length known else key_of (length table) base known s.node) plain) in
      let says : payload_of t.node s.act ≡ payload_of_node (slice_get (in_order nodes) s.node) (id_at nodes s.node) s.act =
      sym (ap (λ (b : Bool). if b then Described (registered (id_at nodes s.node) t.node) else payload_of t.node s.act) plain) ∙ sym (ap (λ o. payload_of_node o (id_at nodes s.node) s.act) t.is) in
      let event_of_step : event (kind_of s.act) key s.stamp (payload_of t.node s.act) ≡ step_event nodes (length table) base known s = ap₂ (λ k p. event (kind_of s.act) k s.stamp p) key_is says in
      let same : known_in [] (prefix ++ s ∷ []) ≡ known = known_in_more [] prefix s ∙ ap (λ b. if b then known ++ s.node ∷ [] else known) plain in
      record {
        emitted = ap (λ e. e.sent) t.sent ∙ ap₂ (λ l e. l ++ e ∷ []) was.emitted event_of_step ∙ append_assoc sent (played nodes (length table) base [] prefix) (step_event nodes (length table) base known s ∷ [])
            ∙ sym (ap (λ l. sent ++ l) (played_more nodes table base [] prefix s));
        keys_are = λ node. was.keys_are node ∙ sym (ap (λ l. key_in base l node) same);
        unused = λ j lt. was.unused j (subst (λ l. j < length l) same lt);
      }

  module _ (number stamp parent : ℕ) (whole : at_step (record { node = number; stamp = stamp; act = Register parent })) where
    abbrev step : Step
    step = record { node = number; stamp = stamp; act = Register parent }

    parent_found : (parent < length table) ⊎ IsSome (keys parent)
    parent_found = is_found nodes table base known keys was.keys_are parent (here step whole).0

    step_registers : (above key : ℕ) (later : ℕ → Option ℕ) → old.table ≡ table → key_found (length table) keys parent ≡ Some above → IsRegistered nodes old new step above key
        → ((node : ℕ) → later node ≡ noted keys number key node) → IsPlayed (begun nodes table old.worker sent) (prefix ++ step ∷ []) new.sent later
    step_registers above key later over found r notes =
        let can = here step whole in
        let above_is : above ≡ key_of (length table) base known parent = same_Some _ _ (sym found ∙ has_its_key nodes table base known keys was.keys_are parent can.0) in
        let l = played nodes (length table) base [] prefix in
        let same_record : record_of_sender old ≡ record { table = table; entries = entries_by old.worker (sent ++ l) } = ap₂ (λ t es. record { table = t; entries = entries_by old.worker es }) over was.emitted in
        let upper = r.registered.0 in
        let upper_id : upper.id ≡ id_at nodes parent = same_Some _ _ (
        ap (option_map (λ d. d.id)) (sym r.registered.1) ∙ ap₂ (λ y k. option_map (λ d. d.id) (desc y k)) same_record above_is
        ∙ finds nodes table unit old.worker parent sent prefix (step ∷ back) planned numbers was.unused whole can.0) in
        let child_is = can.1 in
        let same_node : child_is.0 ≡ r.node = same_Some _ _ (sym child_is.1 ∙ r.is) in
        let id_is : upper.id ++ r.node.segment ∷ [] ≡ id_at nodes number = sym (child_is.2 ∙ ap₂ (λ (i : List SegmentView) (n : Node). i ++ n.segment ∷ []) (sym upper_id) same_node) in
        let count = counted nodes table base [] prefix in
        let split = registrations-append sent l in
        let next : registered_key old.worker (registrations (sent ++ l)) ≡ base + length known = omega (arith, count, split) in
        let key_is : registered_key old.worker (registrations old.sent) ≡ base + length known = ap (λ es. registered_key old.worker (registrations es)) was.emitted ∙ next in
        let event_of_step : registration old stamp (child upper r.node.segment r.node.name r.node.dtype) ≡ step_event nodes (length table) base known step =
        ap₂ (λ k i. event Dynamic k stamp (Described (unlocked i r.node.name r.node.dtype))) key_is id_is
        ∙ sym (ap (λ o. event Dynamic (base + length known) stamp (payload_of_node o (id_at nodes number) (Register parent))) r.is) in
        let longer : known_in [] (prefix ++ step ∷ []) ≡ known ++ number ∷ [] = known_in_more [] prefix step in
        let fresh : key ≡ base + length known = r.registered.4 ∙ key_is in
        let new_key : desc (record { table = table; entries = entries_by old.worker sent }) (base + length known) ≡ None =
        unused_before table old.worker sent l (base + length known) (ap₂ (λ y k. desc y k) (sym same_record) (sym fresh) ∙ r.registered.6) in
        record {
          emitted = ap (λ e. e.sent) r.registered.5 ∙ ap₂ (λ x e. x ++ e ∷ []) was.emitted event_of_step ∙ append_assoc sent l (step_event nodes (length table) base known step ∷ [])
              ∙ sym (ap (λ x. sent ++ x) (played_more nodes table base [] prefix step));
          keys_are = λ node.
              notes node ∙ ap₂ (λ o k. option_or o (if number == node then Some k else None)) (was.keys_are node) fresh
              ∙ sym (key_in_more base known number node) ∙ sym (ap (λ x. key_in base x node) longer);
          unused = λ j lt. last j (subst (λ x. j < length x) longer lt) new_key;
        } where
          last : (j : ℕ) → j < length (known ++ number ∷ []) → desc (record { table = table; entries = entries_by old.worker sent }) (base + length known) ≡ None → desc (record { table = table; entries = entries_by old.worker sent }) (base + j) ≡ None
          last j lt none = ⊎_elim
              (λ (less : j < length known). was.unused j less)
              (λ (past : length known ≤ j). let e : base + j ≡ base + length known = (let n = length-append known (number ∷ []) in omega (arith, n, lt, past)) in ap (λ k. desc (record { table = table; entries = entries_by old.worker sent }) k) e ∙ none)
              (cases_lt j (length known))

  with_act : (s : Step) (parent : ℕ) → s.act ≡ Register parent → s ≡ record { node = s.node; stamp = s.stamp; act = Register parent }
  with_act s parent e = λ i. record { node = s.node; stamp = s.stamp; act = e i }

  pub registered_found : (s : Step) (parent : ℕ) → s.act ≡ Register parent → at_step s → (parent < length table) ⊎ IsSome (keys parent)
  registered_found s parent e whole = parent_found s.node s.stamp parent (subst at_step (with_act s parent e) whole)

  pub registered_plays : (s : Step) (parent above key : ℕ) (later : ℕ → Option ℕ) → s.act ≡ Register parent → at_step s → old.table ≡ table → key_found (length table) keys parent ≡ Some above → IsRegistered nodes old new s above key
      → ((node : ℕ) → later node ≡ noted keys s.node key node) → IsPlayed (begun nodes table old.worker sent) (prefix ++ s ∷ []) new.sent later
  registered_plays s parent above key later e whole over found r notes =
      let is = with_act s parent e in
      subst (λ x. IsPlayed (begun nodes table old.worker sent) (prefix ++ x ∷ []) new.sent later) (sym is)
      (step_registers s.node s.stamp parent (subst at_step is whole) above key later over found (subst (λ x. IsRegistered nodes old new x above key) is r) notes)

-- ---- at a step

-- a sink that took an event is otherwise as it was
pub emitted_same : (nodes : List NumberedNode) (old new : SenderView) (s : Step) (key : ℕ) → IsEmitted nodes old new s key → IsSameSender old new
emitted_same nodes old new s key t = record {
  session = ap (λ e. e.session) t.sent;
  table = ap (λ e. e.table) t.sent;
  worker = ap (λ e. e.worker) t.sent;
}

pub plain_act : (a : Act) → (a ≡ Skip) ⊎ ((a ≡ Start) ⊎ (((i : ℕ) × (a ≡ Report i)) ⊎ (((i : ℕ) × (a ≡ File i)) ⊎ (a ≡ Finish)))) → is_registration a ≡ false
plain_act a (inl e) = ap is_registration e
plain_act a (inr (inl e)) = ap is_registration e
plain_act a (inr (inr (inl (i, e)))) = ap is_registration e
plain_act a (inr (inr (inr (inl (i, e))))) = ap is_registration e
plain_act a (inr (inr (inr (inr e)))) = ap is_registration e

pub cut_at : {A : Type 0} (xs : List A) (i : ℕ) (d : A) → i < length xs → xs ≡ take i xs ++ get_or xs i d ∷ drop (suc i) xs
cut_at [] i d lt = absurd (omega arith)
cut_at (x ∷ xs) zero d lt = refl
cut_at (x ∷ xs) (suc i) d lt = ap (λ l. x ∷ l) (cut_at xs i d (omega arith))

take_suc : {A : Type 0} (xs : List A) (i : ℕ) (d : A) → i < length xs → take (suc i) xs ≡ take i xs ++ get_or xs i d ∷ []
take_suc [] i d lt = absurd (omega arith)
take_suc (x ∷ xs) zero d lt = refl
take_suc (x ∷ xs) (suc i) d lt = ap (λ l. x ∷ l) (take_suc xs i d (omega arith))

pub take_more : {A : Type 0} (xs : List A) (i : ℕ) (d : A) → i < length xs → take (i + 1) xs ≡ take i xs ++ get_or xs i d ∷ []
take_more xs i d lt = ap (λ n. take n xs) (let e : i + 1 ≡ suc i = omega arith in e) ∙ take_suc xs i d lt
