-- The fields of the receiver stand for what its pass knows after each call.
use Rattle.std.proofs.Common.{◌≡◌, ◌≢◌, ◌==◌, ℕ, zero, suc, ◌<◌, ◌≤◌, Bool, true, false, ◌||◌, ◌&&◌, ltb, if◌then◌else◌, List, [], ◌∷◌, ◌++◌, length, map, set, sym, refl, ap, ◌∙◌, subst, ⊎_elim, arith, length-append, append-nil, eq-eqb, ne_eqb}
use Rattle.std.specs.Prelude.{slice_index_or, filter, nat_lt, is_some, nat_le}
use Rattle.std.proofs.lemmas.Bool.{cases_eq, or_right}
use Rattle.std.proofs.lemmas.List.{map-append, get_or-set_same, get_or-set_other}
use Rattle.std.proofs.lemmas.List.Elements.{filter-append, All-push}
use Rattle.tk_base.proofs.Truth.{or-false}
use Rattle.tk_ids.specs.declared.descriptors.Descriptor.{Descriptor}
use Rattle.tk_ids.specs.declared.tables.TheConstants.{MAX_DESCRIPTORS}
use Rattle.tk_events.specs.declared.kinds.Kind.TheVariants.{Dynamic}
use Rattle.tk_events.specs.declared.events.Event.{Event}
use Rattle.tk_events.specs.declared.events.Entry.{Entry}
use Rattle.tk_events.specs.Registration.{registered_key}
use Rattle.tk_record.specs.Entries.{of_kind, desc_in}
use Rattle.tk_record.specs.Record.{is_next}
use Rattle.tk_record.specs.Mixing.{IsWorkerOf, of_worker}
use Rattle.tk_queue_session.specs.Limits.{most_workers, worker_slots, most_events}
use Rattle.tk_queue_session.specs.declared.items.Item.{Item}
use Rattle.tk_queue_session.specs.declared.items.Item.TheVariants.{Entry as Emitted, End}
use Rattle.tk_queue_session.specs.Core.{worker_of, entries}
use Rattle.tk_queue_session.specs.declared.session_rules.PassView.{PassView}
use Rattle.tk_queue_session.specs.Emission.{entries_by, is_known_after}
use Rattle.tk_queue_session.specs.PassViews.{pass_of_receiver, popped, Pops, MayTake, MayBeEmittedNext}
use Rattle.tk_queue_session.specs.Receivers.{IsReceiver, IsRecordable, MayFollow, taken_of, is_marked, is_mark_of}
use Rattle.tk_queue_session.proofs.KnownKeys.{known_after, own_entries, some_among, registers_among}

pub entries-append : (xs ys : List Item) → entries (xs ++ ys) ≡ entries xs ++ entries ys
entries-append [] ys = refl
entries-append (Emitted e ∷ xs) ys = ap (λ l. e ∷ l) (entries-append xs ys)
entries-append (End w ∷ xs) ys = entries-append xs ys

pub of_worker-append : (w : ℕ) (xs ys : List Entry) → of_worker w (xs ++ ys) ≡ of_worker w xs ++ of_worker w ys
of_worker-append w xs ys = ap (map (λ (e : Entry). e.event)) (filter-append (λ e. e.worker == w) xs ys) ∙ map-append (λ (e : Entry). e.event) (filter (λ e. e.worker == w) xs) (filter (λ e. e.worker == w) ys)

pub few_more : (taken : List Entry) (e : Entry) → ((w : ℕ) → length (of_worker w taken) ≤ most_events) → length (of_worker e.worker taken) < most_events → (w : ℕ) → length (of_worker w (taken ++ e ∷ [])) ≤ most_events
few_more taken e few room w =
    subst (λ l. length l ≤ most_events) (sym (of_worker-append w taken (e ∷ [])))
    (⊎_elim
    (λ (same : e.worker ≡ w).
    let one : of_worker w (e ∷ []) ≡ e.event ∷ [] = ap (λ (b : Bool). map (λ (a : Entry). a.event) (if b then e ∷ [] else [])) (eq-eqb e.worker w same) in
    subst (λ l. length (of_worker w taken ++ l) ≤ most_events) (sym one) (longer (of_worker w taken) e.event (subst (λ v. length (of_worker v taken) < most_events) same room)))
    (λ (apart : e.worker ≢ w).
    let none : of_worker w (e ∷ []) ≡ [] = ap (λ (b : Bool). map (λ (a : Entry). a.event) (if b then e ∷ [] else [])) (ne_eqb e.worker w apart) in
    subst (λ l. length (of_worker w taken ++ l) ≤ most_events) (sym none) (subst (λ l. length l ≤ most_events) (sym (append-nil (of_worker w taken))) (few w)))
    (cases_eq e.worker w)) where
      longer : (es : List Event) (a : Event) → length es < most_events → length (es ++ a ∷ []) ≤ most_events
      longer es a lt = omega (arith, length-append es (a ∷ []))

marked-append : (w : ℕ) (xs ys : List Item) → is_marked w (xs ++ ys) ≡ (is_marked w xs || is_marked w ys)
marked-append w [] ys = refl
marked-append w (x ∷ xs) ys = elim (is_mark_of w x) as (λ b. (b || is_marked w (xs ++ ys)) ≡ ((b || is_marked w xs) || is_marked w ys)) [ true ↦ refl | false ↦ marked-append w xs ys ]

taken_now : (v w : PassView) (table : List Descriptor) (workers : ℕ) (marked : List Bool) (x : Item) → IsReceiver v table workers marked → Pops v x w → w ≡ pass_of_receiver (length table) workers (taken_of v ++ x ∷ []) []
taken_now v w table workers marked x h p = p.0 ∙ ap (λ u. popped u x) h.is

pub follows_now : (v w : PassView) (table : List Descriptor) (workers : ℕ) (marked : List Bool) (x : Item) → IsReceiver v table workers marked → Pops v x w → IsWorkerOf workers (worker_of x) × MayBeEmittedNext (length table) (taken_of v) x × (is_marked (worker_of x) (taken_of v) ≡ false)
follows_now v w table workers marked x h p = subst (λ u. MayTake u x) h.is p.1

pub takes_entry : (v w : PassView) (table : List Descriptor) (workers : ℕ) (marked : List Bool) (e : Entry) → IsReceiver v table workers marked → Pops v (Emitted e) w → IsReceiver w table workers marked
takes_entry v w table workers marked e h p =
    let f = follows_now v w table workers marked (Emitted e) h p in
    let taken = entries (taken_of v) in
    let more : IsRecordable workers (taken ++ e ∷ []) = record {
      limit = h.recordable.limit;
      workers = All-push (λ x. IsWorkerOf workers x.worker) taken e h.recordable.workers f.0;
      few = few_more taken e h.recordable.few f.1.1;
    } in
    subst (λ u. IsReceiver u table workers marked) (sym (taken_now v w table workers marked (Emitted e) h p))
    (record {
      is = refl;
      recordable = subst (IsRecordable workers) (sym (entries-append (taken_of v) (Emitted e ∷ []))) more;
      long = h.long;
      marks = λ u lt. h.marks u lt ∙ sym (marked-append u (taken_of v) (Emitted e ∷ []) ∙ or-false (is_marked u (taken_of v)));
    })

pub takes_mark : (v w : PassView) (table : List Descriptor) (workers : ℕ) (marked : List Bool) (k : ℕ) → IsReceiver v table workers marked → Pops v (End k) w → (k < worker_slots) × IsReceiver w table workers (set marked k true)
takes_mark v w table workers marked k h p =
    let f = follows_now v w table workers marked (End k) h p in
    let within : k < worker_slots = let is = f.0 in let high : k ≤ workers = is.1 in let few = h.recordable.limit in omega arith in (
      within,
      subst (λ u. IsReceiver u table workers (set marked k true)) (sym (taken_now v w table workers marked (End k) h p))
          (record {
            is = refl;
            recordable = subst (IsRecordable workers) (sym (entries-append (taken_of v) (End k ∷ []) ∙ append-nil (entries (taken_of v)))) h.recordable;
            long = ap (λ (n : ℕ). n) (length_set marked k) ∙ h.long;
            marks = λ u lt. ⊎_elim
                (λ (same : u ≡ k).
                ap (λ j. slice_index_or (set marked k true) j false) same ∙ get_or-set_same marked k true false (subst (λ n. k < n) (sym h.long) within)
                ∙ sym (marked-append u (taken_of v) (End k ∷ []) ∙ ap (λ (b : Bool). is_marked u (taken_of v) || (b || false)) (eq-eqb k u (sym same)) ∙ or_right (is_marked u (taken_of v)) true refl))
                (λ (apart : u ≢ k).
                get_or-set_other marked k u true false apart ∙ h.marks u lt
                ∙ sym (marked-append u (taken_of v) (End k ∷ []) ∙ ap (λ (b : Bool). is_marked u (taken_of v) || (b || false)) (ne_eqb k u (λ e. apart (sym e))) ∙ or-false (is_marked u (taken_of v))))
                (cases_eq u k);
          }),
    ) where
      length_set : (l : List Bool) (i : ℕ) → length (set l i true) ≡ length l
      length_set [] i = refl
      length_set (b ∷ l) zero = refl
      length_set (b ∷ l) (suc i) = ap suc (length_set l i)

-- what is known after a worker's own entries is known after all
pub known_among : (n : ℕ) (es : List Entry) (e : Entry) → is_known_after n (entries_by e.worker (of_worker e.worker es)) e ≡ true → is_known_after n es e ≡ true
known_among n es e h =
    by_kind (of_kind Dynamic e) (subst (λ l. is_known_after n l e ≡ true) (own_entries e.worker es) h)
  where
    mine : List Entry
    mine = filter (λ x. x.worker == e.worker) es

    or_mono : (a b c : Bool) → (b ≡ true → c ≡ true) → (a || b) ≡ true → (a || c) ≡ true
    or_mono true b c f h = refl
    or_mono false b c f h = f h

    by_kind : (k : Bool) → (if k then is_next (record { table = []; entries = mine }) e else (nat_lt e.event.key n || is_some (desc_in mine e.event.key))) ≡ true
        → (if k then is_next (record { table = []; entries = es }) e else (nat_lt e.event.key n || is_some (desc_in es e.event.key))) ≡ true
    by_kind true h = subst (λ c. ((ltb 0 e.worker && nat_le e.worker most_workers && nat_lt c MAX_DESCRIPTORS) && (e.event.key == registered_key e.worker c)) ≡ true) (registers_among e.worker es) h
    by_kind false h = or_mono (nat_lt e.event.key n) (is_some (desc_in mine e.event.key)) (is_some (desc_in es e.event.key)) (some_among (λ x. x.worker == e.worker) es e.event.key) h

-- what the rule says of an entry that is taken, by the record of those taken before
pub follows_recorded : (table : List Descriptor) (taken : List Item) (e : Entry) → MayBeEmittedNext (length table) taken (Emitted e) → MayFollow table (entries taken) e
follows_recorded table taken e f = record {
  lawful = f.0.lawful;
  known = known_after table (entries taken) e ∙ known_among (length table) (entries taken) e f.0.known;
  room = f.1;
}
