-- The fields of a sender stand for what its pass knows after each call.
use Rattle.std.proofs.Common.{◌≡◌, ◌≢◌, ◌==◌, ℕ, ◌<◌, ◌≤◌, ◌+◌, ◌-◌, Bool, true, false, ◌||◌, ◌&&◌, not, cond, ltb, if◌then◌else◌, List, [], ◌∷◌, ◌++◌, length, sym, refl, ap, ◌∙◌, subst, ⊎_elim, arith, length-append, eq-eqb, ne_eqb, add-one}
use Rattle.std.specs.Prelude.{slice_get, nat_lt, Option, Some, None, option_map, is_some, count_by, Ok}
use Rattle.std.specs.Option.{option_or}
use Rattle.std.proofs.lemmas.Bool.{cases_eq, cases_lt, lt-ltb, le-ltb, le-leb, ltb-true, and_parts, not-true}
use Rattle.std.proofs.lemmas.Option.{slice_get_past}
use Rattle.tk_record.proofs.Registrations.{slice_get_prefix, slice_get_last, desc_in_more}
use Rattle.std.proofs.lemmas.List.{map-append}
use Rattle.std.proofs.lemmas.List.Sums.{sum_by-cons, sum_by-append}
use Rattle.tk_base.proofs.Options.{option_or-none}
use Rattle.atomic_table.specs.Seated.{TableId}
use Rattle.tk_ids.specs.declared.descriptors.Descriptor.{Descriptor}
use Rattle.tk_ids.specs.declared.tables.TheConstants.{MAX_DESCRIPTORS}
use Rattle.tk_ids.specs.IdText.{SegmentView}
use Rattle.tk_events.specs.declared.kinds.Kind.TheVariants.{Dynamic}
use Rattle.tk_events.specs.declared.payloads.Payload.TheVariants.{Described}
use Rattle.tk_events.specs.declared.events.Event.{Event}
use Rattle.tk_events.specs.declared.events.Entry.{Entry}
use Rattle.tk_events.specs.Event.{is_lawful}
use Rattle.tk_events.specs.Registration.{registered_key}
use Rattle.tk_record.specs.Entries.{described, registers, registered, desc, desc_in}
use Rattle.tk_record.specs.Record.{is_next}
use Rattle.tk_queue_session.specs.Limits.{most_workers, most_events}
use Rattle.tk_queue_session.specs.Core.{entry}
use Rattle.tk_queue_session.specs.declared.sender_faults.SendFault.TheVariants as unsent
use Rattle.tk_queue_session.specs.declared.session_rules.PassView.{PassView}
use Rattle.tk_queue_session.specs.Emission.{MayEmit, Emission, is_dynamic, is_plain, registrations, entry_by, entries_by}
use Rattle.tk_queue_session.specs.PassViews.{pass_of_sender, pushed, MayPush}
use Rattle.tk_queue_session.specs.Senders.{SenderView, SenderFields, EmitsLawfully, fresh_senders, knows, refusal_of, id_registered, IsSender, sent_of}
use Rattle.tk_queue_session.specs.Registering.{HasRoom}
use Rattle.tk_queue_session.specs.steps.{IsChildMade}
use Rattle.tk_queue_session.proofs.KnownKeys.{emission_none, emission_more, some_desc, known_after}

abbrev fields : List Descriptor → ℕ → List (List SegmentView) → ℕ → SenderFields
fields table worker ids emitted = record { table = table; worker = worker; ids = ids; emitted = emitted }

none_either : (b : Bool) → cond {A = Option (List SegmentView)} b None None ≡ None
none_either true = refl
none_either false = refl

pub sender_fresh : (v : PassView) (table : List Descriptor) (worker : ℕ) → v ≡ pass_of_sender (length table) worker [] false → 0 < worker → worker ≤ most_workers → IsSender v (fields table worker [] 0)
sender_fresh v table worker e low high =
    subst (λ u. IsSender u (fields table worker [] 0)) (sym e) (record {
      is = refl;
      counted = refl;
      leads = λ key. sym (none_either (nat_lt key (registered_key worker 0)));
      number = refl;
      few_ids = omega arith;
      may = emission_none (length table) worker;
      low = low;
      high = high;
    })

-- the senders so far, and the next
pub fresh_more : (old new : TableId) (table : List Descriptor) (before : ℕ) (senders more : List SenderView) (one : SenderView) → old ≡ new → senders ≡ fresh_senders old table before → more ≡ senders ++ one ∷ []
    → one ≡ record { session = new; table = table; worker = before + 1; sent = [] } → more ≡ fresh_senders new table (before + 1)
fresh_more old new table before senders more one same are is next =
    is ∙ ap (λ l. l ++ one ∷ []) (are ∙ ap (λ s. fresh_senders s table before) same) ∙ ap (λ (x : SenderView). fresh_senders new table before ++ x ∷ []) next ∙ sym (rw add-one refl)

-- the descriptors of a worker's keys, after one event more
desc_after : (worker : ℕ) (es : List Event) (e : Event) (key : ℕ) → desc_in (entries_by worker (es ++ e ∷ [])) key ≡ option_or (desc_in (entries_by worker es) key) (registered key (entry_by worker e))
desc_after worker es e key = ap (λ l. desc_in l key) (map-append (entry_by worker) es (e ∷ [])) ∙ desc_in_more (entries_by worker es) (entry_by worker e) key

abbrev weight : Event → ℕ
weight e = if is_dynamic e then 1 else 0

registrations-more : (es : List Event) (e : Event) → registrations (es ++ e ∷ []) ≡ registrations es + weight e
registrations-more es e = sum_by-append weight es (e ∷ []) ∙ ap (λ n. registrations es + n) (sum_by-cons weight e [] ∙ plus_zero (weight e)) where
  plus_zero : (k : ℕ) → k + 0 ≡ k
  plus_zero k = omega arith

-- after one more event
keeps : (v w : PassView) (table : List Descriptor) (worker emitted : ℕ) (ids later : List (List SegmentView)) (e : Event) → IsSender v (fields table worker ids emitted) → w ≡ pushed v (entry worker e)
    → MayEmit (length table) worker (sent_of v) e → emitted < most_events
    → ((key : ℕ) → option_map (λ (d : Descriptor). d.id) (desc_in (entries_by worker (sent_of v ++ e ∷ [])) key) ≡ id_registered worker later key)
    → length later ≡ length ids + weight e → length later ≤ MAX_DESCRIPTORS → IsSender w (fields table worker later (emitted + 1))
keeps v w table worker emitted ids later e h moved may room leads longer fits =
    let es = sent_of v in
    let now : w ≡ pass_of_sender (length table) worker (es ++ e ∷ []) false = moved ∙ ap (λ u. pushed u (entry worker e)) h.is in
    let counted : emitted + 1 ≡ length (es ++ e ∷ []) = let n = h.counted in omega (arith, length-append es (e ∷ [])) in
    let number : length later ≡ registrations (es ++ e ∷ []) = let n = h.number in let k = registrations-more es e in omega arith in
    let short : length es < most_events = subst (λ k. k < most_events) h.counted room in
    subst (λ u. IsSender u (fields table worker later (emitted + 1))) (sym now)
    (record { is = refl; counted = counted; leads = leads; number = number; few_ids = fits; may = emission_more (length table) worker es e h.may may short; low = h.low; high = h.high })

-- an event that registers nothing leads nowhere
not_registered : (worker : ℕ) (e : Event) (key : ℕ) → is_dynamic e ≡ false → registered key (entry_by worker e) ≡ None
not_registered worker e key plain = ap (λ (b : Bool). if b && (e.key == key) then described e.payload else None) plain

pub sender_sends : (v w : PassView) (table : List Descriptor) (worker emitted : ℕ) (ids : List (List SegmentView)) (e : Event) → IsSender v (fields table worker ids emitted) → w ≡ pushed v (entry worker e)
    → MayEmit (length table) worker (sent_of v) e → emitted < most_events → is_dynamic e ≡ false → IsSender w (fields table worker ids (emitted + 1))
sender_sends v w table worker emitted ids e h moved may room plain =
    keeps v w table worker emitted ids ids e h moved may room
    (λ key. ap (option_map (λ (d : Descriptor). d.id)) (desc_after worker (sent_of v) e key ∙ ap (option_or (desc_in (entries_by worker (sent_of v)) key)) (not_registered worker e key plain) ∙ option_or-none (desc_in (entries_by worker (sent_of v)) key)) ∙ h.leads key)
    (let z : weight e ≡ 0 = ap (λ (b : Bool). cond {A = ℕ} b 1 0) plain in omega arith)
    h.few_ids

no_id : (o : Option Descriptor) → option_map (λ (d : Descriptor). d.id) o ≡ None → o ≡ None
no_id None h = refl
no_id (Some d) h = absurd cc

-- the ids after the first key of a worker
id_at : (worker : ℕ) (ids : List (List SegmentView)) (j key : ℕ) → key ≡ registered_key worker j → id_registered worker ids key ≡ slice_get ids j
id_at worker ids j key is = ⊎_elim
    (λ (lt : key < registered_key worker 0). absurd (omega arith))
    (λ (le : registered_key worker 0 ≤ key). ap (λ (b : Bool). if b then None else slice_get ids (key - registered_key worker 0)) (not_below le) ∙ ap (slice_get ids) (let t : key - registered_key worker 0 ≡ j = omega arith in t))
    (cases_lt key (registered_key worker 0)) where
      not_below : registered_key worker 0 ≤ key → nat_lt key (registered_key worker 0) ≡ false
      not_below le = le-ltb key (registered_key worker 0) le

ids_more : (worker : ℕ) (ids : List (List SegmentView)) (id : List SegmentView) (key : ℕ) → key ≢ registered_key worker (length ids) → id_registered worker (ids ++ id ∷ []) key ≡ id_registered worker ids key
ids_more worker ids id key apart =
    ⊎_elim
    (λ (lt : key < registered_key worker 0). ap (λ (b : Bool). if b then None else slice_get (ids ++ id ∷ []) (key - registered_key worker 0)) (below lt) ∙ sym (ap (λ (b : Bool). if b then None else slice_get ids (key - registered_key worker 0)) (below lt)))
    (λ (le : registered_key worker 0 ≤ key).
    id_at worker (ids ++ id ∷ []) (key - registered_key worker 0) key (omega arith)
    ∙ ⊎_elim (λ (lt : key - registered_key worker 0 < length ids). slice_get_prefix ids (id ∷ []) (key - registered_key worker 0) lt)
    (λ (past : length ids ≤ key - registered_key worker 0).
    slice_get_past (ids ++ id ∷ []) (key - registered_key worker 0) (omega (arith, length-append ids (id ∷ []))) ∙ sym (slice_get_past ids (key - registered_key worker 0) past))
    (cases_lt (key - registered_key worker 0) (length ids))
    ∙ sym (id_at worker ids (key - registered_key worker 0) key (omega arith)))
    (cases_lt key (registered_key worker 0)) where
      below : key < registered_key worker 0 → nat_lt key (registered_key worker 0) ≡ true
      below lt = lt-ltb key (registered_key worker 0) lt

-- how many descriptors the worker registered, by its entries
counted_by : (worker : ℕ) (es : List Event) → count_by (registers worker) (entries_by worker es) ≡ registrations es
counted_by worker [] = refl
counted_by worker (e ∷ es) =
    sum_by-cons (λ (x : Entry). if registers worker x then 1 else 0) (entry_by worker e) (entries_by worker es)
    ∙ ap (λ n. cond {A = ℕ} (registers worker (entry_by worker e)) 1 0 + n) (counted_by worker es)
    ∙ ap (λ (b : Bool). cond {A = ℕ} b 1 0 + registrations es) (ap (λ b. is_dynamic e && b) (eq-eqb worker worker refl) ∙ and_true (is_dynamic e))
    ∙ sym (sum_by-cons weight e es) where
      and_true : (b : Bool) → (b && true) ≡ b
      and_true true = refl
      and_true false = refl

all_true : (a b c d : Bool) → a ≡ true → b ≡ true → c ≡ true → d ≡ true → (((a && b) && c) && d) ≡ true
all_true a b c d p q r t = λ i. ((p i && q i) && r i) && t i

-- the next registration may be emitted
registration_may : (v : PassView) (table : List Descriptor) (worker emitted key stamp : ℕ) (ids : List (List SegmentView)) (d : Descriptor) → IsSender v (fields table worker ids emitted) → is_lawful Dynamic (Described d) ≡ true → key ≡ registered_key worker (length ids)
    → length ids < MAX_DESCRIPTORS → MayEmit (length table) worker (sent_of v) (record { kind = Dynamic; key = key; stamp = stamp; payload = Described d })
registration_may v table worker emitted key stamp ids d h lawful is few =
    let n = count_by (registers worker) (entries_by worker (sent_of v)) in
    let counted : n ≡ length ids = counted_by worker (sent_of v) ∙ sym h.number in
    record {
      lawful = lawful;
      known = all_true (ltb 0 worker) _ (nat_lt n MAX_DESCRIPTORS) (key == registered_key worker n)
          (lt-ltb 0 worker h.low) (le-leb worker most_workers h.high) (lt-ltb n MAX_DESCRIPTORS (subst (λ k. k < MAX_DESCRIPTORS) (sym counted) few))
          (eq-eqb key (registered_key worker n) (is ∙ ap (registered_key worker) (sym counted)));
    }

-- the worker registered nothing yet under its next key
next_unregistered : (v : PassView) (table : List Descriptor) (worker emitted key : ℕ) (ids : List (List SegmentView)) → IsSender v (fields table worker ids emitted) → key ≡ registered_key worker (length ids) → desc_in (entries_by worker (sent_of v)) key ≡ None
next_unregistered v table worker emitted key ids h is =
    no_id (desc_in (entries_by worker (sent_of v)) key) (h.leads key ∙ id_at worker ids (length ids) key is ∙ slice_get_past ids (length ids) (omega arith))

-- the next key by the sender's ids
pub next_key_is : (t : TableId) (v : PassView) (table : List Descriptor) (worker emitted : ℕ) (ids : List (List SegmentView)) (s : SenderView) {key : ℕ} → IsSender v (fields table worker ids emitted)
    → record { session = t; table = table; worker = worker; sent = sent_of v } ≡ s → key ≡ registered_key s.worker (registrations s.sent) → key ≡ registered_key worker (length ids)
next_key_is t v table worker emitted ids s h is at =
    at ∙ ap (λ (y : SenderView). registered_key y.worker (registrations y.sent)) (sym is) ∙ ap (registered_key worker) (sym h.number)

pub sender_registers : (v w : PassView) (table : List Descriptor) (worker emitted key stamp : ℕ) (ids : List (List SegmentView)) (d : Descriptor) → IsSender v (fields table worker ids emitted)
    → is_lawful Dynamic (Described d) ≡ true → key ≡ registered_key worker (length ids) → w ≡ pushed v (entry worker (record { kind = Dynamic; key = key; stamp = stamp; payload = Described d }))
    → emitted < most_events → length ids < MAX_DESCRIPTORS → IsSender w (fields table worker (ids ++ d.id ∷ []) (emitted + 1))
sender_registers v w table worker emitted key stamp ids d h lawful is moved room few =
    let e : Event = record { kind = Dynamic; key = key; stamp = stamp; payload = Described d } in
    let es = sent_of v in
    keeps v w table worker emitted ids (ids ++ d.id ∷ []) e h moved (registration_may v table worker emitted key stamp ids d h lawful is few) room
    (λ k. ⊎_elim
    (λ (same : k ≡ key).
    let past : desc_in (entries_by worker es) k ≡ None = next_unregistered v table worker emitted k ids h (same ∙ is) in
    ap (option_map (λ (x : Descriptor). x.id)) (desc_after worker es e k ∙ ap (λ o. option_or o (registered k (entry_by worker e))) past ∙ ap (λ (b : Bool). if b then Some d else None) (eq-eqb key k (sym same)))
    ∙ sym (id_at worker (ids ++ d.id ∷ []) (length ids) k (same ∙ is) ∙ slice_get_last ids d.id (length ids) refl))
    (λ (apart : k ≢ key).
    ap (option_map (λ (x : Descriptor). x.id)) (desc_after worker es e k ∙ ap (λ (b : Bool). option_or (desc_in (entries_by worker es) k) (if b then Some d else None)) (ne_eqb key k (λ i. apart (sym i))) ∙ option_or-none (desc_in (entries_by worker es) k))
    ∙ h.leads k ∙ sym (ids_more worker ids d.id k (λ i. apart (i ∙ sym is))))
    (cases_eq k key))
    (omega (arith, length-append ids (d.id ∷ [])))
    (omega (arith, length-append ids (d.id ∷ [])))

-- ---- what a sender may push

-- what is not refused is known, plain and within the limit
pub not_refused : (s : SenderView) (e : Event) → refusal_of s e ≡ None → (knows s e.key ≡ true) × (is_plain e ≡ true) × (length s.sent < most_events)
not_refused s e h = by_tests (knows s e.key) (is_plain e) (nat_lt (length s.sent) most_events) refl h where
  by_tests : (k p l : Bool) → nat_lt (length s.sent) most_events ≡ l
      → (if not k then Some (unsent.UnknownNode e) else if not p then Some (unsent.Unlawful e) else if not l then Some (unsent.Limit e) else None) ≡ None → (k ≡ true) × (p ≡ true) × (length s.sent < most_events)
  by_tests true true true at h = (refl, refl, ltb-true (length s.sent) most_events at)
  by_tests true true false at h = absurd cc
  by_tests true false l at h = absurd cc
  by_tests false p l at h = absurd cc

pub plain_may : (table : List Descriptor) (w : ℕ) (es : List Event) (e : Event) → is_plain e ≡ true → is_some (desc (record { table = table; entries = entries_by w es }) e.key) ≡ true → MayEmit (length table) w es e
plain_may table w es e plain known = record {
  lawful = (and_parts (is_lawful e.kind e.payload) (not (is_dynamic e)) plain).0;
  known = ap (λ (b : Bool). if b then is_next (record { table = []; entries = entries_by w es }) (entry_by w e) else (nat_lt e.key (length table) || is_some (desc_in (entries_by w es) e.key)))
      (not-true (is_dynamic e) (and_parts (is_lawful e.kind e.payload) (not (is_dynamic e)) plain).1)
      ∙ sym (some_desc table (entries_by w es) e.key) ∙ known;
}

pub admitted_may : (t : TableId) (v : PassView) (table : List Descriptor) (worker emitted : ℕ) (ids : List (List SegmentView)) (s : SenderView) (a b : Event) → IsSender v (fields table worker ids emitted)
    → record { session = t; table = table; worker = worker; sent = sent_of v } ≡ s → (a ≡ b) × (refusal_of s b ≡ None)
    → MayEmit (length table) worker (sent_of v) a × (emitted < most_events) × (is_dynamic a ≡ false)
admitted_may t v table worker emitted ids s a b h is ok =
    let n = not_refused (record { session = t; table = table; worker = worker; sent = sent_of v }) a (subst (λ (y : SenderView × Event). refusal_of y.0 y.1 ≡ None) (λ i. (sym is i, sym ok.0 i)) ok.1) in
    (plain_may table worker (sent_of v) a n.1 n.0, subst (λ k. k < most_events) (sym h.counted) n.2, not-true (is_dynamic a) (and_parts (is_lawful a.kind a.payload) (not (is_dynamic a)) n.1).1)

pub may_push : (v : PassView) (table : List Descriptor) (worker emitted : ℕ) (ids : List (List SegmentView)) (e : Event) → IsSender v (fields table worker ids emitted) → MayEmit (length table) worker (sent_of v) e → emitted < most_events → MayPush v (entry worker e)
may_push v table worker emitted ids e h may room =
    subst (λ u. MayPush u (entry worker e)) (sym h.is) (refl, (refl, may, subst (λ k. k < most_events) h.counted room))

-- a worker's next registration may be pushed
pub may_push_registration : (v : PassView) (table : List Descriptor) (worker emitted key stamp : ℕ) (ids : List (List SegmentView)) (d : Descriptor) → IsSender v (fields table worker ids emitted)
    → is_lawful Dynamic (Described d) ≡ true → key ≡ registered_key worker (length ids) → emitted < most_events → length ids < MAX_DESCRIPTORS
    → MayPush v (entry worker (record { kind = Dynamic; key = key; stamp = stamp; payload = Described d }))
may_push_registration v table worker emitted key stamp ids d h lawful is room few =
    may_push v table worker emitted ids (record { kind = Dynamic; key = key; stamp = stamp; payload = Described d }) h (registration_may v table worker emitted key stamp ids d h lawful is few) room

-- what `child` says of the sender's fields
pub made_may : (t : TableId) (v : PassView) (table : List Descriptor) (worker emitted : ℕ) (ids : List (List SegmentView)) (s : SenderView) (parent : ℕ) (below : Descriptor → Descriptor) (made : List SegmentView × Descriptor)
    → IsSender v (fields table worker ids emitted) → record { session = t; table = table; worker = worker; sent = sent_of v } ≡ s → IsChildMade s parent below (Ok made)
    → (emitted < most_events) × (length ids < MAX_DESCRIPTORS) × (made.0 ≡ made.1.id)
made_may t v table worker emitted ids s parent below made h is ok =
    let room : HasRoom (record { session = t; table = table; worker = worker; sent = sent_of v }) = subst HasRoom (sym is) ok.2 in
    let few = room.0 in let own_few = room.1 in let n = h.counted in let k = h.number in
    (omega arith, omega arith, ok.4 ∙ sym (ap (λ (d : Descriptor). d.id) ok.5))

-- what the pass of a sender or of a token knows of its events, as a record reads them
pub emits_lawfully : (t : TableId) (v : PassView) (table : List Descriptor) (worker : ℕ) → Emission (length table) worker (sent_of v) → EmitsLawfully (record { session = t; table = table; worker = worker; sent = sent_of v })
emits_lawfully t v table worker m = record {
  each = λ before e after whole.
      let one = m.each before e after whole in
      record { lawful = one.lawful; known = known_after table (entries_by worker before) (entry_by worker e) ∙ one.known };
  few = m.few;
}
