-- One event more of a unit of a hierarchical engine.
use Rattle.std.proofs.Common.{◌≡◌, ◌≢◌, ◌<◌, ◌≤◌, ◌+◌, ◌==◌, ◌&&◌, ℕ, ◌⊎◌, inl, inr}
use Rattle.std.proofs.Common.{⊎_elim, Bool, true, false, if◌then◌else◌, List, [], ◌∷◌, ◌++◌, length}
use Rattle.std.proofs.Common.{Option, Some, None, slice_get, refl, sym, ap, ◌∙◌, subst}
use Rattle.std.proofs.Common.{append_assoc, append-nil, arith, tests}
use Rattle.std.specs.Option.{option_or}
use Rattle.std.proofs.lemmas.Bool.{both_ways}
use Rattle.std.proofs.lemmas.List.{map-append}
use Rattle.std.proofs.lemmas.Option.{same_Some}
use Rattle.tk_ids.specs.IdText.{SegmentView, id_text}
use Rattle.tk_ids.specs.declared.descriptors.Descriptor.{Descriptor}
use Rattle.tk_events.specs.declared.events.Event.{Event}
use Rattle.tk_events.specs.declared.events.Entry.{Entry}
use Rattle.tk_events.specs.declared.kinds.Kind.{Kind}
use Rattle.tk_events.specs.declared.kinds.Kind.TheVariants.{Started, Finished, Skipped, Dynamic}
use Rattle.tk_events.specs.Event.{kind_code}
use Rattle.tk_events.specs.declared.payloads.Payload.TheVariants.{Described}
use Rattle.tk_record.specs.Recorded.{Recorded}
use Rattle.tk_record.specs.Entries.{desc, desc_in, described, registered, with_entry}
use Rattle.tk_queue_session.specs.Emission.{entries_by, entry_by}
use Rattle.tk_query_lifecycle.specs.Lifecycle.{HasId}
use Rattle.tk_query_lifecycle.specs.KeepsLifecycle.{is_step, steps_of}
use Rattle.tk_queue_session.specs.Senders.{SenderView, record_of_sender, sends}
use Rattle.tk_ids.specs.Table.{HasId as TableHasId}
use Rattle.tk_engine_lifecycle.specs.Units.{Frame, KeepsAlone, KeepsAround}
use Rattle.tk_engine_lifecycle.proofs.States.{state}
use Rattle.tk_engine_lifecycle.specs.UnderWay.{IsOneOf, IsUnderWay, MayBegin, MayBeRegistered}
use Rattle.tk_engine_lifecycle.specs.UnderWay.{so_far}
use Rattle.tk_engine_unit_events.specs.Emitting.{IsEmitting, Progress, since}
use Rattle.tk_base.proofs.Lists.{get_below}
use Rattle.tk_base.proofs.Options.{option_or-none, option_or-assoc, option_or_cases}
use Rattle.tk_engine_lifecycle.proofs.ByKey.{desc_in-append, later_id, one_id, from_table}
use Rattle.tk_engine_lifecycle.proofs.UnitProgress.{other_steps, so_far_more}
use Rattle.tk_engine_lifecycle.proofs.Steps.{begins, begins_registered, dynamic_key_fresh}
use Rattle.tk_engine_lifecycle.proofs.Steps.{dynamic_no_step, finishes, its_own, law_closes}
use Rattle.tk_engine_lifecycle.proofs.Steps.{no_step_added, or_none, registers_below, reports}
use Rattle.tk_engine_lifecycle.proofs.Steps.{running_id, skips, starts}

-- a unit that begins
pub emitting_none : (f : Frame) (unit : ℕ) (start : SenderView) (none : List ℕ → Bool) (next : ℕ)
    → KeepsAround f → unit < f.units → start.table ≡ f.table
    → ((key : ℕ) (id : List SegmentView) → HasId (so_far f start.worker []) key id
    → TableHasId f.table id)
    → ((key : ℕ) (id : List SegmentView) → HasId (so_far f start.worker []) key id
    → HasId (record_of_sender start) key id)
    → IsEmitting f unit (since start start)
    (record { running = []; registered = none; next = next })
emitting_none f unit start none next around low table ids known = record {
  same = record { session = refl; table = refl; worker = refl };
  table = table;
  events = [];
  sent = sym (append-nil start.sent);
  going = record { around = around; is_unit = low; under_way = begins f unit start.worker };
  known = known;
  ids = λ key id h. inl (ids key id h);
  fresh = λ key a b. refl;
}

-- ---- an event that registers nothing

not_registered : (key w : ℕ) (e : Event) → (kind_code e.kind == kind_code Dynamic) ≡ false
    → registered key (entry_by w e) ≡ None
not_registered key w e plain = ap (λ b. if b && (e.key == key) then described e.payload else None)
    plain

-- no key has another id after it
same_desc_more : (f : Frame) (w : ℕ) (l : List Event) (e : Event) (key : ℕ)
    → (kind_code e.kind == kind_code Dynamic) ≡ false
    → desc (with_entry (so_far f w l) (entry_by w e)) key ≡ desc (so_far f w l) key
same_desc_more f w l e key plain =
    ap (option_or (slice_get f.table key))
    (desc_in-append (so_far f w l).entries (entry_by w e ∷ []) key
    ∙ ap (λ o. option_or (desc_in (so_far f w l).entries key) (option_or o None))
    (not_registered key w e plain)
    ∙ option_or-none (desc_in (so_far f w l).entries key))

earlier_id : (f : Frame) (w : ℕ) (l : List Event) (e : Event) (key : ℕ) (id : List SegmentView)
    → (kind_code e.kind == kind_code Dynamic) ≡ false
    → HasId (so_far f w (l ++ e ∷ [])) key id → HasId (so_far f w l) key id
earlier_id f w l e key id plain h = record {
  descriptor = h.descriptor;
  described = sym (same_desc_more f w l e key plain)
      ∙ ap (λ r. desc r key) (sym (so_far_more f w l e)) ∙ h.described;
  id_is = h.id_is;
}

sender_more : (s : SenderView) (e : Event)
    → record_of_sender (sends s e) ≡ with_entry (record_of_sender s) (entry_by s.worker e)
sender_more s e = ap (λ x. record { table = s.table; entries = x })
    (map-append (entry_by s.worker) s.sent (e ∷ []))

pub sender_later : (s : SenderView) (e : Event) (key : ℕ) (id : List SegmentView)
    → HasId (record_of_sender s) key id → HasId (record_of_sender (sends s e)) key id
sender_later s e key id h = subst (λ r. HasId r key id) (sym (sender_more s e))
    (later_id s.table (entries_by s.worker s.sent) (entry_by s.worker e ∷ []) key id h)

sent_more : (a b l : List Event) (e : Event) → a ≡ b ++ l → a ++ e ∷ [] ≡ b ++ (l ++ e ∷ [])
sent_more a b l e is = ap (λ x. x ++ e ∷ []) is ∙ append_assoc b l (e ∷ [])

emitted_plain : (f : Frame) (unit : ℕ) (start now : SenderView) (p : Progress) (e : Event)
    (running : List ℕ) (next : ℕ) (i : IsEmitting f unit (since start now) p)
    → (kind_code e.kind == kind_code Dynamic) ≡ false
    → IsUnderWay (state f unit start.worker (i.events ++ e ∷ []) running)
    → ((key : ℕ) → next ≤ key → key < length f.table
    → steps_of key (entries_by start.worker (i.events ++ e ∷ [])) ≡ [])
    → IsEmitting f unit (since start (sends now e))
    (record { running = running; registered = p.registered; next = next })
emitted_plain f unit start now p e running next i plain u fresh = record {
  same = record { session = i.same.session; table = i.same.table; worker = i.same.worker };
  table = i.table;
  events = i.events ++ e ∷ [];
  sent = sent_more now.sent start.sent i.events e i.sent;
  going = record { around = i.going.around; is_unit = i.going.is_unit; under_way = u };
  known = λ key id h. sender_later now e key id
      (i.known key id (earlier_id f start.worker i.events e key id plain h));
  ids = λ key id h. i.ids key id (earlier_id f start.worker i.events e key id plain h);
  fresh = fresh;
}

plain_start : (k : Kind) → k ≡ Started → (kind_code k == kind_code Dynamic) ≡ false
plain_start k e = ap (λ x. kind_code x == kind_code Dynamic) e

plain_skip : (k : Kind) → k ≡ Skipped → (kind_code k == kind_code Dynamic) ≡ false
plain_skip k e = ap (λ x. kind_code x == kind_code Dynamic) e

plain_finish : (k : Kind) → k ≡ Finished → (kind_code k == kind_code Dynamic) ≡ false
plain_finish k e = ap (λ x. kind_code x == kind_code Dynamic) e

differs : (key other next : ℕ) → key < next → next ≤ other → key ≢ other
differs key other next a b same = absurd (omega (arith, a, b, same))

-- a static key from the next one on starts
pub emitted_start : (f : Frame) (unit : ℕ) (start now : SenderView) (p : Progress) (e : Event)
    (i : IsEmitting f unit (since start now) p)
    → e.kind ≡ Started → p.next ≤ e.key → e.key < length f.table
    → MayBegin (state f unit start.worker i.events p.running) e.key
    → IsEmitting f unit (since start (sends now e))
    (record { running = e.key ∷ p.running; registered = p.registered; next = e.key + 1 })
emitted_start f unit start now p e i kind low static b =
    emitted_plain f unit start now p e (e.key ∷ p.running) (e.key + 1) i (plain_start e.kind kind)
    (starts f unit start.worker i.events p.running e i.going.around i.going.is_unit
    i.going.under_way kind (i.fresh e.key low static) b)
    (λ key a c. other_steps key start.worker i.events e
    (differs e.key key (e.key + 1) (omega arith) a) ∙ i.fresh key (omega (arith, low, a)) c)

-- or is skipped
pub emitted_skip : (f : Frame) (unit : ℕ) (start now : SenderView) (p : Progress) (e : Event)
    (i : IsEmitting f unit (since start now) p)
    → e.kind ≡ Skipped → p.next ≤ e.key → e.key < length f.table
    → MayBegin (state f unit start.worker i.events p.running) e.key
    → IsEmitting f unit (since start (sends now e))
    (record { running = p.running; registered = p.registered; next = e.key + 1 })
emitted_skip f unit start now p e i kind low static b =
    emitted_plain f unit start now p e p.running (e.key + 1) i (plain_skip e.kind kind)
    (skips f unit start.worker i.events p.running e i.going.around i.going.is_unit i.going.under_way
    kind (i.fresh e.key low static) b)
    (λ key a c. other_steps key start.worker i.events e
    (differs e.key key (e.key + 1) (omega arith) a) ∙ i.fresh key (omega (arith, low, a)) c)

-- a running key reports an entry or publishes a file
pub emitted_report : (f : Frame) (unit : ℕ) (start now : SenderView) (p : Progress) (e : Event)
    (i : IsEmitting f unit (since start now) p)
    → is_step e.kind ≡ false → (kind_code e.kind == kind_code Dynamic) ≡ false
    → IsOneOf e.key p.running
    → IsEmitting f unit (since start (sends now e)) p
emitted_report f unit start now p e i none plain o =
    emitted_plain f unit start now p e p.running p.next i plain
    (reports f unit start.worker i.events p.running e i.going.around i.going.is_unit
    i.going.under_way none
    (λ d. both_ways (kind_code e.kind == kind_code Dynamic) plain
    (ap (λ k. kind_code k == kind_code Dynamic) d)) o)
    (λ key a c. no_step_added key start.worker i.events e none ∙ i.fresh key a c)

nothing_started : [] ≡ Started ∷ [] → ⊥
nothing_started e = cc

-- the innermost running key finishes
pub emitted_finish : (f : Frame) (unit : ℕ) (start now : SenderView) (running : List ℕ)
    (registered : List ℕ → Bool) (next : ℕ) (e : Event)
    (i : IsEmitting f unit (since start now)
    (record { running = e.key ∷ running; registered = registered; next = next }))
    → e.kind ≡ Finished → IsEmitting f unit (since start (sends now e))
    (record { running = running; registered = registered; next = next })
emitted_finish f unit start now running registered next e i kind =
    emitted_plain f unit start now
    (record { running = e.key ∷ running; registered = registered; next = next }) e running next
    i (plain_finish e.kind kind)
    (finishes f unit start.worker i.events running e i.going.around i.going.is_unit
    i.going.under_way kind)
    (λ key a c. other_steps key start.worker i.events e
    (λ same. nothing_started
    (sym (i.fresh key a c) ∙ ap (λ k. steps_of k (entries_by start.worker i.events)) (sym same)
    ∙ i.going.under_way.started e.key (inl refl))) ∙ i.fresh key a c)

-- ---- registrations

none_or_some : {A : Type 0} (a : Option A) → (a ≡ None) ⊎ ((x : A) × (a ≡ Some x))
none_or_some None = inl refl
none_or_some (Some x) = inr (x, refl)

none_is_some : {A : Type 0} (a : Option A) (x : A) → a ≡ None → a ≡ Some x → ⊥
none_is_some None x e h = cc
none_is_some (Some y) x e h = cc

-- what a unit is asked to register, and why it may
pub record Registering (f : Frame) (unit : ℕ) (start now : SenderView) (p : Progress)
    (i : IsEmitting f unit (since start now) p) (e : Event) (d : Descriptor) : Type 0 where
  pub kind : e.kind ≡ Dynamic
  pub payload : e.payload ≡ Described d
  pub free : desc (record_of_sender now) e.key ≡ None
  pub above : ℕ
  pub runs : IsOneOf above p.running
  pub id : List SegmentView
  pub above_is : HasId (record_of_sender now) above id
  pub segment : SegmentView
  pub child : d.id ≡ id ++ segment ∷ []
  pub not_static : ¬ TableHasId f.table d.id
  pub not_registered : p.registered (id_text d.id) ≡ false
  pub owner : f.owner d.id ≡ f.owner id

free_there : (f : Frame) (unit : ℕ) (start now : SenderView) (p : Progress)
    (i : IsEmitting f unit (since start now) p) (key : ℕ) → desc (record_of_sender now) key ≡ None
    → desc (so_far f start.worker i.events) key ≡ None
free_there f unit start now p i key free =
    ⊎_elim (λ n. n)
    (λ s.
    let there = i.known key s.0.id (record { descriptor = s.0; described = s.1; id_is = refl }) in
    absurd (none_is_some (desc (record_of_sender now) key) there.descriptor free there.described))
    (none_or_some (desc (so_far f start.worker i.events) key))

pub may_register : (f : Frame) (unit : ℕ) (start now : SenderView) (p : Progress)
    (i : IsEmitting f unit (since start now) p) (e : Event) (d : Descriptor)
    → Registering f unit start now p i e d
    → MayBeRegistered (state f unit start.worker i.events p.running) e.key d
may_register f unit start now p i e d r =
    let its = running_id f unit start.worker i.events p.running i.going.under_way r.above r.runs in
    let same : its.0 ≡ r.id = one_id (record_of_sender now) r.above its.0 r.id
    (i.known r.above its.0 its.1) r.above_is in
    record {
      free = free_there f unit start now p i e.key r.free;
      new = λ other h. ⊎_elim (λ a. r.not_static a)
          (λ b. both_ways (p.registered (id_text d.id)) r.not_registered b) (i.ids other d.id h);
      belongs = r.owner ∙ ap f.owner (sym same) ∙ its.2;
      above = r.above;
      runs = r.runs;
      id = r.id;
      above_is = subst (HasId (so_far f start.worker i.events) r.above) same its.1;
      segment = r.segment;
      child = r.child;
    }

or_none_some : {A : Type 0} (a : Option A) (x : A) → option_or a None ≡ Some x → a ≡ Some x
or_none_some None x e = cc
or_none_some (Some y) x e = e

desc_more : (table : List Descriptor) (es : List Entry) (x : Entry) (key : ℕ)
    → desc (record { table = table; entries = es ++ x ∷ [] }) key ≡ option_or
    (desc (record { table = table; entries = es }) key) (option_or (registered key x) None)
desc_more table es x key =
    ap (option_or (slice_get table key)) (desc_in-append es (x ∷ []) key)
    ∙ sym (option_or-assoc (slice_get table key) (desc_in es key)
    (option_or (registered key x) None))

registers_only : (key w : ℕ) (e : Event) (d x : Descriptor) (dynamic here : Bool)
    → (kind_code e.kind == kind_code Dynamic) ≡ dynamic → (e.key == key) ≡ here
    → e.payload ≡ Described d
    → (if dynamic && here then described e.payload else None) ≡ Some x → (e.key ≡ key) × (d ≡ x)
registers_only key w e d x true true a b payload h =
    let same : e.key ≡ key = grind (arith, tests, b) in
    let some : Some d ≡ Some x = sym (ap described payload) ∙ h in
    (same, same_Some _ _ some)
registers_only key w e d x true false a b payload h = cc
registers_only key w e d x false here a b payload h = cc

-- an id after a registration: an earlier one, or that of what was registered
id_after : (table : List Descriptor) (es : List Entry) (w : ℕ) (e : Event) (d : Descriptor)
    (key : ℕ) (id : List SegmentView) → e.payload ≡ Described d
    → HasId (record { table = table; entries = es ++ entry_by w e ∷ [] }) key id
    → HasId (record { table = table; entries = es }) key id ⊎ ((e.key ≡ key) × (d.id ≡ id))
id_after table es w e d key id payload h =
    ⊎_elim
    (λ a. inl (record { descriptor = h.descriptor; described = a; id_is = h.id_is }))
    (λ b.
    let it = registers_only key w e d h.descriptor (kind_code e.kind == kind_code Dynamic)
    (e.key == key) refl refl payload
    (or_none_some (registered key (entry_by w e)) h.descriptor b.1) in
    inr (it.0, ap (λ (x : Descriptor). x.id) it.1 ∙ h.id_is))
    (option_or_cases (desc (record { table = table; entries = es }) key)
    (option_or (registered key (entry_by w e)) None) h.descriptor
    (sym (desc_more table es (entry_by w e) key) ∙ h.described))

-- the sink describes what was registered
pub sender_now : (now : SenderView) (e : Event) (d : Descriptor) → e.kind ≡ Dynamic
    → e.payload ≡ Described d → desc (record_of_sender now) e.key ≡ None
    → HasId (record_of_sender (sends now e)) e.key d.id
sender_now now e d kind payload free = subst (λ r. HasId r e.key d.id) (sym (sender_more now e))
    (record {
      descriptor = d;
      described = desc_more now.table (entries_by now.worker now.sent) (entry_by now.worker e) e.key
          ∙ or_none (desc (record_of_sender now) e.key)
          (option_or (registered e.key (entry_by now.worker e)) None) free
          ∙ ap (λ x. option_or x None) (its_own e.key now.worker e d kind payload);
      id_is = refl;
    })

below_or_not : (n k : ℕ) → (n ≤ k) ⊎ (k < n)
below_or_not n k = grind (arith, tests)

free_is_dynamic : (r : Recorded) (key : ℕ) → desc r key ≡ None → length r.table ≤ key
free_is_dynamic r key free =
    ⊎_elim (λ h. h) (λ h. let s = get_below r.table key h in
    absurd (none_is_some (desc r key) s.0 free (from_table r key s.0 s.1)))
    (below_or_not (length r.table) key)

-- what a unit is after a registration, and what it may do with the key
pub record Registered (f : Frame) (unit : ℕ) (start now : SenderView) (p : Progress)
    (key : ℕ) : Type 0 where
  pub emitting : IsEmitting f unit (since start now) p
  pub may_begin : MayBegin (state f unit start.worker emitting.events p.running) key
  pub no_step : steps_of key (entries_by start.worker emitting.events) ≡ []
  pub dynamic : length f.table ≤ key

pub emitted_registration : (f : Frame) (unit : ℕ) (start now : SenderView) (p : Progress)
    (e : Event) (d : Descriptor) (i : IsEmitting f unit (since start now) p)
    → Registering f unit start now p i e d → (noted : List ℕ → Bool)
    → ((text : List ℕ) → p.registered text ≡ true → noted text ≡ true) → noted (id_text d.id) ≡ true
    → Registered f unit start (sends now e)
    (record { running = p.running; registered = noted; next = p.next }) e.key
emitted_registration f unit start now p e d i r noted more its =
    let m = may_register f unit start now p i e d r in
    let none = dynamic_no_step e.kind r.kind in
    let later : (key : ℕ) (id : List SegmentView)
    → HasId (so_far f start.worker (i.events ++ e ∷ [])) key id
    → HasId (so_far f start.worker i.events) key id ⊎ ((e.key ≡ key) × (d.id ≡ id))
    = λ key id h. id_after f.table (so_far f start.worker i.events).entries start.worker e d key id
    r.payload (subst (λ x. HasId x key id) (so_far_more f start.worker i.events e) h) in
    record {
      emitting = record {
        same = record { session = i.same.session; table = i.same.table; worker = i.same.worker };
        table = i.table;
        events = i.events ++ e ∷ [];
        sent = sent_more now.sent start.sent i.events e i.sent;
        going = record {
          around = i.going.around;
          is_unit = i.going.is_unit;
          under_way = registers_below f unit start.worker i.events p.running e d i.going.around
              i.going.is_unit i.going.under_way r.kind r.payload m;
        };
        known = λ key id h. ⊎_elim
            (λ a. sender_later now e key id (i.known key id a))
            (λ b. subst (HasId (record_of_sender (sends now e)) key) b.1
            (subst (λ k. HasId (record_of_sender (sends now e)) k d.id) b.0
            (sender_now now e d r.kind r.payload r.free)))
            (later key id h);
        ids = λ key id h. ⊎_elim
            (λ a. ⊎_elim (λ s. inl s) (λ t. inr (more (id_text id) t)) (i.ids key id a))
            (λ b. inr (ap (λ x. noted (id_text x)) (sym b.1) ∙ its))
            (later key id h);
        fresh = λ key a c. no_step_added key start.worker i.events e none ∙ i.fresh key a c;
      };
      may_begin = begins_registered f unit start.worker i.events p.running e d r.kind r.payload m;
      no_step = dynamic_key_fresh f unit start.worker i.events p.running e i.going.under_way r.kind
          m.free;
      dynamic = free_is_dynamic (so_far f start.worker i.events) e.key m.free;
    }

dynamic_differs : (key other n : ℕ) → n ≤ key → other < n → key ≢ other
dynamic_differs key other n a b same = absurd (omega (arith, a, b, same))

-- what was registered starts
pub registered_start : (f : Frame) (unit : ℕ) (start now : SenderView) (p : Progress) (e : Event)
    → Registered f unit start now p e.key → e.kind ≡ Started
    → IsEmitting f unit (since start (sends now e))
    (record { running = e.key ∷ p.running; registered = p.registered; next = p.next })
registered_start f unit start now p e r kind =
    let i = r.emitting in
    emitted_plain f unit start now p e (e.key ∷ p.running) p.next i (plain_start e.kind kind)
    (starts f unit start.worker i.events p.running e i.going.around i.going.is_unit
    i.going.under_way kind r.no_step r.may_begin)
    (λ key a c. other_steps key start.worker i.events e
    (dynamic_differs e.key key (length f.table) r.dynamic c) ∙ i.fresh key a c)

-- or is skipped
pub registered_skip : (f : Frame) (unit : ℕ) (start now : SenderView) (p : Progress) (e : Event)
    → Registered f unit start now p e.key → e.kind ≡ Skipped
    → IsEmitting f unit (since start (sends now e)) p
registered_skip f unit start now p e r kind =
    let i = r.emitting in
    emitted_plain f unit start now p e p.running p.next i (plain_skip e.kind kind)
    (skips f unit start.worker i.events p.running e i.going.around i.going.is_unit i.going.under_way
    kind r.no_step r.may_begin)
    (λ key a c. other_steps key start.worker i.events e
    (dynamic_differs e.key key (length f.table) r.dynamic c) ∙ i.fresh key a c)

-- a unit of which no key runs has kept the lifecycle
pub emitted_all : (f : Frame) (unit : ℕ) (start now : SenderView) (p : Progress)
    (i : IsEmitting f unit (since start now) p) → p.running ≡ []
    → KeepsAlone f unit start.worker i.events
emitted_all f unit start now p i none = law_closes
    (state f unit start.worker i.events p.running) i.going none

-- a later key may be the next one
pub emitting_later : (f : Frame) (unit : ℕ) (start now : SenderView) (p : Progress)
    (i : IsEmitting f unit (since start now) p) (next : ℕ)
    → p.next ≤ next → IsEmitting f unit (since start now)
    (record { running = p.running; registered = p.registered; next = next })
emitting_later f unit start now p i next more = record {
  same = i.same;
  table = i.table;
  events = i.events;
  sent = i.sent;
  going = i.going;
  known = i.known;
  ids = i.ids;
  fresh = λ key a b. i.fresh key (omega (arith, a, more)) b;
}
