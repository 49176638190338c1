-- Each key has its events in one turn, or before and after all turns.
use Rattle.std.proofs.Common.{◌≡◌, ◌<◌, ◌≤◌, ◌==◌, ◌&&◌, not, ℕ, ◌⊎◌, inl, inr, ⊎_elim, Bool, true, false, cond, List, [], ◌∷◌, ◌++◌}
use Rattle.std.proofs.Common.{length, map, filter, Some, None, slice_get, All, refl, sym, ap, ap₂, ◌∙◌, subst, append_assoc, arith, tests}
use Rattle.std.proofs.lemmas.List.Elements.{All-head, All-tail}
use Rattle.tk_base.proofs.Lists.{get_below}
use Rattle.tk_ids.specs.IdText.{SegmentView}
use Rattle.tk_ids.specs.declared.descriptors.Descriptor.{Descriptor}
use Rattle.tk_events.specs.declared.events.Event.{Event}
use Rattle.tk_events.specs.Event.{is_lawful}
use Rattle.tk_events.specs.declared.events.Entry.{Entry}
use Rattle.tk_record.specs.Recorded.{Recorded}
use Rattle.tk_record.specs.Record.{IsRecord}
use Rattle.tk_record.specs.Mixing.{of_worker}
use Rattle.tk_queue_session.specs.Emission.{entry_by, entries_by}
use Rattle.tk_query_lifecycle.specs.Lifecycle.{HasId}
use Rattle.tk_engine_execute.specs.Engines.{IsStaticEvent}
use Rattle.tk_engine_lifecycle.specs.Units.{Frame, run_alone, KeepsAlone, KeepsAround}
use Rattle.tk_engine_lifecycle.proofs.Splits.{InFirst, InSecond, in_parts, nil_or_cons}
use Rattle.tk_engine_lifecycle.proofs.ByKey.{Registration, events, events-append, events_by, from_table, hit_in, hits, is_dynamic, one_id, registration_of, table_or_entry}
use Rattle.tk_engine_lifecycle.proofs.Turns.{Turn, Each, emitted, is_by}

-- A run of an engine whose units keep the lifecycle.
pub record KeptRun (f : Frame) (entries : List Entry) : Type 0 where
  pub lawful : IsRecord (record { table = f.table; entries = entries })
  pub around : KeepsAround f
  pub mid : List Entry
  pub whole : entries ≡ entries_by 0 f.before ++ mid ++ entries_by 0 f.after
  pub ts : List Turn
  pub each : Each (λ t. (t.unit < f.units) × KeepsAlone f t.unit t.worker t.list) ts
  pub apart : (p : List Turn) (t : Turn) (q : List Turn) (t' : Turn) (s : List Turn) → ts ≡ p ++ t ∷ (q ++ t' ∷ s) → t.unit ≡ t'.unit → ⊥
  pub emits : (v : ℕ) → emitted (filter (is_by v) ts) ≡ of_worker v mid

-- an event of the key
pub record Hit (key : ℕ) (es : List Event) : Type 0 where
  pub prefix : List Event
  pub event : Event
  pub suffix : List Event
  pub is : es ≡ prefix ++ event ∷ suffix
  pub key_is : event.key ≡ key

pub hit_or_none : (key : ℕ) (es : List Event) → (hits key es ≡ []) ⊎ Hit key es
hit_or_none key es = ⊎_elim (λ n. inl n)
    (λ c. inr (let h = hit_in key es c.0 c.1 c.2 in record { prefix = h.0; event = c.0; suffix = h.1; is = h.2; key_is = h.3 }))
    (nil_or_cons (hits key es))

pub all_at : {A : Type 0} (P : A → Type 0) (p : List A) (x : A) (q : List A) → All P (p ++ x ∷ q) → P x
all_at P [] x q a = All-head P x q a
all_at P (y ∷ p) x q a = all_at P p x q (All-tail P y (p ++ x ∷ q) a)

-- the events of a record of a run alone
pub alone_events : (f : Frame) (w : ℕ) (l : List Event) → events (run_alone f w l).entries ≡ f.before ++ l ++ f.after
alone_events f w l =
    events-append (entries_by 0 f.before ++ entries_by w l) (entries_by 0 f.after)
    ∙ ap₂ (λ a b. a ++ b) (events-append (entries_by 0 f.before) (entries_by w l) ∙ ap₂ (λ a b. a ++ b) (events_by 0 f.before) (events_by w l)) (events_by 0 f.after)

-- ---- the key of an event around the turns

pub record IsCommon (f : Frame) (key : ℕ) : Type 0 where
  pub descriptor : Descriptor
  pub described : slice_get f.table key ≡ Some descriptor
  pub belongs : f.units ≤ f.owner descriptor.id

pub common : (f : Frame) (key : ℕ) → KeepsAround f → Hit key (f.before ++ f.after) → IsCommon f key
common f key k h =
    let low = (all_at (IsStaticEvent (length f.table)) h.prefix h.event h.suffix (subst (All (IsStaticEvent (length f.table))) h.is k.static)).0 in
    let of = all_at (λ e. (id : List SegmentView) × HasId (run_alone f 0 []) e.key id × (f.units ≤ f.owner id)) h.prefix h.event h.suffix
    (subst (All (λ e. (id : List SegmentView) × HasId (run_alone f 0 []) e.key id × (f.units ≤ f.owner id))) h.is k.common) in
    let d = get_below f.table h.event.key low in
    let its : HasId (run_alone f 0 []) h.event.key d.0.id = record { descriptor = d.0; described = from_table (run_alone f 0 []) h.event.key d.0 d.1; id_is = refl } in
    let same : of.0 ≡ d.0.id = one_id (run_alone f 0 []) h.event.key of.0 d.0.id of.1 its in
    record {
      descriptor = d.0;
      described = ap (slice_get f.table) (sym h.key_is) ∙ d.1;
      belongs = subst (λ i. f.units ≤ f.owner i) same of.2;
    }

-- ---- the key of an event of a turn

pub record IsOwn (f : Frame) (t : Turn) (key : ℕ) : Type 0 where
  pub id : List SegmentView
  pub its : HasId (run_alone f t.worker t.list) key id
  pub belongs : f.owner id ≡ t.unit

pub own : (f : Frame) (t : Turn) (key : ℕ) → KeepsAlone f t.unit t.worker t.list → Hit key t.list → IsOwn f t key
own f t key k h =
    let of = all_at (λ e. (id : List SegmentView) × HasId (run_alone f t.worker t.list) e.key id × (f.owner id ≡ t.unit)) h.prefix h.event h.suffix
    (subst (All (λ e. (id : List SegmentView) × HasId (run_alone f t.worker t.list) e.key id × (f.owner id ≡ t.unit))) h.is k.own) in
    record { id = of.0; its = subst (λ x. HasId (run_alone f t.worker t.list) x of.0) h.key_is of.1; belongs = of.2 }

table_id : (r : Recorded) (key : ℕ) (id : List SegmentView) (d : Descriptor) → HasId r key id → slice_get r.table key ≡ Some d → d.id ≡ id
table_id r key id d h t =
    let its : HasId r key d.id = record { descriptor = d; described = from_table r key d t; id_is = refl } in
    one_id r key d.id id its h

-- an event around the turns has no key of a turn's event
pub common_apart : (f : Frame) (t : Turn) (key : ℕ) → KeepsAround f → t.unit < f.units → KeepsAlone f t.unit t.worker t.list
    → Hit key (f.before ++ f.after) → Hit key t.list → ⊥
common_apart f t key around low alone h k =
    let c = common f key around h in
    let o = own f t key alone k in
    let same = table_id (run_alone f t.worker t.list) key o.id c.descriptor o.its c.described in
    let owner : f.owner c.descriptor.id ≡ t.unit = ap f.owner same ∙ o.belongs in
    omega (arith, c.belongs, owner, low)

-- ---- registrations are of the turns

not_plain : (d lawful : Bool) → d ≡ true → (lawful && not d) ≡ true → false ≡ true
not_plain true true a b = b
not_plain true false a b = b
not_plain false lawful a b = a

pub plain : (f : Frame) → KeepsAround f → (p : List Event) (e : Event) (q : List Event) → f.before ++ f.after ≡ p ++ e ∷ q → is_dynamic e ≡ true → ⊥
plain f k p e q is dyn =
    let s = (all_at (IsStaticEvent (length f.table)) p e q (subst (All (IsStaticEvent (length f.table))) is k.static)).1 in
    let bad : false ≡ true = not_plain (is_dynamic e) (is_lawful e.kind e.payload) dyn s in cc

pub registration_in : (f : Frame) (l : List Event) (key : ℕ) → KeepsAround f → Registration key (f.before ++ l ++ f.after) → Registration key l
registration_in f l key k r =
    ⊎_elim
    (λ (a : InFirst r.prefix r.event r.suffix (f.before ++ l) f.after).
    ⊎_elim
    (λ (b : InFirst r.prefix r.event a.rest f.before l). absurd (plain f k r.prefix r.event (b.rest ++ f.after) (ap (λ x. x ++ f.after) b.is ∙ append_assoc r.prefix (r.event ∷ b.rest) f.after) r.dynamic))
    (λ (b : InSecond r.prefix r.event a.rest f.before l). record { prefix = b.start; event = r.event; suffix = a.rest; is = b.more; dynamic = r.dynamic; key_is = r.key_is })
    (in_parts r.prefix r.event a.rest f.before l a.is))
    (λ (a : InSecond r.prefix r.event r.suffix (f.before ++ l) f.after).
    absurd (plain f k (f.before ++ a.start) r.event r.suffix (ap (λ x. f.before ++ x) a.more ∙ sym (append_assoc f.before a.start (r.event ∷ r.suffix))) r.dynamic))
    (in_parts r.prefix r.event r.suffix (f.before ++ l) f.after r.is)

-- a key with an id in a run alone, and not in the table, is registered by the unit
pub registered_alone : (f : Frame) (t : Turn) (key : ℕ) (id : List SegmentView) → KeepsAround f → HasId (run_alone f t.worker t.list) key id
    → ((d : Descriptor) × (slice_get f.table key ≡ Some d) × (d.id ≡ id)) ⊎ ((slice_get f.table key ≡ None) × Registration key t.list)
registered_alone f t key id k h =
    ⊎_elim
    (λ s. inl (h.descriptor, s, h.id_is))
    (λ n. inr (n.0, registration_in f t.list key k (subst (Registration key) (alone_events f t.worker t.list) (registration_of (run_alone f t.worker t.list).entries key h.descriptor n.1))))
    (table_or_entry (run_alone f t.worker t.list) key h.descriptor h.described)

-- ---- entries of a worker

pub record AtWorker (w : ℕ) (xs : List Entry) (p : List Event) (e : Event) (q : List Event) : Type 0 where
  pub prefix : List Entry
  pub suffix : List Entry
  pub is : xs ≡ prefix ++ entry_by w e ∷ suffix
  pub before : of_worker w prefix ≡ p
  pub after : of_worker w suffix ≡ q

pub own_first : (w : ℕ) (x : Entry) (xs : List Entry) → (x.worker == w) ≡ true → of_worker w (x ∷ xs) ≡ x.event ∷ of_worker w xs
own_first w x xs is = ap (λ b. map (λ (z : Entry). z.event) (cond b (x ∷ filter (λ z. z.worker == w) xs) (filter (λ z. z.worker == w) xs))) is

pub other_first : (w : ℕ) (x : Entry) (xs : List Entry) → (x.worker == w) ≡ false → of_worker w (x ∷ xs) ≡ of_worker w xs
other_first w x xs is = ap (λ b. map (λ (z : Entry). z.event) (cond b (x ∷ filter (λ z. z.worker == w) xs) (filter (λ z. z.worker == w) xs))) is

at_worker_step : (b : Bool) (w : ℕ) (x : Entry) (xs : List Entry) (p : List Event) (e : Event) (q : List Event) → (x.worker == w) ≡ b
    → ((p' : List Event) → of_worker w xs ≡ p' ++ e ∷ q → AtWorker w xs p' e q)
    → map (λ (y : Entry). y.event) (cond b (x ∷ filter (λ y. y.worker == w) xs) (filter (λ y. y.worker == w) xs)) ≡ p ++ e ∷ q
    → AtWorker w (x ∷ xs) p e q
at_worker_step true w x xs [] e q is more h =
    let worker : x.worker ≡ w = grind (arith, tests, is) in
    let event : x.event ≡ e = cc in
    let rest : of_worker w xs ≡ q = cc in
    record { prefix = []; suffix = xs; is = ap₂ (λ v y. entry_by v y ∷ xs) worker event; before = refl; after = rest }
at_worker_step true w x xs (y ∷ p) e q is more h =
    let event : x.event ≡ y = cc in
    let rest : of_worker w xs ≡ p ++ e ∷ q = cc in
    let m = more p rest in
    record {
      prefix = x ∷ m.prefix;
      suffix = m.suffix;
      is = ap (λ l. x ∷ l) m.is;
      before = own_first w x m.prefix is ∙ ap₂ (λ a b. a ∷ b) event m.before;
      after = m.after;
    }
at_worker_step false w x xs p e q is more h =
    let m = more p h in
    record {
      prefix = x ∷ m.prefix;
      suffix = m.suffix;
      is = ap (λ l. x ∷ l) m.is;
      before = other_first w x m.prefix is ∙ m.before;
      after = m.after;
    }

pub at_worker : (w : ℕ) (xs : List Entry) (p : List Event) (e : Event) (q : List Event) → of_worker w xs ≡ p ++ e ∷ q → AtWorker w xs p e q
at_worker w [] [] e q h = cc
at_worker w [] (y ∷ p) e q h = cc
at_worker w (x ∷ xs) p e q h = at_worker_step (x.worker == w) w x xs p e q refl (λ p' h'. at_worker w xs p' e q h') h
