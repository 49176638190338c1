-- What a record says of a key, by the key's events.
use Rattle.std.proofs.Common.{◌≡◌, ◌==◌, ◌&&◌, ◌||◌, not, ℕ, ◌⊎◌, Bool, true, false, cond, if◌then◌else◌, List, [], ◌∷◌, ◌++◌, map, filter}
use Rattle.std.proofs.Common.{Option, Some, None, slice_get, refl, sym, ap, ap₂, ◌∙◌, arith, tests}
use Rattle.std.specs.List.{list_any}
use Rattle.std.specs.Option.{option_or}
use Rattle.tk_engine_lifecycle.proofs.Splits.{unfiltered}
use Rattle.std.proofs.lemmas.List.{map-append}
use Rattle.std.proofs.lemmas.List.Elements.{filter-append}
use Rattle.tk_base.proofs.Options.{option_or_cases}
use Rattle.tk_ids.specs.IdText.{SegmentView}
use Rattle.tk_ids.specs.declared.descriptors.Descriptor.{Descriptor}
use Rattle.tk_events.specs.declared.kinds.Kind.{Kind}
use Rattle.tk_events.specs.declared.kinds.Kind.TheVariants.{Dynamic, Started, Finished}
use Rattle.tk_events.specs.declared.events.Event.{Event}
use Rattle.tk_events.specs.declared.events.Entry.{Entry}
use Rattle.tk_events.specs.Event.{kind_code}
use Rattle.tk_record.specs.Recorded.{Recorded}
use Rattle.tk_record.specs.Entries.{of_kind, desc, desc_in, described, registered}
use Rattle.tk_queue_session.specs.Emission.{entries_by}
use Rattle.tk_query_lifecycle.specs.Lifecycle.{HasId, has_event, is_event, runs}
use Rattle.tk_query_lifecycle.specs.KeepsLifecycle.{is_step, steps_of}
pub use Rattle.tk_query_lifecycle.proofs.FirstEntries.{one_id}
pub use Rattle.tk_query_lifecycle.proofs.IdMapLemmas.{static_desc as from_table}
pub use Rattle.tk_queue_session.proofs.KnownKeys.{desc_in-append}

abbrev pub events : List Entry → List Event
events es = map (λ (e : Entry). e.event) es

abbrev pub is_at : ℕ → Event → Bool
is_at key e = e.key == key

-- the events of a key
abbrev pub hits : ℕ → List Event → List Event
hits key es = filter (is_at key) es

pub hits-append : (key : ℕ) (xs ys : List Event) → hits key (xs ++ ys) ≡ hits key xs ++ hits key ys
hits-append key xs ys = filter-append (is_at key) xs ys

pub events-append : (xs ys : List Entry) → events (xs ++ ys) ≡ events xs ++ events ys
events-append xs ys = map-append (λ (e : Entry). e.event) xs ys

pub events_by : (w : ℕ) (es : List Event) → events (entries_by w es) ≡ es
events_by w [] = refl
events_by w (e ∷ es) = ap (λ l. e ∷ l) (events_by w es)

abbrev pub is_dynamic : Event → Bool
is_dynamic e = kind_code e.kind == kind_code Dynamic

-- ---- the key's descriptor

abbrev described_by : List Event → Option Descriptor
described_by [] = None
described_by (e ∷ es) = option_or (if is_dynamic e then described e.payload else None) (described_by es)

descriptor_step : (dynamic here : Bool) (e : Event) (es : List Event) → is_dynamic e ≡ dynamic
    → option_or (if dynamic && here then described e.payload else None) (described_by es)
    ≡ described_by (cond here (e ∷ es) es)
descriptor_step true true e es is = ap (λ b. option_or (if b then described e.payload else None) (described_by es)) (sym is)
descriptor_step true false e es is = refl
descriptor_step false true e es is = ap (λ b. option_or (if b then described e.payload else None) (described_by es)) (sym is)
descriptor_step false false e es is = refl

desc_is : (es : List Entry) (key : ℕ) → desc_in es key ≡ described_by (hits key (events es))
desc_is [] key = refl
desc_is (e ∷ es) key =
    ap (option_or (registered key e)) (desc_is es key)
    ∙ descriptor_step (is_dynamic e.event) (is_at key e.event) e.event (hits key (events es)) refl

pub same_desc : (xs ys : List Entry) (key : ℕ) → hits key (events xs) ≡ hits key (events ys) → desc_in xs key ≡ desc_in ys key
same_desc xs ys key same = desc_is xs key ∙ ap described_by same ∙ sym (desc_is ys key)

-- ---- whether the key runs

abbrev pub has_kind : Kind → List Event → Bool
has_kind kind es = list_any (λ e. kind_code e.kind == kind_code kind) es

kind_step : (test : Event → Bool) (of here : Bool) (e : Event) (es : List Event) → test e ≡ of
    → ((of && here) || list_any test es) ≡ list_any test (cond here (e ∷ es) es)
kind_step test true true e es is = ap (λ b. b || list_any test es) (sym is)
kind_step test true false e es is = refl
kind_step test false true e es is = ap (λ b. b || list_any test es) (sym is)
kind_step test false false e es is = refl

pub has_event_is : (kind : Kind) (key : ℕ) (es : List Entry) → has_event kind key es ≡ has_kind kind (hits key (events es))
has_event_is kind key [] = refl
has_event_is kind key (e ∷ es) =
    ap (λ b. is_event kind key e || b) (has_event_is kind key es)
    ∙ kind_step (λ x. kind_code x.kind == kind_code kind) (of_kind kind e) (is_at key e.event) e.event (hits key (events es)) refl

pub same_runs : (xs ys : List Entry) (key : ℕ) → hits key (events xs) ≡ hits key (events ys) → runs key xs ≡ runs key ys
same_runs xs ys key same =
    ap₂ (λ a b. a && not b) (has_event_is Started key xs) (has_event_is Finished key xs)
    ∙ ap (λ hs. has_kind Started hs && not (has_kind Finished hs)) same
    ∙ sym (ap₂ (λ a b. a && not b) (has_event_is Started key ys) (has_event_is Finished key ys))

first : (hs : List Event) → (has_kind Started hs && not (has_kind Finished hs)) ≡ true → (e : Event) × (more : List Event) × (hs ≡ e ∷ more)
first [] h = cc
first (e ∷ more) h = (e, more, refl)

-- a key that runs has an event
pub has_run : (es : List Entry) (key : ℕ) → runs key es ≡ true → (e : Event) × (more : List Event) × (hits key (events es) ≡ e ∷ more)
has_run es key h = first (hits key (events es)) (ap₂ (λ a b. a && not b) (sym (has_event_is Started key es)) (sym (has_event_is Finished key es)) ∙ h)

-- ---- the key's steps

abbrev pub kinds : List Event → List Kind
kinds [] = []
kinds (e ∷ es) = if is_step e.kind then e.kind ∷ kinds es else kinds es

steps_step : (step here : Bool) (e : Event) (es : List Event) → is_step e.kind ≡ step
    → (if step && here then e.kind ∷ kinds es else kinds es) ≡ kinds (cond here (e ∷ es) es)
steps_step true true e es is = ap (λ b. if b then e.kind ∷ kinds es else kinds es) (sym is)
steps_step true false e es is = refl
steps_step false true e es is = ap (λ b. if b then e.kind ∷ kinds es else kinds es) (sym is)
steps_step false false e es is = refl

pub steps_is : (key : ℕ) (es : List Entry) → steps_of key es ≡ kinds (hits key (events es))
steps_is key [] = refl
steps_is key (e ∷ es) =
    ap (λ l. if is_step e.event.kind && is_at key e.event then e.event.kind ∷ l else l) (steps_is key es)
    ∙ steps_step (is_step e.event.kind) (is_at key e.event) e.event (hits key (events es)) refl

pub same_steps : (xs ys : List Entry) (key : ℕ) → hits key (events xs) ≡ hits key (events ys) → steps_of key xs ≡ steps_of key ys
same_steps xs ys key same = steps_is key xs ∙ ap kinds same ∙ sym (steps_is key ys)

-- ---- descriptors

-- a descriptor stands in the table, or is registered
pub table_or_entry : (r : Recorded) (key : ℕ) (d : Descriptor) → desc r key ≡ Some d
    → (slice_get r.table key ≡ Some d) ⊎ ((slice_get r.table key ≡ None) × (desc_in r.entries key ≡ Some d))
table_or_entry r key d e = option_or_cases (slice_get r.table key) (desc_in r.entries key) d e

-- the same events of a key, over one table, give it the same id
pub same_id : (xs ys : Recorded) (key : ℕ) (id : List SegmentView) → xs.table ≡ ys.table → hits key (events xs.entries) ≡ hits key (events ys.entries)
    → HasId xs key id → HasId ys key id
same_id xs ys key id table same h = record {
  descriptor = h.descriptor;
  described = ap₂ (λ t e. option_or (slice_get t key) e) (sym table) (sym (same_desc xs.entries ys.entries key same)) ∙ h.described;
  id_is = h.id_is;
}

more_in : {A : Type 0} (a b c : Option A) (x : A) → option_or a b ≡ Some x → option_or a (option_or b c) ≡ Some x
more_in None None c x e = cc
more_in None (Some y) c x e = e
more_in (Some y) b c x e = e

-- what a key is, it stays
pub later_id : (table : List Descriptor) (xs ys : List Entry) (key : ℕ) (id : List SegmentView)
    → HasId (record { table = table; entries = xs }) key id → HasId (record { table = table; entries = xs ++ ys }) key id
later_id table xs ys key id h = record {
  descriptor = h.descriptor;
  described = ap (option_or (slice_get table key)) (desc_in-append xs ys key) ∙ more_in (slice_get table key) (desc_in xs key) (desc_in ys key) h.descriptor h.described;
  id_is = h.id_is;
}

-- a registration of the key
pub record Registration (key : ℕ) (es : List Event) : Type 0 where
  pub prefix : List Event
  pub event : Event
  pub suffix : List Event
  pub is : es ≡ prefix ++ event ∷ suffix
  pub dynamic : is_dynamic event ≡ true
  pub key_is : event.key ≡ key

onto : (x : Entry) (xs : List Entry) (key : ℕ) → Registration key (events xs) → Registration key (events (x ∷ xs))
onto x xs key m = record { prefix = x.event ∷ m.prefix; event = m.event; suffix = m.suffix; is = ap (λ l. x.event ∷ l) m.is; dynamic = m.dynamic; key_is = m.key_is }

registering : (dynamic here : Bool) (x : Entry) (xs : List Entry) (key : ℕ) (d : Descriptor) → is_dynamic x.event ≡ dynamic → is_at key x.event ≡ here
    → option_or (if dynamic && here then described x.event.payload else None) (desc_in xs key) ≡ Some d
    → (desc_in xs key ≡ Some d → Registration key (events xs)) → Registration key (events (x ∷ xs))
registering true true x xs key d dyn at e more = record { prefix = []; event = x.event; suffix = events xs; is = refl; dynamic = dyn; key_is = grind (arith, tests, at) }
registering true false x xs key d dyn at e more = onto x xs key (more e)
registering false true x xs key d dyn at e more = onto x xs key (more e)
registering false false x xs key d dyn at e more = onto x xs key (more e)

-- a key with a descriptor among the entries has a registration there
pub registration_of : (es : List Entry) (key : ℕ) (d : Descriptor) → desc_in es key ≡ Some d → Registration key (events es)
registration_of [] key d e = cc
registration_of (x ∷ xs) key d e = registering (is_dynamic x.event) (is_at key x.event) x xs key d refl refl e (λ h. registration_of xs key d h)

-- the first of the events of a key, in the list
pub hit_in : (key : ℕ) (es : List Event) (e : Event) (more : List Event) → hits key es ≡ e ∷ more → (p : List Event) × (q : List Event) × (es ≡ p ++ e ∷ q) × (e.key ≡ key)
hit_in key es e more h =
    let u = unfiltered (is_at key) es [] e more h in
    (u.prefix, u.suffix, u.is, grind (arith, tests, u.passes))
