-- What a unit under way may emit next, and what it is then.
use Rattle.std.proofs.Common.{◌≡◌, ◌≢◌, ◌<◌, ◌-◌, ◌==◌, ◌&&◌, ◌||◌, not, ℕ, ◌⊎◌, inl, inr, ⊎_elim, Bool, true, false, if◌then◌else◌, List, [], ◌∷◌, ◌++◌, length, Option, Some, None, slice_get, refl, sym, ap, ap₂, ◌∙◌, subst, append-nil, arith, tests}
use Rattle.std.specs.List.{list_any}
use Rattle.std.specs.Option.{option_or}
use Rattle.std.proofs.lemmas.Option.{none-some}
use Rattle.tk_base.proofs.Lists.{no_split}
use Rattle.tk_base.proofs.Options.{option_or-assoc}
use Rattle.tk_ids.specs.IdText.{SegmentView, parent_of}
use Rattle.tk_ids.specs.declared.descriptors.Descriptor.{Descriptor}
use Rattle.tk_events.specs.declared.events.Event.{Event}
use Rattle.tk_events.specs.declared.events.Entry.{Entry}
use Rattle.tk_events.specs.declared.kinds.Kind.{Kind}
use Rattle.tk_events.specs.declared.kinds.Kind.TheVariants.{Started, Finished, Skipped, Dynamic, Reporting, File}
use Rattle.tk_events.specs.Event.{kind_code}
use Rattle.tk_events.specs.declared.payloads.Payload.TheVariants.{Described}
use Rattle.tk_record.specs.Recorded.{Recorded}
use Rattle.tk_record.specs.Entries.{desc, desc_in, described, registered, with_entry}
use Rattle.tk_queue_session.specs.Emission.{entries_by, entry_by}
use Rattle.tk_query_lifecycle.specs.Lifecycle.{HasId, runs}
use Rattle.tk_query_lifecycle.specs.KeepsLifecycle.{IsWhole, is_step, steps_of}
use Rattle.tk_engine_lifecycle.specs.Units.{Frame, AreOf, KeepsAround}
use Rattle.tk_engine_lifecycle.proofs.States.{begins_again, registered_again, state, under_way_again}
use Rattle.tk_engine_lifecycle.specs.UnderWay.{AreNested, HasRunningParentIn, IsOneOf, IsUnderWay, MayBegin, MayBeRegistered, MayFollow, so_far}
use Rattle.tk_engine_lifecycle.proofs.ByKey.{desc_in-append, events, events_by, has_event_is, has_kind, has_run, hits, hits-append, kinds, later_id, one_id, same_runs}
use Rattle.tk_engine_lifecycle.proofs.SeparateTurns.{Hit, hit_or_none}
use Rattle.tk_engine_lifecycle.proofs.Kept.{hit_before, start_events}
use Rattle.tk_engine_lifecycle.proofs.UnitEnds.{closes, common_not_own, no_own, own_id}
use Rattle.tk_engine_lifecycle.specs.Laws.{Begins, Closes, Finishes, Registers, Reports, Skips, Starts}
use Rattle.tk_engine_lifecycle.proofs.UnitProgress.{each_more, kept_id, nested_more, other_steps, own_more, own_steps, so_far_more, steps_by}
use Rattle.tk_ids.proofs.ParentIds.{parent_of-child}

-- ---- whether a key runs, by its steps

abbrev is_kind : Kind → Kind → Bool
is_kind kind k = kind_code k == kind_code kind

started_step : (k : Kind) (rest : Bool) (ks : List Kind) → rest ≡ list_any (is_kind Started) ks
    → (is_kind Started k || rest) ≡ list_any (is_kind Started) (if is_step k then k ∷ ks else ks)
started_step Dynamic rest ks e = e
started_step Skipped rest ks e = e
started_step Started rest ks e = refl
started_step Finished rest ks e = e
started_step Reporting rest ks e = e
started_step File rest ks e = e

finished_step : (k : Kind) (rest : Bool) (ks : List Kind) → rest ≡ list_any (is_kind Finished) ks
    → (is_kind Finished k || rest) ≡ list_any (is_kind Finished) (if is_step k then k ∷ ks else ks)
finished_step Dynamic rest ks e = e
finished_step Skipped rest ks e = e
finished_step Started rest ks e = e
finished_step Finished rest ks e = refl
finished_step Reporting rest ks e = e
finished_step File rest ks e = e

has_started : (hs : List Event) → has_kind Started hs ≡ list_any (is_kind Started) (kinds hs)
has_started [] = refl
has_started (e ∷ hs) = started_step e.kind (has_kind Started hs) (kinds hs) (has_started hs)

has_finished : (hs : List Event) → has_kind Finished hs ≡ list_any (is_kind Finished) (kinds hs)
has_finished [] = refl
has_finished (e ∷ hs) = finished_step e.kind (has_kind Finished hs) (kinds hs) (has_finished hs)

runs_by_steps : (key : ℕ) (es : List Entry) → kinds (hits key (events es)) ≡ Started ∷ [] → runs key es ≡ true
runs_by_steps key es e =
    ap₂ (λ a b. a && not b)
    (has_event_is Started key es ∙ has_started (hits key (events es)) ∙ ap (list_any (is_kind Started)) e)
    (has_event_is Finished key es ∙ has_finished (hits key (events es)) ∙ ap (list_any (is_kind Finished)) e)

-- ---- the running keys

no_steps : (k : Kind) → [] ≡ k ∷ [] → ⊥
no_steps k e = cc

running_hit : (f : Frame) (unit w : ℕ) (l : List Event) (running : List ℕ) (key : ℕ) → IsUnderWay (state f unit w l running) → IsOneOf key running → Hit key l
running_hit f unit w l running key u o =
    ⊎_elim
    (λ n. absurd (no_steps Started (sym (steps_by key w l ∙ ap kinds n) ∙ u.started key o)))
    (λ h. h)
    (hit_or_none key l)

pub running_id : (f : Frame) (unit w : ℕ) (l : List Event) (running : List ℕ) → IsUnderWay (state f unit w l running) → (key : ℕ) → IsOneOf key running
    → (id : List SegmentView) × HasId (so_far f w l) key id × (f.owner id ≡ unit)
running_id f unit w l running u key o = own_id f unit w l key u.own (running_hit f unit w l running key u o)

so_far_hits : (f : Frame) (w : ℕ) (l : List Event) (key : ℕ) → hits key (events (so_far f w l).entries) ≡ hits key f.before ++ hits key l
so_far_hits f w l key = ap (hits key) (start_events f (entries_by w l) ∙ ap (λ x. f.before ++ x) (events_by w l)) ∙ hits-append key f.before l

-- a running key runs
pub runs_there : (f : Frame) (unit w : ℕ) (l : List Event) (running : List ℕ) (key : ℕ) → KeepsAround f → unit < f.units → IsUnderWay (state f unit w l running)
    → IsOneOf key running → runs key (so_far f w l).entries ≡ true
runs_there f unit w l running key around low u o =
    let none : hits key f.before ≡ [] = ⊎_elim (λ n. n)
    (λ h. absurd (common_not_own f unit w l key around low u.own (hit_before f key h) (running_hit f unit w l running key u o)))
    (hit_or_none key f.before) in
    runs_by_steps key (so_far f w l).entries
    (ap kinds (so_far_hits f w l key ∙ ap (λ x. x ++ hits key l) none) ∙ sym (steps_by key w l) ∙ u.started key o)

-- and so does one that runs before the units
runs_before : (f : Frame) (unit w : ℕ) (l : List Event) (key : ℕ) → KeepsAround f → unit < f.units → AreOf (λ id. f.owner id ≡ unit) (so_far f w l) l
    → runs key (entries_by 0 f.before) ≡ true → runs key (so_far f w l).entries ≡ true
runs_before f unit w l key around low own r =
    let h = has_run (entries_by 0 f.before) key r in
    ⊎_elim
    (λ n. absurd (no_split [] h.0 h.1 (sym (ap (hits key) (events_by 0 f.before) ∙ n) ∙ h.2)))
    (λ b.
    let none = no_own f unit w l key around low own (hit_before f key b) in
    same_runs (so_far f w l).entries (entries_by 0 f.before) key
    (so_far_hits f w l key ∙ ap (λ x. hits key f.before ++ x) none ∙ append-nil (hits key f.before) ∙ ap (hits key) (sym (events_by 0 f.before)))
    ∙ r)
    (hit_or_none key f.before)

-- the parent of a key, where it has a running one, runs
parent_runs : (f : Frame) (unit w : ℕ) (l : List Event) (running : List ℕ) (key : ℕ) → KeepsAround f → unit < f.units → IsUnderWay (state f unit w l running)
    → HasRunningParentIn f (so_far f w l) running key → (id : List SegmentView) → HasId (so_far f w l) key id → 1 < length id
    → (parent : ℕ) × HasId (so_far f w l) parent (parent_of id) × (runs parent (so_far f w l).entries ≡ true)
parent_runs f unit w l running key around low u p id h long =
    let q = p id h long in
    (q.0, q.1, ⊎_elim (λ o. runs_there f unit w l running q.0 around low u o) (λ b. runs_before f unit w l q.0 around low u.own b) q.2)

-- ---- an event of a key that is known

not_dynamic : (k : Kind) → (kind_code k == kind_code Dynamic) ≡ true → k ≢ Dynamic → ⊥
not_dynamic Dynamic e n = n refl
not_dynamic Skipped e n = cc
not_dynamic Started e n = cc
not_dynamic Finished e n = cc
not_dynamic Reporting e n = cc
not_dynamic File e n = cc

follows : (f : Frame) (unit w : ℕ) (l : List Event) (running : List ℕ) (e : Event) → KeepsAround f → unit < f.units → IsUnderWay (state f unit w l running)
    → e.kind ≢ Dynamic → MayBegin (state f unit w l running) e.key → MayFollow (so_far f w l) (entry_by w e)
follows f unit w l running e around low u plain b = record {
  new = λ k. not_dynamic e.kind k.dynamic plain;
  below = λ id h long.
      let same : b.id ≡ id = one_id (with_entry (so_far f w l) (entry_by w e)) e.key b.id id (later_id f.table (so_far f w l).entries (entry_by w e ∷ []) e.key b.id b.its) h in
      parent_runs f unit w l running e.key around low u b.parent id (subst (HasId (so_far f w l) e.key) same b.its) long;
}

-- a running key may have an event
weaker : (f : Frame) (r : Recorded) (running : List ℕ) (key first : ℕ) → HasRunningParentIn f r running key → HasRunningParentIn f r (first ∷ running) key
weaker f r running key first p id h long = let q = p id h long in (q.0, q.1, ⊎_elim (λ o. inl (inr o)) (λ b. inr b) q.2)

nested_at : (f : Frame) (r : Recorded) (running : List ℕ) (key : ℕ) → AreNested f r running → IsOneOf key running → HasRunningParentIn f r running key
nested_at f r [] key n o = absurd o
nested_at f r (first ∷ running) key n (inl same) = subst (λ k. HasRunningParentIn f r (first ∷ running) k) (sym same) (weaker f r running first first n.0)
nested_at f r (first ∷ running) key n (inr o) = weaker f r running key first (nested_at f r running key n.2 o)

running_begins : (f : Frame) (unit w : ℕ) (l : List Event) (running : List ℕ) (key : ℕ) → IsUnderWay (state f unit w l running) → IsOneOf key running → MayBegin (state f unit w l running) key
running_begins f unit w l running key u o =
    let i = running_id f unit w l running u key o in
    record { id = i.0; its = i.1; belongs = i.2; parent = nested_at f (so_far f w l) running key u.nested o }

-- ---- steps

same_key : (a b : ℕ) → (a ≡ b) ⊎ (a ≢ b)
same_key a b = grind (arith, tests)

pub no_step_added : (key w : ℕ) (l : List Event) (e : Event) → is_step e.kind ≡ false → steps_of key (entries_by w (l ++ e ∷ [])) ≡ steps_of key (entries_by w l)
no_step_added key w l e none =
    ⊎_elim
    (λ same. own_steps key w l e same ∙ ap (λ b. steps_of key (entries_by w l) ++ (if b then e.kind ∷ [] else [])) none ∙ append-nil (steps_of key (entries_by w l)))
    (λ differ. other_steps key w l e differ)
    (same_key e.key key)

-- nothing was emitted yet
pub begins : (f : Frame) (unit w : ℕ) → IsUnderWay (state f unit w [] [])
begins f unit w = record {
  each = λ a e b is. absurd (no_split a e b is);
  own = λ k d h. absurd (omega (arith, h));
  nested = tt;
  started = λ key o. absurd o;
  whole = λ key n. tt;
}

-- an event that is no step, of a key that is known
emits_plain : (f : Frame) (unit w : ℕ) (l : List Event) (running : List ℕ) (e : Event) (id : List SegmentView) → IsUnderWay (state f unit w l running) → is_step e.kind ≡ false
    → MayFollow (so_far f w l) (entry_by w e) → HasId (so_far f w (l ++ e ∷ [])) e.key id → f.owner id ≡ unit → IsUnderWay (state f unit w (l ++ e ∷ []) running)
emits_plain f unit w l running e id u none follow its belongs = record {
  each = each_more f w l e u.each follow;
  own = own_more f unit w l e id u.own its belongs;
  nested = nested_more f w l e running (λ k o. let i = running_id f unit w l running u k o in (i.0, i.1)) u.nested;
  started = λ key o. no_step_added key w l e none ∙ u.started key o;
  whole = λ key n. subst IsWhole (sym (no_step_added key w l e none)) (u.whole key n);
}

-- a report entry or a file of a running key
pub reports : (f : Frame) (unit w : ℕ) (l : List Event) (running : List ℕ) (e : Event) → KeepsAround f → unit < f.units → IsUnderWay (state f unit w l running)
    → is_step e.kind ≡ false → e.kind ≢ Dynamic → IsOneOf e.key running → IsUnderWay (state f unit w (l ++ e ∷ []) running)
reports f unit w l running e around low u none plain o =
    let b = running_begins f unit w l running e.key u o in
    emits_plain f unit w l running e b.id u none (follows f unit w l running e around low u plain b) (kept_id f w l e e.key b.id b.its) b.belongs

kind_is_step : (k kind : Kind) → k ≡ kind → is_step kind ≡ true → is_step k ≡ true
kind_is_step k kind same s = ap is_step same ∙ s

started_plain : (k : Kind) → k ≡ Started → k ≢ Dynamic
started_plain Dynamic e d = cc
started_plain Skipped e d = cc
started_plain Started e d = cc
started_plain Finished e d = cc
started_plain Reporting e d = cc
started_plain File e d = cc

skipped_plain : (k : Kind) → k ≡ Skipped → k ≢ Dynamic
skipped_plain Dynamic e d = cc
skipped_plain Skipped e d = cc
skipped_plain Started e d = cc
skipped_plain Finished e d = cc
skipped_plain Reporting e d = cc
skipped_plain File e d = cc

finished_plain : (k : Kind) → k ≡ Finished → k ≢ Dynamic
finished_plain Dynamic e d = cc
finished_plain Skipped e d = cc
finished_plain Started e d = cc
finished_plain Finished e d = cc
finished_plain Reporting e d = cc
finished_plain File e d = cc

-- the steps of the key after a step of it
step_added : (w : ℕ) (l : List Event) (e : Event) (kind : Kind) → e.kind ≡ kind → is_step kind ≡ true
    → steps_of e.key (entries_by w (l ++ e ∷ [])) ≡ steps_of e.key (entries_by w l) ++ kind ∷ []
step_added w l e kind same s =
    own_steps e.key w l e refl
    ∙ ap (λ b. steps_of e.key (entries_by w l) ++ (if b then e.kind ∷ [] else [])) (kind_is_step e.kind kind same s)
    ∙ ap (λ k. steps_of e.key (entries_by w l) ++ k ∷ []) same

fresh_differs : (f : Frame) (unit w : ℕ) (l : List Event) (running : List ℕ) (key other : ℕ) → IsUnderWay (state f unit w l running) → steps_of key (entries_by w l) ≡ [] → IsOneOf other running → key ≢ other
fresh_differs f unit w l running key other u fresh o same =
    no_steps Started (sym fresh ∙ ap (λ k. steps_of k (entries_by w l)) same ∙ u.started other o)

-- the start of a key that had no step
pub starts : (f : Frame) (unit w : ℕ) (l : List Event) (running : List ℕ) (e : Event) → KeepsAround f → unit < f.units → IsUnderWay (state f unit w l running)
    → e.kind ≡ Started → steps_of e.key (entries_by w l) ≡ [] → MayBegin (state f unit w l running) e.key → IsUnderWay (state f unit w (l ++ e ∷ []) (e.key ∷ running))
starts f unit w l running e around low u kind fresh b =
    let follow = follows f unit w l running e around low u (started_plain e.kind kind) b in
    let ids : (k : ℕ) → IsOneOf k running → (id : List SegmentView) × HasId (so_far f w l) k id = λ k o. let i = running_id f unit w l running u k o in (i.0, i.1) in
    let new : ¬ IsOneOf e.key running = λ o. fresh_differs f unit w l running e.key e.key u fresh o refl in
    record {
      each = each_more f w l e u.each follow;
      own = own_more f unit w l e b.id u.own (kept_id f w l e e.key b.id b.its) b.belongs;
      nested = (
        λ id h long.
            let same = one_id (so_far f w (l ++ e ∷ [])) e.key b.id id (kept_id f w l e e.key b.id b.its) h in
            let p = b.parent b.id b.its (subst (λ x. 1 < length x) (sym same) long) in
            (p.0, subst (λ x. HasId (so_far f w (l ++ e ∷ [])) p.0 (parent_of x)) same (kept_id f w l e p.0 (parent_of b.id) p.1), p.2),
        new,
        nested_more f w l e running ids u.nested,
      );
      started = λ key o. ⊎_elim
          (λ same. subst (λ k. steps_of k (entries_by w (l ++ e ∷ [])) ≡ Started ∷ []) (sym same) (step_added w l e Started kind refl ∙ ap (λ x. x ++ Started ∷ []) fresh))
          (λ r. other_steps key w l e (fresh_differs f unit w l running e.key key u fresh r) ∙ u.started key r)
          o;
      whole = λ key n. subst IsWhole (sym (other_steps key w l e (λ same. n (inl (sym same))))) (u.whole key (λ o. n (inr o)));
    }

-- a key that had no step is skipped
pub skips : (f : Frame) (unit w : ℕ) (l : List Event) (running : List ℕ) (e : Event) → KeepsAround f → unit < f.units → IsUnderWay (state f unit w l running)
    → e.kind ≡ Skipped → steps_of e.key (entries_by w l) ≡ [] → MayBegin (state f unit w l running) e.key → IsUnderWay (state f unit w (l ++ e ∷ []) running)
skips f unit w l running e around low u kind fresh b =
    let follow = follows f unit w l running e around low u (skipped_plain e.kind kind) b in
    record {
      each = each_more f w l e u.each follow;
      own = own_more f unit w l e b.id u.own (kept_id f w l e e.key b.id b.its) b.belongs;
      nested = nested_more f w l e running (λ k o. let i = running_id f unit w l running u k o in (i.0, i.1)) u.nested;
      started = λ key o. other_steps key w l e (fresh_differs f unit w l running e.key key u fresh o) ∙ u.started key o;
      whole = λ key n. ⊎_elim
          (λ same. subst (λ k. IsWhole (steps_of k (entries_by w (l ++ e ∷ [])))) same (subst IsWhole (sym (step_added w l e Skipped kind refl ∙ ap (λ x. x ++ Skipped ∷ []) fresh)) tt))
          (λ differ. subst IsWhole (sym (other_steps key w l e differ)) (u.whole key n))
          (same_key e.key key);
    }

-- the innermost running key finishes
pub finishes : (f : Frame) (unit w : ℕ) (l : List Event) (running : List ℕ) (e : Event) → KeepsAround f → unit < f.units → IsUnderWay (state f unit w l (e.key ∷ running))
    → e.kind ≡ Finished → IsUnderWay (state f unit w (l ++ e ∷ []) running)
finishes f unit w l running e around low u kind =
    let b = running_begins f unit w l (e.key ∷ running) e.key u (inl refl) in
    let follow = follows f unit w l (e.key ∷ running) e around low u (finished_plain e.kind kind) b in
    let added = step_added w l e Finished kind refl ∙ ap (λ x. x ++ Finished ∷ []) (u.started e.key (inl refl)) in
    let differs : (key : ℕ) → IsOneOf key running → e.key ≢ key = λ key o same. u.nested.1 (subst (λ k. IsOneOf k running) (sym same) o) in
    record {
      each = each_more f w l e u.each follow;
      own = own_more f unit w l e b.id u.own (kept_id f w l e e.key b.id b.its) b.belongs;
      nested = nested_more f w l e running (λ k o. let i = running_id f unit w l (e.key ∷ running) u k (inr o) in (i.0, i.1)) u.nested.2;
      started = λ key o. other_steps key w l e (differs key o) ∙ u.started key (inr o);
      whole = λ key n. ⊎_elim
          (λ same. subst (λ k. IsWhole (steps_of k (entries_by w (l ++ e ∷ [])))) same (subst IsWhole (sym added) tt))
          (λ differ. subst IsWhole (sym (other_steps key w l e differ)) (u.whole key (λ o. ⊎_elim (λ same. differ (sym same)) (λ r. n r) o)))
          (same_key e.key key);
    }

-- ---- registrations

pub one_long : (s : SegmentView) → length (s ∷ []) ≡ 1
one_long s = omega arith

pub or_none : {A : Type 0} (a b : Option A) → a ≡ None → option_or a b ≡ b
or_none None b e = refl
or_none (Some x) b e = cc

dynamic_code : (k : Kind) → k ≡ Dynamic → (kind_code k == kind_code Dynamic) ≡ true
dynamic_code k e = ap (λ x. kind_code x == kind_code Dynamic) e

pub dynamic_no_step : (k : Kind) → k ≡ Dynamic → is_step k ≡ false
dynamic_no_step k e = ap is_step e

registered_is : (dynamic here : Bool) (d : Descriptor) → dynamic ≡ true → here ≡ true → (if dynamic && here then Some d else None) ≡ Some d
registered_is true true d a b = refl
registered_is true false d a b = cc
registered_is false here d a b = cc

pub its_own : (key w : ℕ) (e : Event) (d : Descriptor) → e.kind ≡ Dynamic → e.payload ≡ Described d → registered e.key (entry_by w e) ≡ Some d
its_own key w e d kind payload =
    let own : (e.key == e.key) ≡ true = grind (arith, tests) in
    ap (λ p. if (kind_code e.kind == kind_code Dynamic) && (e.key == e.key) then described p else None) payload
    ∙ registered_is (kind_code e.kind == kind_code Dynamic) (e.key == e.key) d (dynamic_code e.kind kind) own

-- the descriptor of a key that had none, after its registration
described_now : (f : Frame) (w : ℕ) (l : List Event) (e : Event) (d : Descriptor) → e.kind ≡ Dynamic → e.payload ≡ Described d → desc (so_far f w l) e.key ≡ None
    → HasId (with_entry (so_far f w l) (entry_by w e)) e.key d.id
described_now f w l e d kind payload free = record {
  descriptor = d;
  described =
      ap (option_or (slice_get f.table e.key)) (desc_in-append (so_far f w l).entries (entry_by w e ∷ []) e.key)
      ∙ sym (option_or-assoc (slice_get f.table e.key) (desc_in (so_far f w l).entries e.key)
      (option_or (registered e.key (entry_by w e)) None))
      ∙ or_none (desc (so_far f w l) e.key) (option_or (registered e.key (entry_by w e)) None) free
      ∙ ap (λ x. option_or x None) (its_own e.key w e d kind payload);
  id_is = refl;
}

-- a registration below a running key
pub registers_below : (f : Frame) (unit w : ℕ) (l : List Event) (running : List ℕ) (e : Event) (d : Descriptor) → KeepsAround f → unit < f.units → IsUnderWay (state f unit w l running)
    → e.kind ≡ Dynamic → e.payload ≡ Described d → MayBeRegistered (state f unit w l running) e.key d → IsUnderWay (state f unit w (l ++ e ∷ []) running)
registers_below f unit w l running e d around low u kind payload m =
    let now = described_now f w l e d kind payload m.free in
    let follow : MayFollow (so_far f w l) (entry_by w e) = record {
      new = λ k.
          let same : d.id ≡ k.id = one_id (with_entry (so_far f w l) (entry_by w e)) e.key d.id k.id now k.registered in
          m.new k.earlier (subst (HasId (so_far f w l) k.earlier) (sym same) k.known);
      below = λ id h long.
          let same : d.id ≡ id = one_id (with_entry (so_far f w l) (entry_by w e)) e.key d.id id now h in
          let above : m.id ≡ parent_of id = sym (parent_of-child m.id m.segment) ∙ ap parent_of (sym m.child ∙ same) in
          (m.above, subst (HasId (so_far f w l) m.above) above m.above_is, runs_there f unit w l running m.above around low u m.runs);
    } in
    emits_plain f unit w l running e d.id u (dynamic_no_step e.kind kind) follow (subst (λ r. HasId r e.key d.id) (sym (so_far_more f w l e)) now) m.belongs

-- and what was registered may begin
pub begins_registered : (f : Frame) (unit w : ℕ) (l : List Event) (running : List ℕ) (e : Event) (d : Descriptor)
    → e.kind ≡ Dynamic → e.payload ≡ Described d → MayBeRegistered (state f unit w l running) e.key d → MayBegin (state f unit w (l ++ e ∷ []) running) e.key
begins_registered f unit w l running e d kind payload m =
    let now = subst (λ r. HasId r e.key d.id) (sym (so_far_more f w l e)) (described_now f w l e d kind payload m.free) in
    record {
      id = d.id;
      its = now;
      belongs = m.belongs;
      parent = λ id h long.
          let same : d.id ≡ id = one_id (so_far f w (l ++ e ∷ [])) e.key d.id id now h in
          let above : m.id ≡ parent_of id = sym (parent_of-child m.id m.segment) ∙ ap parent_of (sym m.child ∙ same) in
          (m.above, subst (HasId (so_far f w (l ++ e ∷ [])) m.above) above (kept_id f w l e m.above m.id m.above_is), inl m.runs);
    }

-- a key without a descriptor has no step yet
pub no_steps_yet : (f : Frame) (unit w : ℕ) (l : List Event) (running : List ℕ) (key : ℕ) → IsUnderWay (state f unit w l running) → desc (so_far f w l) key ≡ None → steps_of key (entries_by w l) ≡ []
no_steps_yet f unit w l running key u free =
    ⊎_elim
    (λ n. steps_by key w l ∙ ap kinds n)
    (λ h. let o = own_id f unit w l key u.own h in absurd (none-some o.1.descriptor (sym free ∙ o.1.described)))
    (hit_or_none key l)

pub dynamic_key_fresh : (f : Frame) (unit w : ℕ) (l : List Event) (running : List ℕ) (e : Event) → IsUnderWay (state f unit w l running) → e.kind ≡ Dynamic → desc (so_far f w l) e.key ≡ None
    → steps_of e.key (entries_by w (l ++ e ∷ [])) ≡ []
dynamic_key_fresh f unit w l running e u kind free = no_step_added e.key w l e (dynamic_no_step e.kind kind) ∙ no_steps_yet f unit w l running e.key u free

pub law_begins : Begins
law_begins f unit w = begins f unit w

pub law_starts : Starts
law_starts s e g kind fresh b =
    starts s.frame s.unit s.worker s.events s.running e g.around g.is_unit (under_way_again s g.under_way) kind fresh (begins_again s e.key b)

pub law_skips : Skips
law_skips s e g kind fresh b =
    skips s.frame s.unit s.worker s.events s.running e g.around g.is_unit (under_way_again s g.under_way) kind fresh (begins_again s e.key b)

pub law_reports : Reports
law_reports s e g none plain o = reports s.frame s.unit s.worker s.events s.running e g.around g.is_unit (under_way_again s g.under_way) none plain o

pub law_registers : Registers
law_registers s e d g kind payload m = (
  registers_below s.frame s.unit s.worker s.events s.running e d g.around g.is_unit (under_way_again s g.under_way) kind payload (registered_again s e.key d m),
  dynamic_key_fresh s.frame s.unit s.worker s.events s.running e (under_way_again s g.under_way) kind m.free,
  begins_registered s.frame s.unit s.worker s.events s.running e d kind payload (registered_again s e.key d m),
)

pub law_finishes : Finishes
law_finishes s e outer g runs kind =
    finishes s.frame s.unit s.worker s.events outer e g.around g.is_unit
    (subst (λ (running : List ℕ). IsUnderWay (state s.frame s.unit s.worker s.events running)) runs (under_way_again s g.under_way))
    kind

pub law_closes : Closes
law_closes s g none =
    closes s.frame s.unit s.worker s.events g.around g.is_unit
    (subst (λ (running : List ℕ). IsUnderWay (state s.frame s.unit s.worker s.events running)) none (under_way_again s g.under_way))
