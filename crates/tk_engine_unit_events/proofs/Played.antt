-- What a unit has played after one event more.
use Rattle.std.proofs.Common.{◌≡◌, ◌<◌, ◌≤◌, ◌+◌, ◌==◌, ◌&&◌, ◌||◌, ℕ, zero, suc, ◌⊎◌, inl}
use Rattle.std.proofs.Common.{inr, ⊎_elim, true, false, List, [], ◌∷◌, ◌++◌, length}
use Rattle.std.proofs.Common.{None, Some, slice_get, All, refl, sym, ap, ap₂, ◌∙◌, subst}
use Rattle.std.proofs.Common.{append_assoc, append-nil, arith, tests}
use Rattle.std.specs.List.{list_any}
use Rattle.std.specs.Prelude.{Ok}
use Rattle.std.proofs.lemmas.Bool.{or_cases, or_left, or_right}
use Rattle.std.proofs.lemmas.List.{map-append}
use Rattle.std.proofs.lemmas.List.Folds.{list_any-append}
use Rattle.std.proofs.lemmas.List.Elements.{All-nil, All-cons, All-append}
use Rattle.std.proofs.lemmas.Option.{same_Some}
use Rattle.tk_ids.specs.IdText.{SegmentView}
use Rattle.tk_ids.specs.Table.{ids_of}
use Rattle.tk_ids.specs.declared.descriptors.Descriptor.{Descriptor}
use Rattle.tk_events.specs.Event.{kind_code}
use Rattle.tk_events.specs.declared.events.Event.{Event}
use Rattle.tk_events.specs.declared.events.Entry.{Entry}
use Rattle.tk_events.specs.declared.kinds.Kind.{Kind}
use Rattle.tk_events.specs.declared.kinds.Kind.TheVariants.{Dynamic, File, Finished, Reporting}
use Rattle.tk_events.specs.declared.kinds.Kind.TheVariants.{Skipped, Started}
use Rattle.tk_queue_session.specs.Emission.{entries_by, entry_by}
use Rattle.tk_queue_session.specs.Registering.{IsRegisteredAs, RegisterRequest, child_of}
use Rattle.tk_queue_session.specs.Registering.{registration}
use Rattle.tk_queue_session.specs.Senders.{SenderView, sends}
use Rattle.tk_query_lifecycle.specs.KeepsLifecycle.{is_step}
use Rattle.tk_query_lifecycle.specs.Lifecycle.{has_event, is_event}
use Rattle.tk_engine_unit_events.specs.Covered.{IsCovered, IsKeyBelow}
use Rattle.tk_ids.specs.IdText.{IsBelow}
use Rattle.tk_engine_unit_events.specs.UnitSteps.{publishes}
use Rattle.tk_engine_unit_events.specs.Units.{StepsAs, HasPlayed}
use Rattle.tk_query_lifecycle.proofs.IdMapLemmas.{at_id}

-- ---- events that are kept

pub any_kept : (kind : Kind) (key w : ℕ) (l more : List Event)
    → has_event kind key (entries_by w l) ≡ true
    → has_event kind key (entries_by w (l ++ more)) ≡ true
any_kept kind key w l more h =
    ap (list_any (is_event kind key)) (map-append (entry_by w) l more)
    ∙ list_any-append (is_event kind key) (entries_by w l) (entries_by w more)
    ∙ or_left (has_event kind key (entries_by w l)) (has_event kind key (entries_by w more)) h

is_here : (kind : Kind) (key w : ℕ) (e : Event) → e.kind ≡ kind → e.key ≡ key
    → is_event kind key (entry_by w e) ≡ true
is_here kind key w e k same =
    let own : (e.key == key) ≡ true = grind (arith, tests, same) in
    let code : (kind_code e.kind == kind_code kind) ≡ true =
    let c : kind_code e.kind ≡ kind_code kind = ap kind_code k in grind (arith, tests, c) in
    ap₂ (λ a b. a && b) code own

pub event_here : (kind : Kind) (key w : ℕ) (l : List Event) (e : Event) → e.kind ≡ kind
    → e.key ≡ key → has_event kind key (entries_by w (l ++ e ∷ [])) ≡ true
event_here kind key w l e k same =
    ap (list_any (is_event kind key)) (map-append (entry_by w) l (e ∷ []))
    ∙ list_any-append (is_event kind key) (entries_by w l) (entry_by w e ∷ [])
    ∙ or_right (has_event kind key (entries_by w l)) (is_event kind key (entry_by w e) || false)
    (or_left (is_event kind key (entry_by w e)) false (is_here kind key w e k same))

-- what is covered stays so where all starts and skips are kept
pub covered_by : (table : List Descriptor) (a b : List Entry)
    → ((kind : Kind) (key : ℕ) → has_event kind key a ≡ true → has_event kind key b ≡ true)
    → (key : ℕ) → IsCovered table a key → IsCovered table b key
covered_by table a b more key (inl h) =
    inl (⊎_elim
    (λ s. or_left (has_event Started key b) (has_event Skipped key b) (more Started key s))
    (λ s. or_right (has_event Started key b) (has_event Skipped key b) (more Skipped key s))
    (or_cases (has_event Started key a) (has_event Skipped key a) h))
covered_by table a b more key (inr h) = inr
    (record {
      above = h.above;
      skipped = more Skipped h.above h.skipped;
      id = h.id;
      its = h.its;
      below = h.below;
    })

-- ---- one event more

pub published_is_no_step : (k : Kind) → publishes k ≡ true → is_step k ≡ false
published_is_no_step Reporting e = refl
published_is_no_step File e = refl
published_is_no_step Dynamic e = cc
published_is_no_step Skipped e = cc
published_is_no_step Started e = cc
published_is_no_step Finished e = cc

below_or_here : (key next : ℕ) → key < next + 1 → (key < next) ⊎ (key ≡ next)
below_or_here key next h = grind (arith, tests, h)

below_or_after : (key next : ℕ) → (key < next) ⊎ ((key ≡ next) ⊎ (next < key))
below_or_after key next = grind (arith, tests)

module _ (table : List Descriptor) (may_step : Event → Type 0) (first : ℕ)
    (start : SenderView) where
  pub played_none : (now : SenderView) (next : ℕ) → now ≡ start → next ≡ first
      → HasPlayed table may_step first next start now
  played_none now next same low = record {
    events = [];
    sent = ap (λ (s : SenderView). s.sent) same ∙ sym (append-nil start.sent);
    each_holds = All-nil (StepsAs table may_step);
    all_hold = λ key a b. absurd (omega (arith, a, b, low));
  }

  sent_more : (a b l : List Event) (e : Event) → a ≡ b ++ l → a ++ e ∷ [] ≡ b ++ (l ++ e ∷ [])
  sent_more a b l e is = ap (λ x. x ++ e ∷ []) is ∙ append_assoc b l (e ∷ [])

  all_more : (P : Event → Type 0) (l : List Event) (e : Event) → All P l → P e → All P (l ++ e ∷ [])
  all_more P l e h x = All-append P l (e ∷ []) h (All-cons P e [] x (All-nil P))

  pub played_more : (now : SenderView) (next : ℕ) (e : Event)
      → HasPlayed table may_step first next start now → StepsAs table may_step e
      → HasPlayed table may_step first next start (sends now e)
  played_more now next e d ends = record {
    events = d.events ++ e ∷ [];
    sent = sent_more now.sent start.sent d.events e d.sent;
    each_holds = all_more (StepsAs table may_step) d.events e d.each_holds ends;
    all_hold = λ key a b. covered_by table (entries_by start.worker d.events)
        (entries_by start.worker (d.events ++ e ∷ []))
        (λ kind k h. any_kept kind k start.worker d.events (e ∷ []) h) key (d.all_hold key a b);
  }

  no_step : (e : Event) (k : Kind) → e.kind ≡ k → is_step k ≡ false → StepsAs table may_step e
  no_step e k is n low step = let bad : true ≡ false = sym step ∙ ap is_step is ∙ n in cc

  -- an event that is no step
  pub played_plain : (now : SenderView) (next : ℕ) (e : Event) (k : Kind) → e.kind ≡ k
      → is_step k ≡ false → HasPlayed table may_step first next start now
      → HasPlayed table may_step first next start (sends now e)
  played_plain now next e k is n d = played_more now next e d (no_step e k is n)

  -- an event of a dynamic key
  pub played_dynamic : (now : SenderView) (next : ℕ) (e : Event) → length table ≤ e.key
      → HasPlayed table may_step first next start now
      → HasPlayed table may_step first next start (sends now e)
  played_dynamic now next e past d = played_more now next e d
      (λ low step. absurd (omega (arith, low, past)))

  -- the next key starts
  pub played_start : (old now : SenderView) (next after key : ℕ) (e : Event) → now ≡ sends old e
      → after ≡ key + 1 → key ≡ next → e.kind ≡ Started → e.key ≡ key
      → may_step e → HasPlayed table may_step first next start old
      → HasPlayed table may_step first after start now
  unfolding played_more
  played_start old now next after key e sent more same kind own may d =
      let m = played_more old next e d (λ low step. may) in
      subst (λ s. HasPlayed table may_step first after start s) (sym sent) (record {
        events = m.events;
        sent = m.sent;
        each_holds = m.each_holds;
        all_hold = λ k a b. ⊎_elim
            (λ low. m.all_hold k a low)
            (λ here. inl (or_left (has_event Started k (entries_by start.worker m.events))
            (has_event Skipped k (entries_by start.worker m.events))
            (event_here Started k start.worker d.events e kind (own ∙ same ∙ sym here))))
            (below_or_here k next (omega (arith, b, more, same)));
      })

  -- the next key is skipped, and with it those below it
  pub played_skip : (old now : SenderView) (next after key : ℕ) (id : List SegmentView) (e : Event)
      → now ≡ sends old e → key ≡ next → e.kind ≡ Skipped → e.key ≡ key
      → slice_get (ids_of table) key ≡ Some id
      → ((other : ℕ) → key < other → other < after → IsKeyBelow table id other)
      → may_step e → HasPlayed table may_step first next start old
      → HasPlayed table may_step first after start now
  unfolding played_more
  played_skip old now next after key id e sent same kind own its below may d =
      let m = played_more old next e d (λ low step. may) in
      subst (λ s. HasPlayed table may_step first after start s) (sym sent) (record {
        events = m.events;
        sent = m.sent;
        each_holds = m.each_holds;
        all_hold = λ k a b. ⊎_elim
            (λ low. m.all_hold k a low)
            (λ rest. ⊎_elim
            (λ here. inl (or_right (has_event Started k (entries_by start.worker m.events))
            (has_event Skipped k (entries_by start.worker m.events))
            (event_here Skipped k start.worker d.events e kind (own ∙ same ∙ sym here))))
            (λ over. inr (record {
              above = key;
              skipped = event_here Skipped key start.worker d.events e kind own;
              id = id;
              its = its;
              below = below k (omega (arith, over, same)) b;
            }))
            rest)
            (below_or_after k next);
      })

  -- a registration
  pub played_registration : (old now : SenderView) (next key : ℕ) (ask : RegisterRequest)
      → IsRegisteredAs old now ask (Ok key)
      → HasPlayed table may_step first next start old
      → HasPlayed table may_step first next start now
  played_registration old now next key ask a d =
      subst (λ s. HasPlayed table may_step first next start s) (sym a.5)
      (played_plain old next (registration old ask.stamp (child_of ask a.0)) Dynamic refl refl
      d)

-- ---- ids below one another

-- the keys below an id, and one more
pub keys_below_more : (table : List Descriptor) (id : List SegmentView) (key other : ℕ)
    (d : Descriptor)
    → ((k : ℕ) → key < k → k < other → IsKeyBelow table id k) → slice_get table other ≡ Some d
    → IsBelow id d.id
    → (k : ℕ) → key < k → k < other + 1 → IsKeyBelow table id k
keys_below_more table id key other d each is below k a b =
    ⊎_elim
    (λ low. each k a low)
    (λ here. subst (IsKeyBelow table id) (sym here) (d.id, at_id table other d is, below))
    (below_or_here k other b)

-- a key whose id doesn't stand below this one
pub not_below : (table : List Descriptor) (id : List SegmentView) (key : ℕ) (d : Descriptor)
    → slice_get table key ≡ Some d → ¬ IsBelow id d.id
    → ¬ IsKeyBelow table id key
not_below table id key d is other k = other
    (subst (IsBelow id) (same_Some _ _ (sym k.1 ∙ at_id table key d is)) k.2)

no_id : (table : List Descriptor) (key : ℕ) (id : List SegmentView) → slice_get table key ≡ None
    → slice_get (ids_of table) key ≡ Some id → ⊥
no_id [] key id none e = cc
no_id (d ∷ ds) zero id none e = cc
no_id (d ∷ ds) (suc key) id none e = no_id ds key id none e

-- a key without a descriptor
pub none_below : (table : List Descriptor) (id : List SegmentView) (key : ℕ)
    → slice_get table key ≡ None → ¬ IsKeyBelow table id key
none_below table id key none k = no_id table key k.0 none k.1
