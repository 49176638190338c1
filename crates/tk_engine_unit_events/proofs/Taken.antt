-- Which children a unit may not register, and why it refuses one.
use Rattle.std.proofs.Common.{◌≡◌, ⊎_elim, inl, inr, ◌||◌, ℕ, true, false, List, [], ◌∷◌, ◌++◌}
use Rattle.std.proofs.Common.{refl, sym, ap, ◌∙◌, subst, append_assoc}
use Rattle.std.specs.Prelude.{◌⊎◌, Ok, Err, IfSome, Option, None, Some, bytes_eq, is_some}
use Rattle.std.specs.Prelude.{slice_get}
use Rattle.std.proofs.lemmas.Bool.{or_cases}
use Rattle.std.proofs.lemmas.Slice.Eq.{bytes_eq-Decides}
use Rattle.tk_ids.proofs.ReadingLemmas.{text_is_unique}
use Rattle.tk_ids.specs.IdText.{FitsLimits, IsId, SegmentView, id_text}
use Rattle.tk_ids.specs.Table.{HasId as TableHasId, ids_of}
use Rattle.tk_ids.specs.declared.descriptors.Descriptor.{Descriptor}
use Rattle.tk_events.specs.declared.events.Event.{Event}
use Rattle.tk_queue_session.specs.Registering.{IsRegisteredAs, RegisterRequest, child_of}
use Rattle.tk_queue_session.specs.Registering.{registration}
use Rattle.tk_queue_session.specs.Senders.{SenderView, record_of_sender, sends}
use Rattle.tk_queue_session.specs.declared.sender_faults.RegisterFault.{RegisterFault}
use Rattle.tk_queue_session.specs.declared.sender_faults.SendFault.{SendFault}
use Rattle.tk_engine_execute.specs.declared.engines.TheConstants.{OUT_OF_ORDER}
use Rattle.tk_engine_execute.specs.declared.engines.UnitFault.{UnitFault}
use Rattle.tk_engine_execute.specs.declared.engines.UnitFault.TheVariants.{Memory, Own, Sink, Text}
use Rattle.tk_engine_execute.specs.declared.sinks.SinkFault.TheVariants.{Register, Send}
use Rattle.tk_query_lifecycle.specs.Lifecycle.{HasId}
use Rattle.tk_engine_lifecycle.specs.Units.{Frame}
use Rattle.tk_engine_lifecycle.specs.UnderWay.{so_far}
use Rattle.tk_engine_lifecycle.proofs.ByKey.{one_id}
use Rattle.tk_engine_lifecycle.proofs.UnitProgress.{kept_id}
use Rattle.tk_engine_lifecycle.proofs.Splits.{head_is}
use Rattle.tk_engine_unit_events.specs.Events.{IsRunning}
use Rattle.tk_engine_unit_events.specs.RegisteredIds.{is_registered}
use Rattle.tk_engine_unit_events.specs.Running.{keys_of, with_id, with_ids}
use Rattle.tk_engine_unit_events.specs.Shapes.{ShapeView, frame}
use Rattle.tk_engine_unit_events.specs.Standing.{AreNoted, BegunUnit, IsKnown, IsNotedText}
use Rattle.tk_engine_unit_events.specs.Taken.{IsTaken}
use Rattle.tk_engine_unit_events.specs.Refusals.{ChildStart, HasInnermost, HasRefused, IsChildCause}
use Rattle.tk_engine_unit_events.specs.Refusals.{IsEmitCause, IsInnermostKey}
use Rattle.tk_engine_unit_events.specs.UnitSteps.{UnitView, child_request}
use Rattle.tk_engine_unit_events.specs.steps.{IsNoText, IsNotedChild, IsOwnCause, IsSinkCause}
use Rattle.tk_engine_unit_events.specs.declared.running_keys.RunningKey.{RunningKey}
use Rattle.tk_engine_unit_events.proofs.Children.{HasRegistered, first_id}
use Rattle.tk_engine_unit_events.proofs.UnitStates.{cancel, static_id}

-- ---- the ids that are noted

text_after : (unit : BegunUnit) (now : SenderView) (e : Event) (text : List ℕ)
    → IsNotedText unit now text → IsNotedText unit (sends now e) text
text_after unit now e text n = record {
  id = n.id;
  is_id = n.is_id;
  its = n.its;
  known = (
    n.known.0 ++ e ∷ [],
    ap (λ l. l ++ e ∷ []) n.known.1 ∙ append_assoc unit.start.sent n.known.0 (e ∷ []),
    n.known.2,
    kept_id unit.frame unit.start.worker n.known.0 e n.known.2 (n.id) n.known.3,
  );
}

-- after an event
pub noted_after : (unit : BegunUnit) (old now : SenderView) (registered : List (List ℕ)) (e : Event)
    → now ≡ sends old e → AreNoted unit old registered → AreNoted unit now registered
noted_after unit old now registered e sent all = subst (λ s. AreNoted unit s registered) (sym sent)
    (λ text h. text_after unit old e text (all text h))

pub noted_same : (unit : BegunUnit) (old now : SenderView) (registered noted : List (List ℕ))
    → now ≡ old → noted ≡ registered
    → AreNoted unit old registered → AreNoted unit now noted
noted_same unit old now registered noted sent same all = subst (λ s. AreNoted unit s noted)
    (sym sent) (subst (AreNoted unit old) (sym same) all)

pub noted_none : (unit : BegunUnit) (now : SenderView) (registered : List (List ℕ))
    → registered ≡ [] → AreNoted unit now registered
noted_none unit now registered none text h =
    let bad : is_registered [] text ≡ true = subst (λ l. is_registered l text ≡ true) none h in cc

-- after a registration
pub noted_registration : (unit : BegunUnit) (old now : SenderView) (running : List RunningKey)
    (registered noted : List (List ℕ)) (next key : ℕ) (id : List SegmentView)
    (ask : RegisterRequest)
    → IsRegisteredAs old now ask (Ok key)
    → HasRegistered unit.frame unit.keys.unit unit.start now
    (with_ids unit.frame.table running) noted next key id → IsId id
    → ((text : List ℕ) → is_registered noted text ≡
    (bytes_eq text (id_text id) || is_registered registered text))
    → AreNoted unit old registered → AreNoted unit now noted
noted_registration unit old now running registered noted next key id ask r h is all were text e =
    ⊎_elim
    (λ here. record {
      id = id;
      is_id = is;
      its = sym ((bytes_eq-Decides text (id_text id)).0 here);
      known = (h.registration.emitting.events, h.registration.emitting.sent, key, h.there);
    })
    (λ there. subst (λ s. IsNotedText unit s text) (sym r.5)
    (text_after unit old (registration old ask.stamp (child_of ask r.0)) text
    (were text there)))
    (or_cases (bytes_eq text (id_text id)) (is_registered registered text) (sym (all text) ∙ e))

-- ---- a child that is asked for

-- its id is that of a static descriptor, or one of those noted
pub noted_child : (table : List Descriptor) (registered : List (List ℕ))
    (above whole id : List SegmentView) (segment : SegmentView) → above ≡ whole
    → (id ≡ above ++ segment ∷ []) × FitsLimits (above ++ segment ∷ []) → IsId above → IsId id
    → TableHasId table id ⊎ (is_registered registered (id_text id) ≡ true)
    → IsNotedChild table registered whole segment
noted_child table registered above whole id segment same made is_id child_is_id known =
    subst (λ a. IsNotedChild table registered a segment) same (record {
      is_id = is_id;
      child_is_id = subst IsId made.0 child_is_id;
      fits = made.1;
      noted = subst (λ i. TableHasId table i ⊎ (is_registered registered (id_text i) ≡ true)) made.0
          known;
    })

-- a key was found
pub found_is : (table other : List Descriptor) (id : List SegmentView) (r : Option ℕ)
    → is_some r ≡ true → IfSome r (λ key. slice_get (ids_of table) key ≡ Some id) → table ≡ other
    → TableHasId other id
found_is table other id None some found same = cc
found_is table other id (Some key) some found same = subst (λ t. TableHasId t id) same (key, found)

same_register : {a b : RegisterFault} → Register a ≡ Register b → a ≡ b
same_register e = cc

send_is_other : {a : SendFault} {b : RegisterFault} → Send a ≡ Register b → ⊥
send_is_other e = cc

no_innermost : (key : ℕ) (outer : List ℕ) → [] ≡ key ∷ outer → ⊥
no_innermost key outer e = cc

-- a fault with which the child wasn't registered
abbrev pub LeavesSame : UnitFault → Type 0
LeavesSame (Own number) = Unit {0}
LeavesSame Memory = Unit {0}
LeavesSame (Sink (Register why)) = Unit {0}
LeavesSame (Sink (Send why)) = ⊥
LeavesSame (Text text) = ⊥

-- the unit is then as it was
pub left_same : (old new : UnitView) (c : ChildStart) (why : UnitFault)
    → LeavesSame why → new ≡ old → HasRefused old new c why
left_same old new c (Own number) leaves same = same
left_same old new c Memory leaves same = same
left_same old new c (Sink (Register why)) leaves same = same
left_same old new c (Sink (Send why)) leaves same = absurd leaves
left_same old new c (Text text) leaves same = absurd leaves

-- a refused registration is no refused event
pub leaves_same : (s : SenderView) (ask : RegisterRequest) (above : List SegmentView)
    (why : UnitFault) → IsSinkCause s ask above why → IsNoText why → LeavesSame why
leaves_same s ask above (Own number) sunk no_text = tt
leaves_same s ask above Memory sunk no_text = tt
leaves_same s ask above (Sink (Register why)) sunk no_text = tt
leaves_same s ask above (Sink (Send why)) sunk no_text =
    ⊎_elim (λ a. send_is_other a.1) (λ b. b) (sunk (Send why) refl)
leaves_same s ask above (Text text) sunk no_text = no_text text refl

pub same_own : {a b : ℕ} → Own a ≡ Own b → a ≡ b
same_own e = cc

-- no key runs
pub runs_none : (unit : BegunUnit) (u : UnitView) (c : ChildStart) (why : UnitFault)
    → u.running ≡ [] → why ≡ Own OUT_OF_ORDER → IsChildCause unit u c why
runs_none unit u c why none is =
    subst (IsChildCause unit u c) (sym is)
    (inr ((λ id h. absurd (no_innermost h.above h.runs.0 (sym none ∙ h.runs.1))), refl))

-- a child whose id is new isn't noted
pub not_noted : (table : List Descriptor) (registered : List (List ℕ)) (above id : List SegmentView)
    (segment : SegmentView) → id ≡ above ++ segment ∷ []
    → ¬ TableHasId table id → is_registered registered (id_text id) ≡ false
    → ¬ IsNotedChild table registered above segment
not_noted table registered above id segment made static fresh n =
    ⊎_elim
    (λ a. static (subst (TableHasId table) (sym made) a))
    (λ b. let bad : true ≡ false = sym
    (subst (λ i. is_registered registered (id_text i) ≡ true) (sym made) b) ∙ fresh in cc)
    n.noted

module _ (s : ShapeView) (unit : BegunUnit) (sink : SenderView) (u : UnitView)
    (running outer : List RunningKey) (first : RunningKey) (registered : List (List ℕ)) (next : ℕ)
    (segment : SegmentView) (same : frame s ≡ unit.frame)
    (r : IsRunning unit.frame unit.keys.unit unit.start sink
    (with_ids unit.frame.table running) registered next)
    (is : running ≡ first ∷ outer) (now : u.sink ≡ sink)
    (runs : u.running ≡ keys_of (with_ids unit.frame.table running)) where
  above_is : HasId (record_of_sender sink) first.key (with_id unit.frame.table first).id
  above_is = first_id sink (with_id unit.frame.table first) (with_ids unit.frame.table outer)
      (with_ids unit.frame.table running) (ap (with_ids unit.frame.table) is) r.ids

  keys_are : u.running ≡ first.key ∷ keys_of (with_ids unit.frame.table outer)
  keys_are = runs ∙ ap (λ l. keys_of (with_ids unit.frame.table l)) is

  known_static : (id : List SegmentView) → TableHasId unit.frame.table id → IsKnown unit sink id
  known_static id t = (
    r.emitting.events,
    r.emitting.sent,
    t.0,
    static_id
        (so_far unit.frame unit.start.worker r.emitting.events) t.0 id t.1,
  )

  known_noted : (id : List SegmentView) → IsId id → IsNotedText unit sink (id_text id)
      → IsKnown unit sink id
  known_noted id is_id n = subst (IsKnown unit sink)
      (text_is_unique n.id id n.is_id is_id n.its) n.known

  -- a child that is noted is taken
  pub is_taken : AreNoted unit sink registered
      → IsNotedChild s.plan.table registered (with_id s.plan.table first).id segment
      → IsTaken unit u segment
  is_taken noted child =
      let c = subst (λ (f : Frame). IsNotedChild f.table registered
      (with_id f.table first).id segment) same child in
      let id = (with_id unit.frame.table first).id ++ segment ∷ [] in
      record {
        above = first.key;
        outer = keys_of (with_ids unit.frame.table outer);
        innermost = keys_are;
        id = (with_id unit.frame.table first).id;
        its = subst (λ v. HasId (record_of_sender v) first.key (with_id unit.frame.table first).id)
            (sym now) above_is;
        is_id = c.is_id;
        child_is_id = c.child_is_id;
        fits = c.fits;
        known = subst (λ v. IsKnown unit v id) (sym now)
            (⊎_elim (known_static id) (λ t. known_noted id c.child_is_id (noted (id_text id) t))
            c.noted);
      }

  -- a child that is taken is noted
  pub is_noted : IsTaken unit u segment
      → IsNotedChild s.plan.table registered (with_id s.plan.table first).id segment
  is_noted t =
      let key : t.above ≡ first.key = head_is (sym t.innermost ∙ keys_are) in
      let its = subst (λ v. HasId (record_of_sender v) t.above t.id) now t.its in
      let id : t.id ≡ (with_id unit.frame.table first).id = one_id
      (record_of_sender sink) first.key t.id (with_id unit.frame.table first).id
      (subst (λ k. HasId (record_of_sender sink) k t.id) key its) above_is in
      let known = subst (λ i. IsKnown unit sink (i ++ segment ∷ [])) id
      (subst (λ v. IsKnown unit v (t.id ++ segment ∷ [])) now t.known) in
      let events = cancel unit.start.sent known.0 r.emitting.events
      (sym known.1 ∙ r.emitting.sent) in
      let here = subst (λ l. HasId (so_far unit.frame unit.start.worker l) known.2
      ((with_id unit.frame.table first).id ++ segment ∷ [])) events known.3 in
      let child : IsNotedChild unit.frame.table registered
      (with_id unit.frame.table first).id segment = record {
        is_id = subst IsId id t.is_id;
        child_is_id = subst (λ i. IsId (i ++ segment ∷ [])) id t.child_is_id;
        fits = subst (λ i. FitsLimits (i ++ segment ∷ [])) id t.fits;
        noted = r.emitting.ids known.2 ((with_id unit.frame.table first).id ++ segment ∷ []) here;
      } in
      subst (λ (f : Frame). IsNotedChild f.table registered (with_id f.table first).id segment)
      (sym same) child

  -- a child whose id is new isn't taken
  pub not_taken : (id : List SegmentView) → id ≡ (with_id s.plan.table first).id ++ segment ∷ []
      → ¬ TableHasId s.plan.table id → is_registered registered (id_text id) ≡ false
      → ¬ IsTaken unit u segment
  not_taken id made static fresh t = not_noted s.plan.table registered
      (with_id s.plan.table first).id id segment made static fresh (is_noted t)

  -- ---- why a child isn't there

  pub innermost_key : IsInnermostKey u.running first.key
  innermost_key = (keys_of (with_ids unit.frame.table outer), keys_are)

  planned_is : HasId (record_of_sender sink) first.key (with_id s.plan.table first).id
  planned_is = subst (λ (f : Frame). HasId (record_of_sender sink) first.key
      (with_id f.table first).id) (sym same) above_is

  has_innermost : HasInnermost u (with_id s.plan.table first).id
  has_innermost = record {
    above = first.key;
    runs = innermost_key;
    its = subst (λ v. HasId (record_of_sender v) first.key (with_id s.plan.table first).id)
        (sym now) planned_is;
  }

  one_innermost : (id : List SegmentView) → HasInnermost u id → id ≡ (with_id s.plan.table first).id
  one_innermost id h =
      let key : h.above ≡ first.key = head_is (sym h.runs.1 ∙ keys_are) in
      let its = subst (λ v. HasId (record_of_sender v) h.above id) now h.its in
      one_id (record_of_sender sink) first.key id (with_id s.plan.table first).id
      (subst (λ k. HasId (record_of_sender sink) k id) key its) planned_is

  -- it wasn't registered
  pub unregistered : (c : ChildStart) → c.child.segment ≡ segment → AreNoted unit sink registered
      → (why : UnitFault)
      → IsOwnCause (IsNotedChild s.plan.table registered (with_id s.plan.table first).id segment)
      (with_id s.plan.table first).id why
      → IsSinkCause sink (child_request c.child first.key c.registered)
      (with_id s.plan.table first).id why
      → IsNoText why
      → IsChildCause unit u c why
  unregistered c its noted (Own number) own sunk no_text =
      ⊎_elim
      (λ a. inl (subst (IsTaken unit u) (sym its) (is_taken noted a.0), a.1))
      (λ b. inr ((λ id h. one_innermost id h ∙ b.0), b.1))
      (own number refl)
  unregistered c its noted Memory own sunk no_text = tt
  unregistered c its noted (Sink (Register why)) own sunk no_text =
      ⊎_elim
      (λ a. inl (((with_id s.plan.table first).id, has_innermost, a.0), same_register a.1))
      (λ b. inr (
        first.key,
        innermost_key,
        subst (λ v. IsRegisteredAs v v (child_request c.child first.key c.registered) (Err why))
            (sym now) b,
      ))
      (sunk (Register why) refl)
  unregistered c its noted (Sink (Send why)) own sunk no_text =
      ⊎_elim (λ a. absurd (send_is_other a.1)) (λ b. absurd b) (sunk (Send why) refl)
  unregistered c its noted (Text text) own sunk no_text = no_text text refl

  -- it was registered, and its first event was refused
  pub unsent : (c : ChildStart) (after : SenderView) (key : ℕ) (why : UnitFault)
      → IsRegisteredAs sink after (child_request c.child first.key c.registered) (Ok key)
      → IsEmitCause after (c.first key) why
      → IsChildCause unit u c why
  unsent c after key (Own number) done refused = absurd refused
  unsent c after key Memory done refused = tt
  unsent c after key (Sink (Register why)) done refused = absurd refused
  unsent c after key (Sink (Send why)) done refused = record {
    above = first.key;
    runs = innermost_key;
    key = key;
    registered = after;
    registration = subst (λ v. IsRegisteredAs v after (child_request c.child first.key c.registered)
        (Ok key)) (sym now) done;
    refused = refused;
  }
  unsent c after key (Text text) done refused = absurd refused

  -- so the unit is left with the child registered
  pub left_registered : (new : UnitView) (c : ChildStart) (after : SenderView) (key : ℕ)
      (why : UnitFault)
      → IsRegisteredAs sink after (child_request c.child first.key c.registered) (Ok key)
      → IsEmitCause after (c.first key) why → new ≡ record u { sink = after }
      → HasRefused u new c why
  unfolding unsent
  left_registered new c after key (Own number) done refused left = absurd refused
  left_registered new c after key Memory done refused left = absurd refused
  left_registered new c after key (Sink (Register why)) done refused left = absurd refused
  left_registered new c after key (Sink (Send why)) done refused left =
      (unsent c after key (Sink (Send why)) done refused, left)
  left_registered new c after key (Text text) done refused left = absurd refused
