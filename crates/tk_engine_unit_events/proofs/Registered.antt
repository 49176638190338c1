-- A unit that registers a child below its innermost running key.
use Rattle.std.proofs.Common.{◌≡◌, ◌≤◌, ◌||◌, ℕ, false, length, List, [], ◌∷◌, ◌++◌, Some, refl}
use Rattle.std.proofs.Common.{sym, ap, ◌∙◌, subst}
use Rattle.std.specs.Prelude.{Ok, bytes_eq, unwrap_or}
use Rattle.tk_ids.specs.IdText.{IsId, SegmentView, id_text}
use Rattle.tk_ids.specs.Table.{HasId as TableHasId}
use Rattle.tk_events.specs.declared.events.Event.{Event}
use Rattle.tk_events.specs.declared.kinds.Kind.TheVariants.{Skipped, Started}
use Rattle.tk_queue_session.specs.Registering.{IsRegisteredAs, RegisterRequest}
use Rattle.tk_queue_session.specs.Senders.{SenderView, sends}
use Rattle.tk_engine_unit_events.specs.Events.{IsRunning}
use Rattle.tk_engine_unit_events.specs.RegisteredIds.{is_registered}
use Rattle.tk_engine_unit_events.specs.Running.{id_at, with_id, with_ids}
use Rattle.tk_engine_unit_events.specs.Shapes.{ShapeView, frame}
use Rattle.tk_engine_unit_events.specs.Standing.{AreNoted, BegunUnit, StandsAt}
use Rattle.tk_engine_unit_events.specs.Units.{HasPlayed}
use Rattle.tk_engine_unit_events.specs.declared.running_keys.RunningKey.{RunningKey}
use Rattle.tk_engine_unit_events.specs.declared.unit_events.UnitProgress.{UnitProgress}
use Rattle.tk_engine_unit_events.proofs.Played.{played_dynamic, played_registration}
use Rattle.tk_engine_unit_events.proofs.Children.{HasRegistered, ran_child, ran_child_skip}
use Rattle.tk_engine_unit_events.proofs.Children.{ran_registered, registered_below}
use Rattle.tk_engine_unit_events.proofs.Taken.{noted_after, noted_registration}

-- where the unit stood, what it asked for, and what came of it
pub record RegistersChild (s : ShapeView) (unit : BegunUnit) (old now : SenderView)
    (p : UnitProgress) (noted : List (List ℕ)) : Type 0 where
  pub same : frame s ≡ unit.frame
  pub stands : StandsAt unit old p
  pub first : RunningKey
  pub rest : List RunningKey
  pub runs : p.running.elements ≡ first ∷ rest
  pub ask : RegisterRequest
  pub key : ℕ
  pub registration : IsRegisteredAs old now ask (Ok key)
  pub parent : ask.parent ≡ first.key
  pub id : List SegmentView
  pub made : id ≡ (with_id s.plan.table first).id ++ ask.segment ∷ []
  pub is_id : IsId id
  pub not_static : ¬ TableHasId s.plan.table id
  pub fresh : is_registered p.registered.keys (id_text id) ≡ false
  pub noted_is : (text : List ℕ)
      → is_registered noted text ≡
      (bytes_eq text (id_text id) || is_registered p.registered.keys text)

abbrev pub registers : (s : ShapeView) (unit : BegunUnit) (old now : SenderView) (p : UnitProgress)
    (noted : List (List ℕ)) → frame s ≡ unit.frame → StandsAt unit old p
    → (first : RunningKey) (rest : List RunningKey) → p.running.elements ≡ first ∷ rest
    → (ask : RegisterRequest) (key : ℕ) → IsRegisteredAs old now ask (Ok key)
    → ask.parent ≡ first.key
    → (id : List SegmentView) → id ≡ (with_id s.plan.table first).id ++ ask.segment ∷ [] → IsId id
    → ¬ TableHasId s.plan.table id
    → is_registered p.registered.keys (id_text id) ≡ false
    → ((text : List ℕ) → is_registered noted text ≡
    (bytes_eq text (id_text id) || is_registered p.registered.keys text))
    → RegistersChild s unit old now p noted
registers s unit old now p noted same stands first rest runs ask key registration parent id made
    is_id not_static fresh noted_is = record {
      same = same;
      stands = stands;
      first = first;
      rest = rest;
      runs = runs;
      ask = ask;
      key = key;
      registration = registration;
      parent = parent;
      id = id;
      made = made;
      is_id = is_id;
      not_static = not_static;
      fresh = fresh;
      noted_is = noted_is;
    }

module _ (s : ShapeView) (unit : BegunUnit) (old now : SenderView) (p : UnitProgress)
    (noted : List (List ℕ)) (r : RegistersChild s unit old now p noted) where
  pub has_registered : HasRegistered unit.frame unit.keys.unit unit.start now
      (with_ids unit.frame.table p.running.elements) noted p.next r.key r.id
  has_registered =
      registered_below s unit.frame unit.keys.unit unit.start old now p.running.elements r.rest
      p.registered.keys noted p.next r.key r.first r.id r.ask r.same r.stands.running r.runs
      r.registration r.parent r.made r.not_static r.fresh r.noted_is

  played_now : HasPlayed unit.frame.table unit.may_step unit.keys.first p.next unit.start now
  played_now = played_registration unit.frame.table unit.may_step unit.keys.first unit.start old now
      p.next r.key r.ask r.registration r.stands.played

  noted_now : AreNoted unit now noted
  noted_now = noted_registration unit old now p.running.elements p.registered.keys noted p.next
      r.key r.id r.ask r.registration has_registered r.is_id r.noted_is r.stands.noted

  module _ (q : UnitProgress) (number : q.unit ≡ p.unit) (end : q.end ≡ p.end)
      (ids : q.registered.keys ≡ noted) (next : q.next ≡ p.next) where
    stands_as : (sink : SenderView)
        → IsRunning unit.frame unit.keys.unit unit.start sink
        (with_ids unit.frame.table q.running.elements) noted p.next
        → HasPlayed unit.frame.table unit.may_step unit.keys.first p.next unit.start sink
        → AreNoted unit sink noted → StandsAt unit sink q
    stands_as sink running played is_noted = record {
      number = number ∙ r.stands.number;
      end = end ∙ r.stands.end;
      running = subst (λ n. IsRunning unit.frame unit.keys.unit unit.start sink
          (with_ids unit.frame.table q.running.elements) q.registered.keys n) (sym next)
          (subst (λ l. IsRunning unit.frame unit.keys.unit unit.start sink
          (with_ids unit.frame.table q.running.elements) l p.next) (sym ids) running);
      played = subst (λ n. HasPlayed unit.frame.table unit.may_step unit.keys.first n unit.start
          sink) (sym next) played;
      noted = subst (AreNoted unit sink) (sym ids) is_noted;
    }

    -- nothing more was emitted
    pub stands_registered : q.running.elements ≡ p.running.elements → StandsAt unit now q
    stands_registered running =
        stands_as now
        (subst (λ l. IsRunning unit.frame unit.keys.unit unit.start now
        (with_ids unit.frame.table l) noted p.next) (sym running)
        (ran_registered unit.frame unit.keys.unit unit.start now
        (with_ids unit.frame.table p.running.elements) noted p.next r.key r.id has_registered))
        played_now noted_now

    module _ (e : Event) (own : e.key ≡ r.key) where
      later_played : HasPlayed unit.frame.table unit.may_step unit.keys.first p.next unit.start
          (sends now e)
      later_played =
          played_dynamic unit.frame.table unit.may_step unit.keys.first unit.start now p.next e
          (subst (λ k. length unit.frame.table ≤ k) (sym own) has_registered.registration.dynamic)
          played_now

      -- the child started
      pub stands_started : (started : RunningKey) → started.key ≡ r.key
          → started.dynamic_id ≡ Some r.id → e.kind ≡ Started
          → q.running.elements ≡ started ∷ p.running.elements
          → StandsAt unit (sends now e) q
      stands_started started key id kind running =
          stands_as (sends now e)
          (ran_child unit.frame unit.keys.unit unit.start now (sends now e)
          (with_ids unit.frame.table p.running.elements)
          (with_ids unit.frame.table q.running.elements) noted p.next r.key r.id e refl
          (ap (with_ids unit.frame.table) running
          ∙ ap (λ k. record {
            key = k;
            id = unwrap_or started.dynamic_id
                (id_at unit.frame.table started.key);
          } ∷ with_ids unit.frame.table p.running.elements) key
          ∙ ap (λ i. record { key = r.key; id = unwrap_or i (id_at unit.frame.table started.key) } ∷
          with_ids unit.frame.table p.running.elements) id)
          kind own has_registered)
          later_played (noted_after unit now (sends now e) noted e refl noted_now)

      -- the child was skipped
      pub stands_skipped : e.kind ≡ Skipped → q.running.elements ≡ p.running.elements
          → StandsAt unit (sends now e) q
      stands_skipped kind running =
          stands_as (sends now e)
          (subst (λ l. IsRunning unit.frame unit.keys.unit unit.start (sends now e)
          (with_ids unit.frame.table l) noted p.next) (sym running)
          (ran_child_skip unit.frame unit.keys.unit unit.start now (sends now e)
          (with_ids unit.frame.table p.running.elements) noted p.next r.key r.id e refl kind own
          has_registered))
          later_played (noted_after unit now (sends now e) noted e refl noted_now)
