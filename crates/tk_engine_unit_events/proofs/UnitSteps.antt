-- What the steps of a unit promise.
use Rattle.std.proofs.Common.{◌≡◌, ℕ, List, [], ◌∷◌, ◌++◌, sym, ap, ◌∙◌, subst, append_assoc}
use Rattle.std.proofs.Common.{append-nil}
use Rattle.std.specs.Prelude.{Result, Ok, Err, IfErr, OnOk, OnErr}
use Rattle.tk_events.specs.declared.events.Event.{Event}
use Rattle.tk_events.specs.declared.kinds.Kind.{Kind}
use Rattle.tk_events.specs.declared.kinds.Kind.TheVariants.{Skipped, Started}
use Rattle.tk_events.specs.declared.payloads.Payload.{Payload}
use Rattle.tk_events.specs.declared.payloads.Payload.TheVariants.{Nothing}
use Rattle.tk_queue_session.specs.Registering.{IsRegisteredAs, RegisterRequest, child_of}
use Rattle.tk_queue_session.specs.Registering.{registration}
use Rattle.tk_queue_session.specs.Senders.{SenderView, sends}
use Rattle.tk_engine_execute.specs.Engines.{Extends}
use Rattle.tk_engine_unit_events.specs.UnitSteps.{Grew, HasSkipped, HasStarted, Published, UnitView}
use Rattle.tk_engine_unit_events.specs.UnitSteps.{event}
use Rattle.tk_engine_unit_events.specs.Running.{RunningId, keys_of, with_ids}
use Rattle.tk_engine_unit_events.specs.Events.{IsRunning}
use Rattle.tk_engine_unit_events.specs.Standing.{AreNoted, BegunUnit, StandsAt}
use Rattle.tk_engine_unit_events.specs.Units.{HasPlayed}
use Rattle.tk_engine_unit_events.specs.declared.unit_events.UnitProgress.{UnitProgress}

-- what follows from what holds at `Ok`
pub on_ok : {F A B : Type 0} (r : Result (Unit {0}) F) → OnOk r A → (A → B) → OnOk r B
on_ok (Ok _) a f = f a
on_ok (Err _) a f = tt

pub on_err : {F A B : Type 0} (r : Result (Unit {0}) F) → OnErr r A → (A → B) → OnErr r B
on_err (Ok _) a f = tt
on_err (Err _) a f = f a

pub extends_registered : (a b c : SenderView) (ask : RegisterRequest) (key : ℕ)
    → IsRegisteredAs a b ask (Ok key) → c ≡ b → Extends a c
extends_registered a b c ask key r e =
    (registration a ask.stamp (child_of ask r.0) ∷ [], ap (λ (s : SenderView). s.sent) (e ∙ r.5))

-- b is a, and events after it
abbrev pub IsLonger : List Event → List Event → Type 0
IsLonger a b = (l : List Event) × (b ≡ a ++ l)

pub extends_more : (a b : List Event) (e : Event) → IsLonger a b → IsLonger a (b ++ e ∷ [])
extends_more a b e x = (x.0 ++ e ∷ [], ap (λ l. l ++ e ∷ []) x.1 ∙ append_assoc a x.0 (e ∷ []))

pub extends_extends : (a b c : List Event) → IsLonger a b → IsLonger b c → IsLonger a c
extends_extends a b c x y = (x.0 ++ y.0, y.1 ∙ ap (λ l. l ++ y.0) x.1 ∙ append_assoc a x.0 y.0)

pub extends_child : (a : List Event) (b c : SenderView) (ask : RegisterRequest) (key : ℕ)
    → IsRegisteredAs b c ask (Ok key) → IsLonger a b.sent → IsLonger a c.sent
extends_child a b c ask key r x = subst (λ (s : SenderView). IsLonger a s.sent) (sym r.5)
    (extends_more a b.sent (registration b ask.stamp (child_of ask r.0)) x)

-- what follows from what holds of a fault
pub if_err_then : {R F : Type 0} (P Q : F → Type 0) (r : Result R F) → IfErr r P
    → ((why : F) → P why → Q why) → IfErr r Q
if_err_then P Q (Ok _) a f = tt
if_err_then P Q (Err why) a f = f why a

-- where a result is an error, what holds of it and what holds of each error hold together
pub both_err : {R F A : Type 0} (P Q : F → Type 0) (r : Result R F) → OnErr r A → IfErr r P
    → ((why : F) → A → P why → Q why) → IfErr r Q
both_err P Q (Ok _) a p f = tt
both_err P Q (Err why) a p f = f why a p

-- what holds whatever the fault is
pub if_err : {R F : Type 0} (P : F → Type 0) (r : Result R F) → ((why : F) → P why) → IfErr r P
if_err P (Ok _) f = tt
if_err P (Err why) f = f why

pub grew_same : (old new : UnitView) → new.sink ≡ old.sink → new.running ≡ old.running
    → new.stamp ≡ old.stamp → new.own_stamp ≡ old.own_stamp → Grew old new
grew_same old new sink running stamp own =
    record {
      more = ([], ap (λ (s : SenderView). s.sent) sink ∙ sym (append-nil old.sink.sent));
      running = running;
      stamp = stamp;
      own_stamp = own;
    }

pub grew_registered : (old new : UnitView) (sink registered : SenderView) (ask : RegisterRequest)
    (key : ℕ) → old.sink ≡ sink
    → IsRegisteredAs sink registered ask (Ok key) → new.sink ≡ registered
    → new.running ≡ old.running → new.stamp ≡ old.stamp → new.own_stamp ≡ old.own_stamp
    → Grew old new
grew_registered old new sink registered ask key was r now running stamp own = record {
  more = subst (λ s. Extends s new.sink) (sym was)
      (extends_registered sink registered new.sink ask key r now);
  running = running;
  stamp = stamp;
  own_stamp = own;
}

pub published : (old new : UnitView) (sink : SenderView) (running rest : List RunningId)
    (first : RunningId) (kind : Kind) (stamp : ℕ) (payload : Payload)
    → old.sink ≡ sink → old.running ≡ keys_of running → running ≡ first ∷ rest
    → new.sink ≡ sends sink (event kind first.key stamp payload) → new.running ≡ old.running
    → new.stamp ≡ old.stamp → new.own_stamp ≡ old.own_stamp
    → (key : ℕ) × Published old new (event kind key stamp payload)
published old new sink running rest first kind stamp payload was view is took same kept own = (
  first.key,
  record {
    outer = keys_of rest;
    innermost = view ∙ ap keys_of is;
    took = took ∙ ap (λ s. sends s (event kind first.key stamp payload)) (sym was);
    running = same;
    stamp = kept;
    own_stamp = own;
  },
)

pub skipped_child : (old new : UnitView) (sink registered : SenderView)
    (running rest : List RunningId) (first : RunningId) (ask : RegisterRequest) (key stamp : ℕ)
    (reason : Payload)
    → old.sink ≡ sink → old.running ≡ keys_of running → running ≡ first ∷ rest
    → ask.parent ≡ first.key → IsRegisteredAs sink registered ask (Ok key)
    → new.sink ≡ sends registered (event Skipped key stamp reason) → new.running ≡ old.running
    → new.stamp ≡ old.stamp → new.own_stamp ≡ old.own_stamp
    → (key : ℕ) × HasSkipped old new ask (event Skipped key stamp reason)
skipped_child old new sink registered running rest first ask key stamp reason was view is parent r
    took same kept own = (
      key,
      record {
        outer = keys_of rest;
        innermost = view ∙ ap keys_of is ∙ ap (λ k. k ∷ keys_of rest) (sym parent);
        registered = registered;
        registration = subst (λ s. IsRegisteredAs s registered ask (Ok key)) (sym was) r;
        took = took;
        running = same;
        stamp = kept;
        own_stamp = own;
      },
    )

pub started_child : (old new : UnitView) (sink registered : SenderView)
    (running rest : List RunningId) (first : RunningId) (ask : RegisterRequest) (key stamp : ℕ)
    → old.sink ≡ sink → old.running ≡ keys_of running → running ≡ first ∷ rest
    → ask.parent ≡ first.key → IsRegisteredAs sink registered ask (Ok key)
    → new.sink ≡ sends registered (event Started key stamp Nothing)
    → new.running ≡ key ∷ keys_of running → new.stamp ≡ old.stamp → new.own_stamp ≡ old.own_stamp
    → HasStarted old new ask (event Started key stamp Nothing)
started_child old new sink registered running rest first ask key stamp was view is parent r took
    more kept own = record {
      outer = keys_of rest;
      innermost = view ∙ ap keys_of is ∙ ap (λ k. k ∷ keys_of rest) (sym parent);
      registered = registered;
      registration = subst (λ s. IsRegisteredAs s registered ask (Ok key)) (sym was) r;
      took = took;
      running = more ∙ ap (λ l. key ∷ l) (sym view);
      stamp = kept;
      own_stamp = own;
    }

pub same_view : (old new : UnitView) → new.sink ≡ old.sink → new.running ≡ old.running
    → new.stamp ≡ old.stamp → new.own_stamp ≡ old.own_stamp → new ≡ old
same_view old new sink running stamp own =
    λ i. record { sink = sink i; running = running i; stamp = stamp i; own_stamp = own i }

-- a unit stands where it stood, with other room
pub stands_same : (unit : BegunUnit) (old now : SenderView) (p q : UnitProgress) → now ≡ old
    → q.unit ≡ p.unit → q.end ≡ p.end
    → q.running.elements ≡ p.running.elements → q.registered.keys ≡ p.registered.keys
    → q.next ≡ p.next
    → StandsAt unit old p → StandsAt unit now q
stands_same unit old now p q sink number end running registered next s = record {
  number = number ∙ s.number;
  end = end ∙ s.end;
  running = subst (λ v. IsRunning unit.frame unit.keys.unit unit.start v
      (with_ids unit.frame.table q.running.elements) q.registered.keys q.next) (sym sink)
      (subst (λ l. IsRunning unit.frame unit.keys.unit unit.start old
      (with_ids unit.frame.table l) q.registered.keys q.next) (sym running)
      (subst (λ l. IsRunning unit.frame unit.keys.unit unit.start old
      (with_ids unit.frame.table p.running.elements) l q.next) (sym registered)
      (subst (λ n. IsRunning unit.frame unit.keys.unit unit.start old
      (with_ids unit.frame.table p.running.elements) p.registered.keys n)
      (sym next) s.running)));
  played = subst (λ v. HasPlayed unit.frame.table unit.may_step unit.keys.first q.next unit.start v)
      (sym sink)
      (subst (λ n. HasPlayed unit.frame.table unit.may_step unit.keys.first n unit.start old)
      (sym next) s.played);
  noted = subst (λ v. AreNoted unit v q.registered.keys) (sym sink)
      (subst (AreNoted unit old) (sym registered) s.noted);
}

-- the sink is the same
pub stands_at : (unit : BegunUnit) (old now : SenderView) (p : UnitProgress) → now ≡ old
    → StandsAt unit old p → StandsAt unit now p
stands_at unit old now p sink s = subst (λ v. StandsAt unit v p) (sym sink) s
