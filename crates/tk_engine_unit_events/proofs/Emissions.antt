-- What was emitted, one time after another.
use Rattle.std.proofs.Common.{◌≡◌, ℕ, List, Ok, [], ◌∷◌, ◌++◌, refl, sym, ap, ◌∙◌, append_assoc, append-nil}
use Rattle.std.proofs.lemmas.List.Elements.{All-nil, All-cons}
use Rattle.std.specs.Prelude.{All}
use Rattle.tk_ids.specs.declared.descriptors.Descriptor.{Descriptor}
use Rattle.tk_events.specs.declared.events.Event.{Event}
use Rattle.tk_queue_session.specs.Senders.{SenderView, sends}
use Rattle.tk_queue_session.specs.Registering.{IsRegisteredAs, RegisterRequest, child_of, registration}
use Rattle.tk_engine_execute.specs.Engines.{IsSameSender}
use Rattle.tk_engine_execute.specs.Grown.{AnyEvent, Grew, GrewBy}
use Rattle.tk_engine_execute.proofs.SinkGrowth.{grew_refl, grew_registered, grew_same, grew_trans}
use Rattle.tk_engine_unit_events.specs.Emitted.{Emitted, EmittedAs, Registered, registered}

same_sender : (a b : SenderView) (e : Event) → b ≡ sends a e → IsSameSender a b
same_sender a b e is = record { session = ap (λ (x : SenderView). x.session) is; table = ap (λ (x : SenderView). x.table) is; worker = ap (λ (x : SenderView). x.worker) is }

-- nothing
pub emitted_none : (a : SenderView) → Emitted a a []
emitted_none a = record { same = record { session = refl; table = refl; worker = refl }; sent = sym (append-nil a.sent) }

-- one event
pub emitted_one : (a b : SenderView) (e : Event) → b ≡ sends a e → Emitted a b (e ∷ [])
emitted_one a b e is = record { same = same_sender a b e is; sent = ap (λ (x : SenderView). x.sent) is }

-- some events, and then others
pub emitted_then : (a b c : SenderView) (xs ys : List Event) → Emitted a b xs → Emitted b c ys → Emitted a c (xs ++ ys)
emitted_then a b c xs ys ab bc = record {
  same = record { session = bc.same.session ∙ ab.same.session; table = bc.same.table ∙ ab.same.table; worker = bc.same.worker ∙ ab.same.worker };
  sent = bc.sent ∙ ap (λ (l : List Event). l ++ ys) ab.sent ∙ append_assoc a.sent xs ys;
}

-- one event, and then others
pub emitted_first : (a b c : SenderView) (x : Event) (ys : List Event) → Emitted a b (x ∷ []) → Emitted b c ys → Emitted a c (x ∷ ys)
emitted_first a b c x ys ab bc = emitted_then a b c (x ∷ []) ys ab bc

-- a list of which P holds, and then one of which Q holds
pub emitted_as_then : (P Q R : List Event → Type 0) (a b c : SenderView) → EmittedAs P a b → EmittedAs Q b c → ((xs ys : List Event) → P xs → Q ys → R (xs ++ ys)) → EmittedAs R a c
emitted_as_then P Q R a b c ab bc both = record {
  events = ab.events ++ bc.events;
  emitted = emitted_then a b c ab.events bc.events ab.emitted bc.emitted;
  holds = both ab.events bc.events ab.holds bc.holds;
}

-- a registration is one event
pub registered_as : (a b : SenderView) (ask : RegisterRequest) (key : ℕ) → IsRegisteredAs a b ask (Ok key) → Registered a b ask key
registered_as a b ask key (above, parent, _, _, next, is, _) = record {
  above = above;
  parent = parent;
  next = next;
  emitted = rw next (emitted_one a b (registration a ask.stamp (child_of ask above)) is);
}

pub grew_registered_as : (a b : SenderView) (ask : RegisterRequest) (key : ℕ) → IsRegisteredAs a b ask (Ok key) → Grew a b
grew_registered_as a b ask key r = grew_registered AnyEvent a b ask.parent ask.segment ask.name ask.dtype ask.stamp key r (λ d. tt)

module _ (P : Event → Type 0) where
  -- each event of the list has the property
  pub grew_emitted : (a b : SenderView) (es : List Event) → Emitted a b es → All P es → GrewBy P a b
  grew_emitted a b es em each = record { same = em.same; events = es; sent = em.sent; each = each }

  pub grew_event : (a b : SenderView) (e : Event) → Emitted a b (e ∷ []) → P e → GrewBy P a b
  grew_event a b e em holds = grew_emitted a b (e ∷ []) em (All-cons P e [] holds (All-nil P))

  -- the registration has the property, whatever the parent is
  pub grew_registration : (a b : SenderView) (ask : RegisterRequest) (key : ℕ) → Registered a b ask key → ((d : Descriptor) → P (registered key ask.stamp d)) → GrewBy P a b
  grew_registration a b ask key r holds = grew_event a b (registered key ask.stamp (child_of ask r.above)) r.emitted (holds (child_of ask r.above))

-- what an author's `using` names
pub ruleset emissions = (emitted_none, emitted_first, emitted_then, grew_refl, grew_same, grew_trans)
