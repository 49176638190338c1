-- Sinks that grow, one time after another: a preorder.
use Rattle.std.proofs.Common.{◌≡◌, ℕ, List, Ok, [], ◌∷◌, ◌++◌, refl, sym, ap, ◌∙◌, append_assoc, append-nil}
use Rattle.std.proofs.lemmas.List.Elements.{All-nil, All-cons, All-append}
use Rattle.tk_ids.specs.IdText.{SegmentView}
use Rattle.tk_ids.specs.declared.descriptors.DType.{DType}
use Rattle.tk_ids.specs.declared.descriptors.Descriptor.{Descriptor}
use Rattle.tk_events.specs.declared.events.Event.{Event}
use Rattle.tk_queue_session.specs.Senders.{SenderView, sends}
use Rattle.tk_queue_session.specs.Registering.{IsRegisteredAs, child, registration}
use Rattle.tk_engine_execute.specs.Grown.{GrewBy}

-- the preorder, for any P
module _ (P : Event → Type 0) where
  pub grew_refl : (a : SenderView) → GrewBy P a a
  grew_refl a = record { same = record { session = refl; table = refl; worker = refl }; events = []; sent = sym (append-nil a.sent); each = All-nil P }

  pub grew_same : (a b : SenderView) → b ≡ a → GrewBy P a b
  grew_same a b is = rw is (grew_refl a)

  pub grew_one : (a b : SenderView) (e : Event) → b ≡ sends a e → P e → GrewBy P a b
  grew_one a b e is holds = record {
    same = record { session = ap (λ (x : SenderView). x.session) is; table = ap (λ (x : SenderView). x.table) is; worker = ap (λ (x : SenderView). x.worker) is };
    events = e ∷ [];
    sent = ap (λ (x : SenderView). x.sent) is;
    each = All-cons P e [] holds (All-nil P);
  }

  pub grew_trans : (a b c : SenderView) → GrewBy P a b → GrewBy P b c → GrewBy P a c
  grew_trans a b c ab bc = record {
    same = record { session = bc.same.session ∙ ab.same.session; table = bc.same.table ∙ ab.same.table; worker = bc.same.worker ∙ ab.same.worker };
    events = ab.events ++ bc.events;
    sent = bc.sent ∙ ap (λ (l : List Event). l ++ bc.events) ab.sent ∙ append_assoc a.sent ab.events bc.events;
    each = All-append P ab.events bc.events ab.each bc.each;
  }

  -- where P holds of every registration
  pub grew_registered : (a b : SenderView) (parent : ℕ) (segment : SegmentView) (name : List ℕ) (dtype : DType) (stamp key : ℕ) → IsRegisteredAs a b (record { parent = parent; segment = segment; name = name; dtype = dtype; stamp = stamp }) (Ok key)
      → ((d : Descriptor) → P (registration a stamp d)) → GrewBy P a b
  grew_registered a b parent segment name dtype stamp key (above, _, _, _, _, is, _) holds =
      grew_one a b (registration a stamp (child above segment name dtype)) is (holds (child above segment name dtype))
