use Rattle.std.proofs.Common.{◌≡◌, ◌+◌, ◌++◌, ◌∷◌, [], true, length, ap, refl, sym, subst, ◌∙◌}
use Rattle.std.specs.Arc.{arc_value}
use Rattle.crossbeam_queue.specs.Passes.{view}
use Rattle.tk_ids.specs.declared.descriptors.Descriptor.{Descriptor}
use Rattle.tk_events.specs.declared.kinds.Kind.TheVariants.{Dynamic}
use Rattle.tk_events.specs.declared.payloads.Payload.TheVariants.{Described}
use Rattle.tk_events.specs.Event.{is_lawful}
use Rattle.tk_events.specs.Registration.{registered_key}
use Rattle.tk_queue_session.specs.Senders.{IsSender}
use Rattle.tk_queue_session.specs.Registering.{child}
use Rattle.tk_queue_session.proofs.SenderSteps.{made_may, next_key_is, sender_registers, may_push_registration}
use Rattle.tk_queue_session.proofs.senders.Sender.register.Goals as goal

pub push-requires-2-clause-may : goal.push-requires-2-clause-may
push-requires-2-clause-may g c =
    let h = c.self.invariant.1 in
    let m = made_may _ _ _ _ _ _ c.args.self.now c.args.parent (λ above. child above c.args.segment.now c.args.name.now c.args.dtype) (c.in_ok-id.id, c.in_ok-id.descriptor) h c.self.view_is c.in_ok-id.ensures in
    let lawful = subst (λ (d : Descriptor). is_lawful Dynamic (Described d) ≡ true) (sym c.in_ok-id.ensures.5) refl in
    let is : c.next_key-key.result ≡ registered_key c.self.inside.worker (length c.self.inside.registered.items) = next_key_is _ _ _ _ _ _ c.args.self.now h c.self.view_is c.next_key-key.ensures.key in
    may_push_registration _ _ _ _ _ c.args.stamp _ c.in_ok-id.descriptor h lawful is m.0 m.1

pub invariant_of-self-2 : goal.invariant_of-self-2
invariant_of-self-2 g c =
    let h = c.self.invariant.1 in
    let m = made_may _ _ _ _ _ _ c.args.self.now c.args.parent (λ above. child above c.args.segment.now c.args.name.now c.args.dtype) (c.in_ok-id.id, c.in_ok-id.descriptor) h c.self.view_is c.in_ok-id.ensures in
    let lawful = subst (λ (d : Descriptor). is_lawful Dynamic (Described d) ≡ true) (sym c.in_ok-id.ensures.5) refl in
    let is : c.next_key-key.result ≡ registered_key c.self.inside.worker (length c.self.inside.registered.items) = next_key_is _ _ _ _ _ _ c.args.self.now h c.self.view_is c.next_key-key.ensures.key in
    let q = c.push-2.ensures.queue in (
      (q.0 ∙ c.self.invariant.0.0, q.2 ∙ c.self.invariant.0.1),
      subst (λ ids. IsSender (view c.push-2.new.pass) (record { table = arc_value c.self.inside.table; worker = c.self.inside.worker; ids = ids; emitted = c.self.inside.emitted + 1 }))
          (ap (λ x. c.self.inside.registered.items ++ x ∷ []) (sym m.2) ∙ sym c.in_ok-push.ensures.items)
          (sender_registers _ _ _ _ _ _ c.args.stamp _ c.in_ok-id.descriptor h lawful is c.push-2.ensures.pushed m.0 m.1),
    )
