use Rattle.std.proofs.Common.{◌∙◌, ap, inl, inr, sym}
use Rattle.tk_engine_unit_events.specs.RegisteredIds.{is_registered}
use Rattle.tk_engine_unit_events.proofs.Taken.{found_is, noted_child, same_own}
use Rattle.tk_engine_unit_events.proofs.unit_ids.new_child.Goals as goal
use Rattle.tk_engine_unit_events.proofs.unit_ids.new_child.Goals.{then-is_some-via-then-is_some}
use Rattle.tk_engine_unit_events.proofs.unit_ids.new_child.Goals.{then-is_some-via-else-is_some+then-contains}

pub returns-then-is_some-clause-own : goal.returns-then-is_some-clause-own
returns-then-is_some-clause-own c = λ number same.
    let s = c.args.shape.now in
    inl (
      noted_child s.plan.table c.args.registered.now.keys c.in-Some.above.now _ c.in_ok-id.id
          c.args.segment.now c.in-Some.ensures.some c.in_ok-id.ensures
          c.as_text-above_text.ensures.id c.as_text-text.ensures.id
          (elim c.then-is_some.branch [
            | then-is_some-via-then-is_some w ↦ inl
                (found_is _ s.plan.table c.in_ok-id.id c.find.result
                (sym c.is_some.ensures ∙ w.if-is_some.true) c.find.ensures.found
                (c.deref.ensures ∙ c.table.ensures))
            | then-is_some-via-else-is_some+then-contains w ↦ inr
                (ap (λ t. is_registered c.args.registered.now.keys t)
                (sym (w.as_str.ensures ∙ w.as_text.ensures.text)) ∙ sym w.contains.ensures
                ∙ w.if-contains.true)
          ]),
      sym (same_own same),
    )
