use Rattle.std.proofs.Common.{◌≡◌, List, Some, refl, sym, subst, slice_get, ap, ◌∙◌, arith}
use Rattle.tk_ids.specs.declared.descriptors.Descriptor.{Descriptor}
use Rattle.tk_engine_lifecycle.specs.Units.{Frame}
use Rattle.tk_engine_unit_events.specs.Covered.{IsKeyBelow}
use Rattle.tk_engine_unit_events.specs.Running.{with_ids}
use Rattle.tk_engine_unit_events.proofs.Played.{played_skip}
use Rattle.tk_engine_unit_events.proofs.UnitStates.{may_here, skipped}
use Rattle.tk_engine_execute.specs.Engines.{Extends}
use Rattle.tk_engine_unit_events.proofs.UnitSteps.{extends_more}
use Rattle.tk_engine_unit_events.proofs.Taken.{noted_after}
use Rattle.tk_query_lifecycle.proofs.IdMapLemmas.{at_id}
use Rattle.tk_engine_unit_events.proofs.unit_events.UnitEvents.skip.Goals as goal

pub invariant_of-self-2 : goal.invariant_of-self-2
invariant_of-self-2 g c =
    let i = c.self.invariant in
    let f = g.K.UnitRun.unit.frame in
    let t = f.table in
    let p = c.self.inside.progress in
    let d = c.in-Some.descriptor.now in
    let table = ap (λ (h : Frame). h.table) i.1 in
    let is : slice_get t c.args.key ≡ Some d = ap (λ (l : List Descriptor). slice_get l c.args.key)
    (sym (c.deref.ensures ∙ c.table.ensures ∙ table)) ∙ sym c.in-Some.ensures in (
      c.emit.ensures.same ∙ i.0,
      i.1,
      record {
        number = i.2.number;
        end = i.2.end;
        running = skipped f g.K.UnitRun.unit.keys.unit g.K.UnitRun.unit.start _ _
            (with_ids t p.running.elements) p.registered.keys p.next c.end_below-next.result
            c.args.key _
            c.in_ok-emit.ensures.ok c.end_below-next.ensures.more refl refl i.2.running
            (may_here c.self.inside.shape.now f p.unit g.K.UnitRun.unit.keys.unit c.args.key
            p.running.elements i.1 i.2.number (c.may_start.ensures c.if-not-may_start.false))
            (omega (arith, c.if-key-self.false));
        played = played_skip t g.K.UnitRun.unit.may_step g.K.UnitRun.unit.keys.first
            g.K.UnitRun.unit.start _ _ p.next c.end_below-next.result c.args.key d.id _
            c.in_ok-emit.ensures.ok c.if-key-self.false refl refl
            (at_id t c.args.key d is)
            (λ other a b. subst (λ (l : List Descriptor). IsKeyBelow l d.id other)
            (c.deref-2.ensures ∙ c.table-2.ensures ∙ table)
            (c.end_below-next.ensures.below other a b)) c.requires i.2.played;
        noted = noted_after g.K.UnitRun.unit _ _ p.registered.keys _ c.in_ok-emit.ensures.ok
            i.2.noted;
      },
      subst (λ s. Extends g.K.UnitRun.since s) (sym c.in_ok-emit.ensures.ok)
          (extends_more _ _ _ i.3),
    )
