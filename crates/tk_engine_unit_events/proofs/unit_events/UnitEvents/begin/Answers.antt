use Rattle.std.proofs.Common.{[], ap, append-nil, sym, ◌∙◌}
use Rattle.tk_queue_session.specs.Senders.{SenderView}
use Rattle.tk_engine_unit_events.specs.Running.{with_ids}
use Rattle.tk_engine_unit_events.specs.Units.{UnitKeys}
use Rattle.tk_engine_unit_events.proofs.Played.{played_none}
use Rattle.tk_engine_unit_events.proofs.UnitStates.{began}
use Rattle.tk_engine_unit_events.proofs.Taken.{noted_none}
use Rattle.tk_engine_unit_events.proofs.unit_events.UnitEvents.begin.Goals as goal

pub invariant_of-result : goal.invariant_of-result
invariant_of-result g c =
    let keys = c.keys_of-next.ensures ∙ c.requires.keys in
    let unit = ap (λ (k : UnitKeys). k.unit) keys in (
      c.requires.name,
      c.requires.frame,
      record {
        number = unit;
        end = ap (λ (k : UnitKeys). k.end) keys;
        running = began c.args.shape.now g.K.UnitRun.unit.frame c.args.unit
            g.K.UnitRun.unit.keys.unit g.K.UnitRun.unit.start _
            (with_ids g.K.UnitRun.unit.frame.table c.new.result.elements) c.new-2.result.keys
            c.keys_of-next.result.0 c.requires.frame unit c.requires.start
            (ap (with_ids g.K.UnitRun.unit.frame.table) c.new.ensures)
            c.shows_shape.ensures.around c.requires.is_unit c.requires.table;
        played = played_none g.K.UnitRun.unit.frame.table g.K.UnitRun.unit.may_step
            g.K.UnitRun.unit.keys.first g.K.UnitRun.unit.start _ c.keys_of-next.result.0
            c.requires.start (ap (λ (k : UnitKeys). k.first) keys);
        noted = noted_none g.K.UnitRun.unit _ _ c.new-2.ensures.empty;
      },
      (
        [],
        ap (λ (s : SenderView). s.sent) (c.requires.start ∙ sym c.requires.since)
            ∙ sym (append-nil _),
      ),
    )
