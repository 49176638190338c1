use Rattle.std.proofs.Common.{length, map, sym}
use Rattle.std.proofs.lemmas.Result.{err_from_is_err_and}
use Rattle.std.proofs.lemmas.List.{length-map}
use Rattle.std.specs.Arc.{arc_value}
use Rattle.tk_queue_replay.proofs.Plays.{one_turn, stopped, begins}
use Rattle.tk_queue_replay.proofs.replays.replay.Goals as goal

pub turns-init : goal.turns-init
turns-init c =
    let scripts = map (λ s. s.items) c.args.scripts.now in
    let b = begins (arc_value c.args.table) scripts (length c.args.scripts.now) c.new.result c.in_ok-emitted.emitted.items c.new-2.result (sym (length-map c.args.scripts.now (λ s. s.items))) c.new.ensures (c.in_ok-emitted.ensures.items_if_clones_equal (λ count same. same)) c.new-2.ensures.table c.new-2.ensures.entries in
    record { suits = b.0; so_far = b.1 }

pub returns-in_err-turn : goal.returns-in_err-turn
returns-in_err-turn c =
    let p = err_from_is_err_and c.from_residual-in_err-turn.result c.from_residual-in_err-turn.ensures.1 in
    let scripts = map (λ s. s.items) c.args.scripts.now in
    rw (p.1, p.2) (stopped (arc_value c.args.table) scripts c.args.turns.now c.turns.number _ c.turns.playing c.in_err-turn.field-0.0 c.turns-test.true c.turns.invariant.so_far c.in_err-turn.ensures.err)

pub turns-preserved : goal.turns-preserved
turns-preserved c =
    let scripts = map (λ s. s.items) c.args.scripts.now in
    record { suits = c.in_ok-turn.ensures.suits; so_far = one_turn scripts c.args.turns.now c.turns.number _ _ c.turns.playing c.turn.new.self c.turns-test.true c.turns.invariant.so_far c.in_ok-turn.ensures.ok }
