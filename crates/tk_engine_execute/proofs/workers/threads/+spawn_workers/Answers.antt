use Rattle.std.proofs.Common.{rules, arith, ◌≡◌, ◌+◌, refl, ap, sym, ◌∙◌}
use Rattle.std.specs.Prelude.{vec_len}
use Rattle.tk_queue_session.specs.Senders.{SenderView}
use Rattle.tk_engine_execute.specs.steps.Workers.{shared_parts, run_units, IsReady, IsDone}
use Rattle.tk_engine_execute.proofs.UnstartedWorkers.{unstarted_ready, unstarted_sender, unstarted_rest, one_fewer}
use Rattle.tk_engine_execute.proofs.Outcomes.{nobody_joined, one_joined, one_lacks_thread}
use Rattle.tk_engine_execute.proofs.workers.threads.+spawn_workers.Goals as goal

pub spawn_with-requires-clause-runs : goal.spawn_with-requires-clause-runs
spawn_with-requires-clause-runs g t c κs within =
    let ready : IsReady (shared_parts c.args.claim.now c.args.book.now (g.E.Engine.table c.args.engine.now)) c.in-Some.handles = unstarted_ready _ _ _ _ _ c.in-Some.ensures.some c.requires.ready.unstarted in
    search rules

pub spawn_workers-requires-clause-ready : goal.spawn_workers-requires-clause-ready
spawn_workers-requires-clause-ready g t c κs within =
    let fewer = one_fewer _ _ _ c.in-Some.ensures.some in
    let room = c.requires.ready.room in record {
      unstarted = unstarted_rest _ _ _ _ _ c.in-Some.ensures.some c.requires.ready.unstarted;
      collector = c.requires.ready.collector;
      empty = c.requires.ready.empty;
      room = omega (arith, fewer, room);
    }

pub spawn_workers-requires-in-Err-clause-ready : goal.spawn_workers-requires-in-Err-clause-ready
spawn_workers-requires-in-Err-clause-ready g t c κs within =
    let fewer = one_fewer _ _ _ c.in-Some.ensures.some in
    let room = c.requires.ready.room in record {
      unstarted = rw c.stop_waiting_for.ensures.took_more.session (unstarted_rest _ _ _ _ _ c.in-Some.ensures.some c.requires.ready.unstarted);
      collector = c.stop_waiting_for.ensures.collector;
      empty = c.requires.ready.empty;
      room = omega (arith, fewer, room);
    }

pub returns-in-Ok-clause-run_to_the_end : goal.returns-in-Ok-clause-run_to_the_end
returns-in-Ok-clause-run_to_the_end g t c =
    let units = run_units c.args.claim.now (g.E.Engine.may c.args.engine.now) (g.E.Engine.units c.args.engine.now) (g.E.Engine.fails c.args.engine.now) in
    let session = c.args.collected.now.collector.receiver.session in
    let rest = c.take.new.self.senders in
    let o = c.join.result in
    let last = unstarted_sender _ _ _ _ _ c.in-Some.ensures.some c.requires.ready.unstarted in
    let handles = c.in-Some.handles in
    let own : IsDone units handles.sender.session handles.sender.worker o = search rules in
    let index : handles.sender.worker ≡ vec_len rest + 1 = ap (λ (s : SenderView). s.worker) last ∙ ap (λ n. n + 1) (sym (rest.ok.0)) in
    let done : IsDone units session (vec_len rest + 1) o = rw (ap (λ (s : SenderView). s.session) last, index) at own in
    one_joined units (vec_len rest) (vec_len c.args.unstarted.now.senders) c.args.collected.now c.spawn_workers.new.collected (record { collector = c.spawn_workers.new.collected.collector; worker_ends = c.push_reserved.new.self }) o (one_fewer _ _ _ c.in-Some.ensures.some) c.spawn_workers.ensures.run_to_the_end refl c.push_reserved.ensures.items done

pub returns-in-Err-clause-run_to_the_end : goal.returns-in-Err-clause-run_to_the_end
returns-in-Err-clause-run_to_the_end g t c =
    one_lacks_thread (run_units c.args.claim.now (g.E.Engine.may c.args.engine.now) (g.E.Engine.units c.args.engine.now) (g.E.Engine.fails c.args.engine.now)) (vec_len c.take.new.self.senders) (vec_len c.args.unstarted.now.senders) c.args.collected.now _ c.spawn_workers-in-Err.new.collected
    (one_fewer _ _ _ c.in-Some.ensures.some) c.stop_waiting_for.ensures.took_more c.stop_waiting_for.ensures.lacks_thread c.spawn_workers-in-Err.ensures.at_most c.spawn_workers-in-Err.ensures.run_to_the_end

pub returns-in_default : goal.returns-in_default
returns-in_default g t c =
    let last = c.collect_all.ensures in record {
      run_to_the_end = nobody_joined (run_units c.args.claim.now (g.E.Engine.may c.args.engine.now) (g.E.Engine.units c.args.engine.now) (g.E.Engine.fails c.args.engine.now)) (vec_len c.args.unstarted.now.senders) c.args.collected.now c.collect_all.new.self c.in_default.ensures.none c.requires.ready.empty
          last.took_more last.collector last.none_is_awaited last.lacks_thread;
      capacity = omega arith;
      at_most = let empty = c.requires.ready.empty in omega (arith, empty);
    }

pub push_reserved-requires : goal.push_reserved-requires
push_reserved-requires g t c =
    let fewer = one_fewer _ _ _ c.in-Some.ensures.some in
    let room = c.requires.ready.room in
    let kept = c.spawn_workers.ensures.capacity in
    let few = c.spawn_workers.ensures.at_most in
    omega (arith, fewer, room, kept, few)

pub returns-in-Ok-clause-capacity : goal.returns-in-Ok-clause-capacity
returns-in-Ok-clause-capacity g t c =
    let kept = c.spawn_workers.ensures.capacity in
    let same = c.push_reserved.ensures.capacity in
    omega (arith, kept, same)

pub returns-in-Ok-clause-at_most : goal.returns-in-Ok-clause-at_most
returns-in-Ok-clause-at_most g t c =
    let fewer = one_fewer _ _ _ c.in-Some.ensures.some in
    let few = c.spawn_workers.ensures.at_most in
    let one = c.push_reserved.ensures.len in
    omega (arith, fewer, few, one)

pub returns-in-Err-clause-capacity : goal.returns-in-Err-clause-capacity
returns-in-Err-clause-capacity g t c = c.spawn_workers-in-Err.ensures.capacity

pub returns-in-Err-clause-at_most : goal.returns-in-Err-clause-at_most
returns-in-Err-clause-at_most g t c =
    let fewer = one_fewer _ _ _ c.in-Some.ensures.some in
    let few = c.spawn_workers-in-Err.ensures.at_most in
    omega (arith, fewer, few)
