use Rattle.std.proofs.Common.{◌≡◌}
use Rattle.crossbeam_queue.specs.Passes.{view, IsSamePass}
use Rattle.tk_queue_session.proofs.pushes.push.Given as goal

abbrev pub invariant-loop : goal.invariant-loop
invariant-loop g l = record { same : IsSamePass l.initial.pass l.pass; known : view l.pass ≡ view l.initial.pass; item : l.left ≡ l.initial.left }
