use Rattle.std.proofs.Common.{◌≡◌}
use Rattle.test_runs.proofs.senders.send_all.Given as goal

abbrev pub invariant-loop-stamp : goal.invariant-loop-stamp
invariant-loop-stamp g l = l.sender.session ≡ l.initial.sender.session
