use Rattle.std.proofs.Common.{◌≡◌}
use Rattle.test_sessions.proofs.sessions.passes.Given as goal

abbrev pub invariant-loop-stamp : goal.invariant-loop-stamp
invariant-loop-stamp g l = record {
  sender : l.sender.session ≡ l.initial.sender.session;
  receiver : l.receiver.session ≡ l.initial.receiver.session;
}
