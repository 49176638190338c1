use Rattle.std.proofs.Common.{◌≡◌}
use Rattle.test_runs.proofs.senders.take_all.Given as goal

abbrev pub invariant-loop : goal.invariant-loop
invariant-loop g l = record {
  next : (goal.iterator-loop g).can_next l.iterator';
  finite : (goal.iterator-loop g).is_finite l.iterator';
  session : l.receiver.session ≡ l.initial.receiver.session;
}
