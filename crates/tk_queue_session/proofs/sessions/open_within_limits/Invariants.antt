use Rattle.std.proofs.Common.{◌≡◌, [], length}
use Rattle.std.specs.Arc.{arc_value}
use Rattle.crossbeam_queue.specs.Passes.{view, IsPassOf}
use Rattle.tk_queue_session.specs.PassViews.{pass_of_receiver}
use Rattle.tk_queue_session.specs.Senders.{fresh_senders}
use Rattle.tk_queue_session.proofs.sessions.open_within_limits.Given as goal

abbrev pub invariant-loop-done : goal.invariant-loop-done
invariant-loop-done l = record {
  same : IsPassOf (arc_value l.shared_queue) l.pass;
  known : view l.pass ≡ pass_of_receiver (length (arc_value l.table)) l.done [] [];
  made : l.senders.items ≡ fresh_senders l.pass.table_id (arc_value l.table) l.done;
}
