use Rattle.std.proofs.Common.{◌≡◌, ◌++◌, length, map}
use Rattle.std.specs.Arc.{arc_value}
use Rattle.std.specs.Vec.Iter.{into_iter_items, into_iter_len}
use Rattle.crossbeam_queue.specs.Passes.{view, IsPassOf}
use Rattle.tk_queue_session.specs.PassViews.{pass_of_receiver}
use Rattle.tk_queue_session.specs.steps.{pass_of_token}
use Rattle.tk_queue_session.proofs.receivers.Receiver.join.Given as goal

abbrev pub invariant-loop-token : goal.invariant-loop-token
invariant-loop-token l = record {
  same : IsPassOf (arc_value l.queue) l.pass;
  session : l.pass.table_id ≡ l.initial.pass.table_id;
  known : view l.pass ≡ pass_of_receiver (length l.fn.self.table) l.fn.self.workers l.fn.self.taken (map pass_of_token l.yielded);
  rest : l.yielded ++ into_iter_items l.token-iterator ≡ into_iter_items l.initial.token-iterator;
  left : into_iter_len l.token-iterator ≡ length (into_iter_items l.token-iterator);
}
