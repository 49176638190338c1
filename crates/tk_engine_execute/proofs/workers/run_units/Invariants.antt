use Rattle.std.proofs.Common.{◌≡◌, None}
use Rattle.tk_claims.specs.Run.{Emits}
use Rattle.tk_engine_execute.specs.Engines.{IsSameSender}
use Rattle.tk_engine_execute.proofs.workers.run_units.Given as goal

abbrev pub invariant-loop : goal.invariant-loop
invariant-loop g l = record {
  same : IsSameSender l.initial.handles.sender l.handles.sender;
  claim : l.handles.claim_seat.claim ≡ l.initial.handles.claim_seat.claim;
  book : l.handles.book_seat.book ≡ l.initial.handles.book_seat.book;
  empty : l.handles.book_seat.holds ≡ None;
  emits : Emits (g.E.Engine.may l.engine) l.initial.handles.sender.worker 0 l.handles.claim_seat.numbers l.handles.sender.sent;
}
