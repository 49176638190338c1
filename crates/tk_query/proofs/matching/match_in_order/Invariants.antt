use Rattle.tk_query.specs.Asked.{fits}
use Rattle.tk_query.proofs.InTurn.{IsReached}
use Rattle.tk_query.proofs.matching.match_in_order.Given as goal

abbrev pub invariant-loop-k : goal.invariant-loop-k
invariant-loop-k l = IsReached (fits l.events) l.conditions l.k l.next l.positions.items
