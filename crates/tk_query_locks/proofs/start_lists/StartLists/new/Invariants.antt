use Rattle.std.proofs.Common.{◌≡◌, length}
use Rattle.tk_query_locks.proofs.start_lists.StartLists.new.Given as goal

abbrev pub invariant-loop-number : goal.invariant-loop-number
invariant-loop-number l = length l.lists.items ≡ l.number
