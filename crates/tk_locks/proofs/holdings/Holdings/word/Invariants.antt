use Rattle.std.proofs.Common.{◌≡◌, sum_by, take}
use Rattle.tk_locks.specs.Holdings.{held_word}
use Rattle.tk_locks.proofs.holdings.Holdings.word.Given as goal

abbrev pub invariant-loop-held : goal.invariant-loop-held
invariant-loop-held l = l.word ≡ sum_by held_word (take l.held-index l.held-items)
