use Rattle.std.proofs.Common.{◌≡◌, ◌+◌, ◌-◌}
use Rattle.tk_locks.specs.Words.{packed}
use Rattle.tk_locks.specs.Needs.{lane}
use Rattle.tk_locks.proofs.needs.Need.word.Given as goal

abbrev pub invariant-loop-done : goal.invariant-loop-done
invariant-loop-done l = l.word ≡ packed l.done (λ i. lane (record { reads = l.self-inside.reads; writes = l.self-inside.writes }) (16 - l.done + i))
