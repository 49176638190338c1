use Rattle.std.proofs.Common.{ℕ, ◌<◌}
use Rattle.tk_query_locks.specs.steps.Holders.{AreLasting, AreListed, MeetsNone}
use Rattle.tk_query_locks.proofs.holders.Holders.first_meeting.Given as goal

abbrev pub invariant-loop-second : goal.invariant-loop-second
invariant-loop-second l = record {
  listed : AreListed l.self l.second l.running;
  before : (j : ℕ) → j < l.second → MeetsNone l.self j;
  lasting : AreLasting l.self l.second l.lasting;
}
