use Rattle.tk_locks.proofs.HoldingSteps.{state, grant, failure, load, release}
use Rattle.tk_locks.proofs.SeatSplits.{split, join}
use Rattle.tk_locks.proofs.laws.each_step_is_a_holdings_step.Goals as goal

pub returns-clause-state : goal.returns-clause-state
returns-clause-state c = state

pub returns-clause-grant : goal.returns-clause-grant
returns-clause-grant c = grant

pub returns-clause-failure : goal.returns-clause-failure
returns-clause-failure c = failure

pub returns-clause-load : goal.returns-clause-load
returns-clause-load c = load

pub returns-clause-release : goal.returns-clause-release
returns-clause-release c = release

pub returns-clause-split : goal.returns-clause-split
returns-clause-split c = split

pub returns-clause-join : goal.returns-clause-join
returns-clause-join c = join
