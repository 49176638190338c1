use Rattle.tk_queue_session.proofs.RuleSteps.{holds_states, begins_fresh, push_is_step, full_is_none, take_is_step, empty_is_none, split_is_none, bit_is_none, join_is_none}
use Rattle.tk_queue_session.proofs.laws.each_step_is_a_core_step.Goals as goal

pub returns-clause-rule : goal.returns-clause-rule
returns-clause-rule c = holds_states

pub returns-clause-first : goal.returns-clause-first
returns-clause-first c = begins_fresh

pub returns-clause-push : goal.returns-clause-push
returns-clause-push c = push_is_step

pub returns-clause-full : goal.returns-clause-full
returns-clause-full c = full_is_none

pub returns-clause-take : goal.returns-clause-take
returns-clause-take c = take_is_step

pub returns-clause-empty : goal.returns-clause-empty
returns-clause-empty c = empty_is_none

pub returns-clause-split : goal.returns-clause-split
returns-clause-split c = split_is_none

pub returns-clause-bit_zero : goal.returns-clause-bit_zero
returns-clause-bit_zero c = bit_is_none 0

pub returns-clause-bit_one : goal.returns-clause-bit_one
returns-clause-bit_one c = bit_is_none 1

pub returns-clause-join : goal.returns-clause-join
returns-clause-join c = join_is_none
