use Rattle.std.proofs.Common.{refl}
use Rattle.tk_locks.proofs.RefusedTries.{free, one_word, last}
use Rattle.tk_locks.proofs.laws.refusal_has_one_cause.Goals as goal

pub returns-clause-free : goal.returns-clause-free
returns-clause-free c = free

pub returns-clause-one_cause : goal.returns-clause-one_cause
returns-clause-one_cause c = λ need word found held moved. held moved.0

pub returns-clause-moved : goal.returns-clause-moved
returns-clause-moved c = λ need word moved. moved.1 refl

pub returns-clause-one_word : goal.returns-clause-one_word
returns-clause-one_word c = one_word

pub returns-clause-last : goal.returns-clause-last
returns-clause-last c = last
