use Rattle.std.proofs.Common.{sym, ◌∙◌}
use Rattle.tk_query_locks.proofs.NumberLemmas.{global_number}
use Rattle.tk_query_locks.proofs.lock_numbers.LockNumbers.global.Goals as goal

pub returns-clause-value : goal.returns-clause-value
returns-clause-value c = c.len.ensures.len ∙ sym (global_number c.args.self.now)
