use Rattle.std.proofs.Common.{sym, ◌∙◌, subst}
use Rattle.tk_query_locks.specs.steps.Conflicts.{IsAtMost}
use Rattle.tk_query_locks.proofs.ByteOrder.{not_after, not_before_itself, not_before_trans}
use Rattle.tk_query_locks.proofs.conflicts.Conflicts.lesser.Goals as goal

pub returns-in_default-clause-taken : goal.returns-in_default-clause-taken
returns-in_default-clause-taken c = λ over. not_before_itself c.args.name.now

pub returns-then-lt-clause-kept : goal.returns-then-lt-clause-kept
returns-then-lt-clause-kept c = λ other at.
    not_before_trans c.args.name.now c.in-Some.other.now other
    (not_after c.args.name.now c.in-Some.other.now (sym c.lt.ensures ∙ c.if-lt.true))
    (subst (λ l. IsAtMost l other) c.in-Some.is at)

pub returns-then-lt-clause-taken : goal.returns-then-lt-clause-taken
returns-then-lt-clause-taken c = λ over. not_before_itself c.args.name.now
