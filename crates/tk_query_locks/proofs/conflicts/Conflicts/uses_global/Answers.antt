use Rattle.std.proofs.Common.{sym, ◌∙◌, subst}
use Rattle.tk_record.specs.Recorded.{Recorded}
use Rattle.tk_query_locks.specs.steps.Parents.{AreParents, AreParentsWhereUsed}
use Rattle.tk_query_locks.proofs.DescentLemmas.{told_not}
use Rattle.tk_query_locks.proofs.conflicts.Conflicts.uses_global.Goals as goal

pub returns-then-is_test-clause-yes : goal.returns-then-is_test-clause-yes
returns-then-is_test-clause-yes c = λ none.
    let kept = subst (AreParentsWhereUsed c.self.inside.«record».now) c.in-Some.is c.self.invariant in
    let are = subst (λ (r : Recorded). AreParents r c.in-Some.parents) c.self.view_is kept in
    record {
      test = sym c.is_test.ensures ∙ c.if-is_test.true;
      childless = told_not c.has.result (c.has.ensures c.args.self.now are) none;
    }
