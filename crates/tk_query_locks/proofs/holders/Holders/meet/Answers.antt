use Rattle.std.proofs.Common.{sym, ◌∙◌, subst}
use Rattle.std.specs.Prelude.{◌↔◌, IsTrue}
use Rattle.std.proofs.lemmas.Bool.{false≢true}
use Rattle.tk_query_locks.specs.steps.Holders.{Meet}
use Rattle.tk_query_locks.proofs.HolderLemmas.{meet_is}
use Rattle.tk_query_locks.proofs.holders.Holders.meet.Goals as goal

pub returns-then-not-runs_at : goal.returns-then-not-runs_at
returns-then-not-runs_at c = (
  λ yes. absurd (false≢true yes),
  λ met. sym c.if-not-runs_at.true ∙ c.runs_at.ensures.1 met.running,
)

pub returns-then-not-runs_at-2 : goal.returns-then-not-runs_at-2
returns-then-not-runs_at-2 c = (
  λ yes. absurd (false≢true yes),
  λ met. sym c.if-not-runs_at-2.true ∙ c.runs_at-2.ensures.1 met.starts,
)

pub returns : goal.returns
returns c =
    subst (λ b. IsTrue b ↔ Meet c.args.self.now c.args.first c.args.second) (sym c.is_some.ensures)
    (meet_is c.args.self.now c.args.first c.args.second c.least_lock.result
    (c.runs_at.ensures.0 c.if-not-runs_at.false) (c.runs_at-2.ensures.0 c.if-not-runs_at-2.false) c.least_lock.ensures)
