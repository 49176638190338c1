use Rattle.std.proofs.Common.{sym, ◌∙◌}
use Rattle.tk_query_lifecycle.proofs.StateLemmas.{none_first, none_more, first_here, none_at_all}
use Rattle.tk_query_lifecycle.proofs.key_states.Row.first_running.Goals as goal

pub loop-index-init : goal.loop-index-init
loop-index-init c = none_first c.deref-state-items.result.now

pub loop-index-preserved : goal.loop-index-preserved
loop-index-preserved c = none_more c.deref-state-items.result.now c.loop-index.index _ c.loop-index.invariant c.loop-index-test.true (sym c.runs.ensures ∙ c.if-runs.false)

pub returns-then-runs-clause-first : goal.returns-then-runs-clause-first
returns-then-runs-clause-first c = first_here c.deref-state-items.result.now c.args.self.now c.loop-index.index _ (c.deref-state-items.ensures.value ∙ c.self.view_is) c.loop-index.invariant c.loop-index-test.true (sym c.runs.ensures ∙ c.if-runs.true)

pub returns-clause-first : goal.returns-clause-first
returns-clause-first c = none_at_all c.deref-state-items.result.now c.args.self.now c.loop-index.index (c.deref-state-items.ensures.value ∙ c.self.view_is) c.loop-index.invariant c.loop-index-test.false
