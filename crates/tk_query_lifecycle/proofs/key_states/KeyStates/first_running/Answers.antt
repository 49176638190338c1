use Rattle.std.proofs.Common.{None, Some, ap, ◌∙◌, arith, subst}
use Rattle.tk_query_lifecycle.specs.steps.KeyStates.{by_key, IsFirstRunning}
use Rattle.tk_query_lifecycle.proofs.StateLemmas.{none_in_row, first_in_row, none_in_rows}
use Rattle.tk_query_lifecycle.proofs.key_states.KeyStates.first_running.Goals as goal

pub loop-number-preserved : goal.loop-number-preserved
loop-number-preserved c =
    none_in_row c.deref-row-items.result.now c.loop-number.number c.row-item.result c.loop-number.invariant c.loop-number-test.true
    (subst (λ row. IsFirstRunning row None) c.row-item.is c.in_default.ensures.first)

pub returns-in-Some : goal.returns-in-Some
returns-in-Some c =
    first_in_row c.deref-row-items.result.now c.args.self.now c.loop-number.number c.in-Some.index _ c.row-item.result
    (ap by_key c.deref-row-items.ensures.value ∙ c.self.view_is) c.loop-number.invariant c.loop-number-test.true
    (subst (λ row. IsFirstRunning row (Some c.in-Some.index)) c.row-item.is c.in-Some.ensures.first) c.in-Some.ensures.within (omega arith)

pub returns : goal.returns
returns c =
    none_in_rows c.deref-row-items.result.now c.args.self.now c.loop-number.number
    (ap by_key c.deref-row-items.ensures.value ∙ c.self.view_is) c.loop-number.invariant c.loop-number-test.false
