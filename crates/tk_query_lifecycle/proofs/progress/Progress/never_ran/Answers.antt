use Rattle.std.proofs.Common.{refl, ap, ◌∙◌}
use Rattle.std.specs.Prelude.{not}
use Rattle.tk_query_lifecycle.specs.steps.KeyStates.{is_idle}
use Rattle.tk_query_lifecycle.specs.declared.key_states.KeyState.{KeyState}
use Rattle.tk_query_lifecycle.proofs.NeverRanLemmas.{where_it_ran, with_parent, without_parent}
use Rattle.tk_query_lifecycle.proofs.progress.Progress.never_ran.Goals as goal

pub returns-then-has_run : goal.returns-then-has_run
returns-then-has_run c =
    where_it_ran c.args.record.now c.args.self.now.states c.args.self.now.ids c.requires.progress c.args.key c.args.descriptor.now c.requires.stands c.has_run.result
    (c.has_run.ensures ∙ ap (λ (s : KeyState). not (is_idle s.phase)) c.at.ensures) c.if-has_run.true

pub returns-in-Some : goal.returns-in-Some
returns-in-Some c =
    with_parent c.args.record.now c.args.self.now.states c.args.self.now.ids c.requires.progress c.args.key c.args.descriptor.now c.requires.stands c.has_run.result
    (c.has_run.ensures ∙ ap (λ (s : KeyState). not (is_idle s.phase)) c.at.ensures) c.if-has_run.false
    c.in_ok-parent.field-0 c.in-Some.parent (c.in_ok-parent.ensures c.args.record.now refl c.requires.progress.ids_are) c.in-Some.is c.is_due.result c.is_due.ensures

pub returns-in-None : goal.returns-in-None
returns-in-None c =
    without_parent c.args.record.now c.args.self.now.states c.args.self.now.ids c.requires.progress c.args.key c.args.descriptor.now c.requires.stands c.has_run.result
    (c.has_run.ensures ∙ ap (λ (s : KeyState). not (is_idle s.phase)) c.at.ensures)
    c.in_ok-parent.field-0 (c.in_ok-parent.ensures c.args.record.now refl c.requires.progress.ids_are) c.in-None.is
