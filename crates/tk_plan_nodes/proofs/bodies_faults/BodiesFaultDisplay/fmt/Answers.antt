use Rattle.std.proofs.Common.{refl, sym, ap, ◌∙◌}
use Rattle.std.proofs.Output.{has_written_append, has_written_of_eq}
use Rattle.tk_plan_nodes.specs.BodiesFaultTexts.{bodies_fault_text}
use Rattle.tk_plan_nodes.specs.declared.bodies_faults.BodiesFault.TheVariants.{NeverCalled}
use Rattle.tk_plan_nodes.proofs.bodies_faults.BodiesFaultDisplay.fmt.Goals as goal

pub returns-in_ok-fmt_field-in-NeverCalled-clause-writes : goal.returns-in_ok-fmt_field-in-NeverCalled-clause-writes
returns-in_ok-fmt_field-in-NeverCalled-clause-writes g c = λ plain ok.
    let first = c.in_ok-write_str-in-NeverCalled.ensures.writes plain refl in
    let id = c.in_ok-fmt_field-in-NeverCalled.ensures first.plain refl in
    let last = c.write_str-in-NeverCalled.ensures.writes id.plain ok in
    has_written_of_eq _ _ _ _ _ (ap (λ id. bodies_fault_text (NeverCalled id)) c.as_str.ensures ∙ ap bodies_fault_text (sym c.in-NeverCalled.is))
    (has_written_append _ _ _ _ _ _ first (has_written_append _ _ _ _ _ _ id last))
