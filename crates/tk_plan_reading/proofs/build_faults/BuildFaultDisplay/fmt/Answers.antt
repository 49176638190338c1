use Rattle.std.proofs.Common.{Some, refl, sym, ap, ◌∙◌}
use Rattle.std.proofs.Output.{has_written_append, has_written_of_eq}
use Rattle.tk_plan_json.specs.FaultTexts.{plan_fault_text}
use Rattle.tk_plan_reading.specs.BuildFaultTexts.{text_at}
use Rattle.tk_plan_reading.proofs.build_faults.BuildFaultDisplay.fmt.Goals as goal

pub returns-in_ok-write-in-Some-clause-writes : goal.returns-in_ok-write-in-Some-clause-writes
returns-in_ok-write-in-Some-clause-writes g c = λ plain ok.
    let fault = plan_fault_text c.args.self.now.fault in
    let first = c.in_ok-write-in-Some.ensures.writes plain refl in
    has_written_of_eq _ _ _ _ _ (ap (λ id. text_at fault (Some id)) c.as_str.ensures ∙ ap (text_at fault) (sym c.in-Some.is))
    (has_written_append _ _ _ _ _ _ first (c.fmt_field.ensures first.plain ok))
