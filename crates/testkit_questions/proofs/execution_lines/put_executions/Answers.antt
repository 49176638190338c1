use Rattle.std.proofs.Common.{ap, sym, ◌∙◌}
use Rattle.std.specs.List.{flat_map}
use Rattle.testkit_questions.specs.Answers.{execution_line}
use Rattle.tk_streams.proofs.PieceLemmas.{adds_as, adds_both, adds_none}
use Rattle.testkit_questions.proofs.execution_lines.put_executions.Goals as goal

pub executions-preserved : goal.executions-preserved
executions-preserved g c = λ last h.
    let line = adds_as _ _ _ _ (c.as_bytes.ensures ∙ c.line_of.ensures) c.put.ensures in
    c.executions.invariant last (adds_as _ _ _ _ (ap (flat_map execution_line) (sym c.in-Some.ensures.steps)) (adds_both _ _ _ _ _ line h))

pub returns : goal.returns
returns g c = c.executions.invariant _ (adds_as _ _ _ _ (ap (flat_map execution_line) (sym c.in-None.ensures.steps.0)) (adds_none _))
