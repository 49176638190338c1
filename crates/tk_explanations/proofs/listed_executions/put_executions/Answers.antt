use Rattle.std.proofs.Common.{ap, sym}
use Rattle.std.specs.List.{flat_map}
use Rattle.tk_streams.proofs.PieceLemmas.{adds_as, adds_both, adds_none}
use Rattle.tk_explanations.specs.Lists.{listed_execution}
use Rattle.tk_explanations.proofs.listed_executions.put_executions.Goals as goal

pub executions-preserved : goal.executions-preserved
executions-preserved g c = λ last h.
    c.executions.invariant last (adds_as _ _ _ _ (ap (flat_map (listed_execution c.args.«record».now)) (sym c.in-Some.ensures.steps)) (adds_both _ _ _ _ _ c.put_execution.ensures h))

pub returns : goal.returns
returns g c = c.executions.invariant _ (adds_as _ _ _ _ (ap (flat_map (listed_execution c.args.«record».now)) (sym c.in-None.ensures.steps.0)) (adds_none _))
