use Rattle.std.specs.List.{flat_map}
use Rattle.tk_streams.specs.Pieces.{Adds, Outgoing, outgoing}
use Rattle.tk_explanations.specs.Lists.{listed_execution}
use Rattle.tk_explanations.proofs.listed_executions.put_executions.Given as goal

abbrev pub invariant-executions : goal.invariant-executions
invariant-executions g l =
    let contents = g.T.Target.contents in
    let broken = g.T.Target.broken in
    (last : Outgoing) → Adds (outgoing (contents l.target) (broken l.target) l.piece) last (flat_map (listed_execution l.«record») l.execution-iterator)
    → Adds (outgoing (contents l.initial.target) (broken l.initial.target) l.initial.piece) last (flat_map (listed_execution l.«record») l.fn.executions)
