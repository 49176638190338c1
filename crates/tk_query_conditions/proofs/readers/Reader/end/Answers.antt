use Rattle.std.proofs.Common.{sym, ◌∙◌, arith}
use Rattle.tk_query_conditions.specs.steps.Reader.{state_of}
use Rattle.tk_query_conditions.proofs.ReaderLemmas.{depth_is, ended_depth}
use Rattle.std.proofs.lemmas.Bool.{eqb-false}
use Rattle.tk_query_conditions.proofs.readers.Reader.end.Goals as goal

pub returns-then-not-is_empty : goal.returns-then-not-is_empty
returns-then-not-is_empty c = λ d e.
    let s = c.args.self in
    let deep = depth_is s.stack.items s.position in
    let none = ended_depth (state_of s) d e in
    let ne = eqb-false _ 0 (sym c.is_empty.ensures ∙ c.if-not-is_empty.true) in
    omega (arith, s.stack.ok.0)
