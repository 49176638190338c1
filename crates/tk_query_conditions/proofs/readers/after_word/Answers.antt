use Rattle.std.proofs.Common.{Some, ◌∙◌}
use Rattle.tk_query_conditions.specs.CondOf.{cond_of}
use Rattle.tk_query_conditions.specs.steps.Reader.{groups_of}
use Rattle.tk_query_conditions.proofs.ReaderLemmas.{after_nothing, after_atom, not_empty, step_made}
use Rattle.tk_query_conditions.proofs.readers.after_word.Goals as goal

pub returns-then-is_empty : goal.returns-then-is_empty
returns-then-is_empty c = after_nothing (groups_of c.args.stack.items) c.args.word.now c.args.byte c.is_empty.result c.is_empty.ensures c.if-is_empty.true ∙ c.close_empty.ensures

pub returns-in-Some : goal.returns-in-Some
returns-in-Some c =
    step_made c.close.result _ _
    (after_atom (groups_of c.args.stack.items) c.args.word.now c.args.byte (Some (cond_of c.in-Some.condition)) (not_empty c.args.word.now c.is_empty.result c.is_empty.ensures c.if-is_empty.false) c.in-Some.ensures)
    c.close.ensures

pub returns-in-None : goal.returns-in-None
returns-in-None c = after_atom (groups_of c.args.stack.items) c.args.word.now c.args.byte _ (not_empty c.args.word.now c.is_empty.result c.is_empty.ensures c.if-is_empty.false) c.in-None.ensures
