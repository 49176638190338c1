use Rattle.std.proofs.Common.{◌∷◌, Some, option_map, sym, ap, ◌∙◌}
use Rattle.tk_query_conditions.specs.steps.Reader.{group_of, groups_of, state_of}
use Rattle.tk_query_conditions.specs.steps.Reading.{After, close_empty}
use Rattle.tk_query_conditions.proofs.ReaderLemmas.{popped, close_empty_group}
use Rattle.tk_query_conditions.proofs.readers.close_empty.Goals as goal

pub returns : goal.returns
returns c =
    let rest = groups_of c.pop.new.self.items in
    let f = group_of c.in_ok-group.group in
    ap (λ s. close_empty s c.args.byte) (popped c.args.stack.items c.pop.new.self.items c.in_ok-group.group c.in_ok-group.ensures.items)
    ∙ ap (close_empty (f ∷ rest)) c.if-byte-ne41.false ∙ close_empty_group f rest 41
    ∙ ap (option_map (After rest)) (sym c.in_ok-condition.ensures) ∙ ap (λ s. Some s) (sym c.after.ensures)

pub returns-in_err-condition : goal.returns-in_err-condition
returns-in_err-condition c =
    let rest = groups_of c.pop.new.self.items in
    let f = group_of c.in_ok-group.group in
    ap (λ s. close_empty s c.args.byte) (popped c.args.stack.items c.pop.new.self.items c.in_ok-group.group c.in_ok-group.ensures.items)
    ∙ ap (close_empty (f ∷ rest)) c.if-byte-ne41.false ∙ close_empty_group f rest 41
    ∙ ap (option_map (After rest)) (sym c.in_err-condition.ensures) ∙ ap (option_map state_of) (sym c.from_residual-in_err-condition.ensures)
