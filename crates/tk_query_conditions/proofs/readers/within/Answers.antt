use Rattle.std.proofs.Common.{[], Some, sym, ap, ◌∙◌}
use Rattle.tk_query_conditions.specs.steps.Reader.{groups_of}
use Rattle.tk_query_conditions.specs.steps.Reading.{Word}
use Rattle.tk_query_conditions.proofs.ReaderLemmas.{popped}
use Rattle.tk_query_conditions.proofs.readers.within.Goals as goal

pub returns : goal.returns
returns c =
    ap (λ s. Some (Word s [])) (sym (popped c.push.new.self.items c.args.stack.items c.args.group c.in_ok-push.ensures.items))
    ∙ ap (λ w. Some (Word (groups_of c.push.new.self.items) w)) (sym c.new.ensures.items)
