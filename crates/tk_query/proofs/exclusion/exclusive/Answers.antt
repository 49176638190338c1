use Rattle.tk_query.specs.declared.exclusion.Holders.{Holders}
use Rattle.tk_query.proofs.ExclusionLemmas.{exclusive_is}
use Rattle.tk_query.proofs.exclusion.exclusive.Goals as goal

pub returns : goal.returns
returns c =
    let holders : Holders = record { ends = c.in_ok-ends_of.field-0; writers = c.in_ok-fitting.field-0; readers = c.in_ok-fitting-2.field-0 } in
    exclusive_is c.args.events.now c.args.writers.now c.args.readers.now holders c.in_ok-ends_of.ensures c.in_ok-fitting.ensures c.in_ok-fitting-2.ensures c.answer.result c.answer.ensures
