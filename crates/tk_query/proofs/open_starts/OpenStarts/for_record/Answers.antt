use Rattle.tk_query.proofs.KeyLemmas.{slots_of}
use Rattle.tk_query.proofs.open_starts.OpenStarts.for_record.Goals as goal

pub returns-clause-slots : goal.returns-clause-slots
returns-clause-slots c =
    slots_of c.args.«record».now c.keys-key-items.result.now c.loop-key.key-index c.loop-key.starts c.keys-key-items.ensures c.loop-key-test.false c.loop-key.invariant.0
