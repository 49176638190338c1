use Rattle.std.proofs.Common.{length, refl, arith}
use Rattle.std.proofs.lemmas.Option.{slice_get_read}
use Rattle.tk_explanations.proofs.FirstFits.{first_all, somewhere}
use Rattle.tk_explanations.proofs.loosely.first_positions.Goals as goal

pub first_position-requires : goal.first_position-requires
first_position-requires c =
    let cs = c.args.conditions.now in
    let k = c.loop-condition.condition-index in
    somewhere c.args.events.now cs k c.condition-item.result (slice_get_read cs (length cs) k c.condition-item.result refl (omega arith) c.condition-item.is) (c.requires k (omega arith))

pub returns : goal.returns
returns c = first_all c.args.events.now c.args.conditions.now c.loop-condition.condition-index c.loop-condition.found.items (omega arith) c.loop-condition.invariant
