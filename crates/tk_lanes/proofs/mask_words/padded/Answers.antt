use Rattle.std.proofs.Common.{◌++◌, length, ap}
use Rattle.std.proofs.lemmas.List.{drop-replicate}
use Rattle.tk_lanes.proofs.mask_words.padded.Goals as goal

pub returns : goal.returns
returns g c = rw c.copy_from_slice.ensures.after (ap (λ l. c.args.items.now ++ l) (drop-replicate (length c.args.items.now) 64 c.args.filler))
