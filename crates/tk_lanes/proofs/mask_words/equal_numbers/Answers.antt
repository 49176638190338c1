use Rattle.std.proofs.Common.{eqb, arith, w32}
use Rattle.std.specs.Simd.Lanes.{chunk}
use Rattle.std.proofs.lemmas.Simd.{bitmask_splat, length-chunk}
use Rattle.tk_lanes.proofs.mask_words.equal_numbers.Goals as goal

pub returns : goal.returns
returns c =
    let lanes = chunk c.args.at 64 c.args.items.now in
    bitmask_splat w32 eqb lanes 64 c.args.value (length-chunk c.args.at 64 c.args.items.now c.requires) (omega arith)
