use Rattle.std.specs.Int.RustNames.{count_ones}
use Rattle.std.specs.Simd.Lanes.{chunk}
use Rattle.std.proofs.lemmas.Simd.{map-map}
use Rattle.tk_lanes.proofs.mask_words.ones_at.Goals as goal

pub returns : goal.returns
returns c = map-map (λ n. n) count_ones (chunk c.args.at 8 c.args.words.now)
