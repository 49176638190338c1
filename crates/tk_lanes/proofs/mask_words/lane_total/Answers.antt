use Rattle.std.proofs.Common.{◌∙◌, ◌<◌, ◌+◌, ◌^◌, arith, w32}
use Rattle.std.specs.Simd.Lanes.{dots, sum_l}
use Rattle.std.proofs.lemmas.Simd.{dot4_Fits, sum_fits, fold-sum}
use Rattle.tk_lanes.proofs.Lanes.{all_ones, sum_dots_ones, bytes_total}
use Rattle.tk_lanes.proofs.mask_words.lane_total.Goals as goal

pub dot4 : goal.dot4
dot4 c = (dot4_Fits c.args.lanes all_ones c.fits-lanes.1 tt, tt)

pub overflow_add-result : goal.overflow_add-result
overflow_add-result c =
    let small : 0 + sum_l (dots c.args.lanes all_ones) < 2 ^ 32 = omega (arith, sum_dots_ones c.args.lanes c.fits-lanes.0, bytes_total c.args.lanes c.fits-lanes.0 c.fits-lanes.1) in
    sum_fits w32 0 (dots c.args.lanes all_ones) small

pub returns : goal.returns
returns c = fold-sum 0 (dots c.args.lanes all_ones) ∙ omega (arith, sum_dots_ones c.args.lanes c.fits-lanes.0)
