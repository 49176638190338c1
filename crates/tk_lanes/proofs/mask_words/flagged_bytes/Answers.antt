use Rattle.std.proofs.Common.{◌∙◌, ℕ, eqb, not, map, replicate, ap, arith, w8, bit_and, List}
use Rattle.std.specs.Simd.Lanes.{chunk, zip2, mask_l}
use Rattle.std.proofs.lemmas.Simd.{bitmask_splat, length-chunk, length-zip2, zip2_splat, map-map}
use Rattle.tk_lanes.proofs.mask_words.flagged_bytes.Goals as goal

pub returns : goal.returns
returns c =
    let lanes = chunk c.args.at 64 c.args.items.now in
    let values = replicate 64 c.args.value in
    let long = length-chunk c.args.at 64 c.args.items.now c.requires in
    bitmask_splat w8 (λ (a b : ℕ). not (eqb a b)) (zip2 bit_and lanes values) 64 0 (length-zip2 bit_and lanes values long ∙ long) (omega arith)
    ∙ ap (λ (l : List ℕ). mask_l (map (λ x. not (eqb x 0)) l)) (zip2_splat bit_and lanes 64 c.args.value long)
    ∙ ap mask_l (map-map (λ x. not (eqb x 0)) (λ x. bit_and x c.args.value) lanes)
