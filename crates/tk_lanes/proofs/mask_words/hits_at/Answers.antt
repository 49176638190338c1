use Rattle.std.proofs.Common.{ℕ, Bool, List, eqb, replicate, ap, ◌∙◌, w8}
use Rattle.std.specs.Simd.Lanes.{chunk, sel_l}
use Rattle.std.proofs.lemmas.Simd.{length-chunk, tops_compared, zip2_splat}
use Rattle.tk_lanes.proofs.Lanes.{sel_l-map}
use Rattle.tk_lanes.proofs.mask_words.hits_at.Goals as goal

pub returns : goal.returns
returns c =
    let v = chunk c.args.at 64 c.args.items.now in
    let value = c.args.value in
    let long = length-chunk c.args.at 64 c.args.items.now c.requires in
    ap (λ (ms : List Bool). sel_l ms (replicate {A = ℕ} 64 1) (replicate {A = ℕ} 64 0)) (tops_compared w8 eqb v (replicate 64 value) ∙ zip2_splat eqb v 64 value long)
    ∙ sel_l-map (λ x. eqb x value) 1 0 v 64 long
