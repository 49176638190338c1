use Rattle.std.proofs.Common.{ℕ, ◌-◌, length, replicate, refl, ap, ◌∙◌, arith, eqb}
use Rattle.std.proofs.lemmas.List.{length-append, length-replicate}
use Rattle.tk_lanes.proofs.Words.{rest_word}
use Rattle.tk_lanes.proofs.mask_words.equal_numbers_in_rest.Goals as goal

pub returns : goal.returns
returns c =
    let items = c.args.items.now in
    let pad = replicate (64 - length items) 0 in
    let long = ap length c.padded.ensures ∙ length-append items pad in
    rest_word (λ x. eqb x c.args.value) items pad c.padded.result c.equal_numbers.result (length items) c.low_bits.result c.padded.ensures
    (omega (arith, long, length-replicate {A = ℕ} (64 - length items) 0)) c.equal_numbers.ensures refl c.low_bits.ensures
