use Rattle.std.proofs.Common.{map, eqb, ap, ◌∙◌, arith}
use Rattle.std.specs.Simd.Lanes.{mask_l}
use Rattle.std.proofs.lemmas.List.{take_all}
use Rattle.tk_lanes.proofs.mask_words.equal_in_word.Goals as goal

pub returns-then-items-eq64 : goal.returns-then-items-eq64
returns-then-items-eq64 c = c.equal_bytes.ensures ∙ ap (λ l. mask_l (map (λ x. eqb x c.args.value) l)) (take_all 64 c.args.items.now (omega arith))
