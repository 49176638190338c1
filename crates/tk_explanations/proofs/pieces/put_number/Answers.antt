use Rattle.std.proofs.Common.{ℕ, List, ap, ◌∙◌, ◌++◌, append-nil}
use Rattle.std.specs.Fmt.{decimal}
use Rattle.tk_streams.proofs.PieceLemmas.{adds_as}
use Rattle.tk_explanations.proofs.pieces.put_number.Goals as goal

pub returns : goal.returns
returns g c =
    let digits = c.push_front_number.ensures.bytes ∙ ap (λ (t : List ℕ). decimal c.args.number ++ t) c.new-digits.ensures ∙ append-nil (decimal c.args.number) in
    adds_as _ _ _ _ (c.as_bytes.ensures ∙ digits) c.put.ensures
