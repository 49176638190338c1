-- The id above another one.
use Rattle.std.proofs.Common.{◌≡◌, ◌∷◌, ◌++◌, List, [], take, length-append, ap, ◌∙◌, arith}
use Rattle.std.proofs.Math.Seq.{take-append_seam}
use Rattle.tk_ids.specs.IdText.{SegmentView, parent_of}

pub parent_of-child : (id : List SegmentView) (s : SegmentView) → parent_of (id ++ s ∷ []) ≡ id
parent_of-child id s = ap (λ n. take n (id ++ s ∷ [])) (omega (arith, length-append id (s ∷ []))) ∙ take-append_seam id (s ∷ [])
