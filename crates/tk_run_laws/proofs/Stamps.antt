-- Stamps are positions.
use Rattle.std.proofs.Common.{◌≡◌, ℕ, zero, suc, ◌+◌, List, [], ◌∷◌, Some, slice_get, ap, arith}
use Rattle.tk_plan.specs.declared.scripts.steps.Step.{Step}
use Rattle.tk_plan.specs.Script.{stamped}

pub stamp_at : (p : ℕ) (ms : List _) (i : ℕ) (s : Step) → slice_get (stamped p ms) i ≡ Some s → s.stamp ≡ p + i
stamp_at p [] i s e = cc
stamp_at p (m ∷ ms) zero s e =
    let same : record { node = m.node; stamp = p; act = m.act } ≡ s = cc in
    let at : p ≡ s.stamp = ap (λ x. x.stamp) same in
    omega (arith, at)
stamp_at p (m ∷ ms) (suc i) s e = let h = stamp_at (p + 1) ms i s e in omega (arith, h)
