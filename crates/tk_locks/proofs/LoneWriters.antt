-- AreCompatible holdings are those in which each writer is alone.
use Rattle.std.proofs.Common.{◌≡◌, ℕ, ◌<◌, ◌↔◌, Option, Some, None, List, get_or, refl, subst, arith}
use mathlib.Core.Logic.{dite}
use native.Mathlib.Decide.{dec_lt}
use Rattle.std.proofs.lemmas.Option.{slice_get_within, get_or_from_slice_get, slice_get-get_or}
use Rattle.tk_locks.specs.NeedView.{NeedView}
use Rattle.tk_locks.specs.Needs.{Access, nothing, reads, writes, access, Clash}
use Rattle.tk_locks.specs.Holdings.{IsCompatible, AreCompatible, held_access, WritersAreAlone}
use Rattle.tk_locks.proofs.LaneConflicts.{agree_sym}

-- beside a write without a clash there is nothing
alone : (a b : Access) → (Clash a b → ⊥) → a ≡ writes → b ≡ nothing
alone writes nothing apart e = refl
alone writes reads apart e = absurd (apart tt)
alone writes writes apart e = absurd (apart tt)
alone reads b apart e = cc
alone nothing b apart e = cc

agree_alone : (h k : Option NeedView) (r : ℕ) → r < 16 → IsCompatible h k → held_access h r ≡ writes → held_access k r ≡ nothing
agree_alone (Some n) (Some m) r lt agree e = alone (access n r) (access m r) (λ c. agree (r, lt, c)) e
agree_alone (Some n) None r lt agree e = refl
agree_alone None k r lt agree e = cc

apart : (a b : Access) → (a ≡ writes → b ≡ nothing) → (b ≡ writes → a ≡ nothing) → Clash a b → ⊥
apart writes reads one other c = let e = one refl in cc
apart writes writes one other c = let e = one refl in cc
apart reads writes one other c = let e = other refl in cc
apart writes nothing one other c = c
apart reads nothing one other c = c
apart reads reads one other c = c
apart nothing b one other c = c

alone_agree : (h k : Option NeedView) → ((r : ℕ) → r < 16 → held_access h r ≡ writes → held_access k r ≡ nothing) → ((r : ℕ) → r < 16 → held_access k r ≡ writes → held_access h r ≡ nothing) → IsCompatible h k
alone_agree (Some n) (Some m) one other = λ c. apart (access n c.0) (access m c.0) (one c.0 c.1) (other c.0 c.1) c.2
alone_agree (Some n) None one other = tt
alone_agree None k one other = tt

pub compatible_alone : (held : List (Option NeedView)) → AreCompatible held ↔ WritersAreAlone held
compatible_alone held = (to, from)
  where
    to : AreCompatible held → WritersAreAlone held
    to compatible i j r h k ne in16 at there e = let in_i = slice_get_within held i h at in let in_j = slice_get_within held j k there in
        let here = get_or_from_slice_get held i h h at in let other = get_or_from_slice_get held j k h there in
        dite (dec_lt i j)
        (λ lt. agree_alone h k r in16 (subst (λ (p : Option NeedView × Option NeedView). IsCompatible p.0 p.1) (λ x. (here x, other x)) (compatible i j h lt in_j)) e)
        (λ ge. agree_alone h k r in16 (agree_sym k h (subst (λ (p : Option NeedView × Option NeedView). IsCompatible p.0 p.1) (λ x. (other x, here x)) (compatible j i h (omega arith) in_i))) e)

    from : WritersAreAlone held → AreCompatible held
    from one i j d lt within = let h = get_or held i d in let k = get_or held j d in let at = slice_get-get_or held i d (omega arith) in let there = slice_get-get_or held j d within in
        alone_agree h k (λ r in16. one i j r h k (λ e. omega arith) in16 at there) (λ r in16. one j i r k h (λ e. omega arith) in16 there at)
