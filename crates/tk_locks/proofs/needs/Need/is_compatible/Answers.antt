use Rattle.std.proofs.Common.{◌↔◌, IsTrue, eqb, subst, rules, bit_and, bit_or}
use Rattle.tk_locks.specs.NeedView.{NeedView}
use Rattle.tk_locks.specs.Needs.{Conflict}
use Rattle.tk_locks.proofs.Masks.{compatible, not_compatible}
use Rattle.tk_locks.proofs.needs.Need.is_compatible.Goals as goal

pub returns-then-self-other-eq0 : goal.returns-then-self-other-eq0
returns-then-self-other-eq0 c = subst (λ (p : NeedView × NeedView). IsTrue (eqb (bit_and c.self.inside.reads c.other.inside.writes) 0) ↔ (Conflict p.0 p.1 → ⊥)) (λ i. (c.self.view_is i, c.other.view_is i))
    (compatible _ _ (search rules) (search rules) c.if-self-other-eq0.true)

pub returns-else-self-other-eq0 : goal.returns-else-self-other-eq0
returns-else-self-other-eq0 c = subst (λ (p : NeedView × NeedView). IsTrue (eqb (bit_and c.self.inside.writes (bit_or c.other.inside.reads c.other.inside.writes)) 0) ↔ (Conflict p.0 p.1 → ⊥)) (λ i. (c.self.view_is i, c.other.view_is i))
    (not_compatible _ _ (search rules) (search rules) c.if-self-other-eq0.false)
