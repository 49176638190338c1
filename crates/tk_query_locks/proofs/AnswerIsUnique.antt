-- The same events have one answer.
use Rattle.std.proofs.Common.{◌≡◌, ◌≤◌, refl, sym, ap, ◌∙◌, subst, arith}
use Rattle.tk_query_locks.specs.declared.answers.LockAnswer.TheVariants.{Yes, No, NoPair}
use Rattle.tk_query_locks.specs.LockAnswers.{Collide}
use Rattle.tk_query_locks.specs.Laws.{LockAnswerIsUnique}
use Rattle.tk_query_locks.proofs.ByteOrder.{neither_before}

pub one_answer : LockAnswerIsUnique
one_answer asked Yes Yes h k = refl
one_answer asked Yes (No p q name) h k = absurd (h.1 name p q k.collide)
one_answer asked Yes NoPair h k = absurd (k h.0.name h.0.p h.0.q h.0.conflict)
one_answer asked NoPair Yes h k = absurd (h k.0.name k.0.p k.0.q k.0.conflict)
one_answer asked NoPair NoPair h k = refl
one_answer asked NoPair (No p q name) h k = absurd (h name p q k.collide.conflict)
one_answer asked (No p q name) NoPair h k = absurd (k name p q h.collide.conflict)
one_answer asked (No p q name) Yes h k = absurd (k.1 name p q h.collide)
one_answer asked (No p q name) (No i j other) h k =
    let up : q ≤ j = h.least_second other i j k.order k.collide in
    let down : j ≤ q = k.least_second name p q h.order h.collide in
    let second : q ≡ j = omega arith in
    let p_low = h.order in
    let i_low = k.order in
    let there = subst (λ n. Collide asked other i n) (sym second) k.collide in
    let here = subst (λ n. Collide asked name p n) second h.collide in
    let left : p ≤ i = h.least_first other i (omega arith) there in
    let right : i ≤ p = k.least_first name p (omega arith) here in
    let first : p ≡ i = omega arith in
    let same : name ≡ other =
    neither_before name other
    (k.least_name name (subst (λ n. Collide asked name n j) first here))
    (h.least_name other (subst (λ n. Collide asked other n q) (sym first) there)) in
    ap (λ n. No n q name) first ∙ ap (λ n. No i n name) second ∙ ap (λ n. No i j n) same
