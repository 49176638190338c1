use Rattle.std.proofs.Common.{◌≡◌, ◌<◌, ◌≤◌, ⊎_elim, arith, sym, ◌∙◌, subst}
use Rattle.std.proofs.lemmas.Bool.{cases_lt, false≢true}
use Rattle.tk_query_locks.specs.steps.Holders.{Meet}
use Rattle.tk_query_locks.proofs.holders.Holders.first_met.Goals as goal

pub loop-first-preserved : goal.loop-first-preserved
loop-first-preserved c = λ i lt met. ⊎_elim {C = ⊥}
    (λ (before : i < c.loop-first.first). c.loop-first.invariant i before met)
    (λ (from : c.loop-first.first ≤ i).
    let same : i ≡ c.loop-first.first = omega arith in
    false≢true (sym c.if-meet.false ∙ c.meet.ensures.1 (subst (λ n. Meet c.args.self.now n c.args.second) same met)))
    (cases_lt i c.loop-first.first)

pub returns-then-meet : goal.returns-then-meet
returns-then-meet c = record {
  order = omega arith;
  met = c.meet.ensures.0 c.if-meet.true;
  first = c.loop-first.invariant;
}

pub returns : goal.returns
returns c = λ p lt. let past = c.loop-first-test.false in c.loop-first.invariant p (omega (arith, past, lt))
