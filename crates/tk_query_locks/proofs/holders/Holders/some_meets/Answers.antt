use Rattle.std.proofs.Common.{arith, get_or, sym, ◌∙◌}
use Rattle.std.proofs.lemmas.Bool.{false≢true}
use Rattle.std.proofs.lemmas.List.{get_or_default}
use Rattle.tk_query_locks.specs.steps.Holders.{Meet}
use Rattle.tk_query_locks.proofs.ConflictLemmas.{at_place, each_more}
use Rattle.tk_query_locks.proofs.holders.Holders.some_meets.Goals as goal

pub loop-first-init : goal.loop-first-init
loop-first-init c = λ i d lt. absurd (omega arith)

pub loop-first-preserved : goal.loop-first-preserved
loop-first-preserved c =
    each_more (λ n. ¬ Meet c.args.self.now n c.args.second) c.args.starts.now c.loop-first.first-index
    (get_or c.args.starts.now c.loop-first.first-index 0)
    (get_or_default c.args.starts.now c.loop-first.first-index 0 (get_or c.args.starts.now c.loop-first.first-index 0) c.loop-first-test.true)
    c.loop-first-test.true c.loop-first.invariant
    (λ met. false≢true (sym c.if-meet.false ∙ c.meet.ensures.1 met))

pub returns : goal.returns
returns c = λ none p has.
    let all = c.loop-first-test.false in
    at_place (λ n. ¬ Meet c.args.self.now n c.args.second) c.args.starts.now p
    (λ i d lt. c.loop-first.invariant i d (omega (arith, all, lt))) has
