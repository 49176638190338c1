use Rattle.std.proofs.Common.{List, get_or, sym, ◌∙◌, subst, arith}
use Rattle.std.specs.List.{Contains}
use Rattle.std.proofs.lemmas.Bool.{false≢true}
use Rattle.tk_query_locks.specs.Conflicts.{ConflictOver, global_name}
use Rattle.tk_ids.specs.declared.locks.Lock.{Lock}
use Rattle.tk_query_locks.specs.steps.Conflicts.{IsAtMost}
use Rattle.tk_query_locks.proofs.ConflictLemmas.{at_place, each_more, least_found}
use Rattle.tk_query_locks.proofs.conflicts.Conflicts.least_lock.Goals as goal

pub returns-then-not-are_apart : goal.returns-then-not-are_apart
returns-then-not-are_apart c = λ name over.
    false≢true (sym c.if-not-are_apart.true ∙ c.are_apart.ensures.1 over.apart)

pub returns : goal.returns
returns c =
    let r = c.args.self.now in
    let a = c.args.a.now in
    let b = c.args.b.now in
    let items = c.as_slice-lock-items.result.now in
    let all = c.loop-lock-test.false in
    least_found r a b c.loop-lock.least
    (λ k has. at_place (λ (x : Lock). ConflictOver r x.name a b → IsAtMost c.loop-lock.least x.name) items k
    (λ i d lt. c.loop-lock.invariant.2 i d (omega (arith, all, lt)))
    (subst (λ (l : List Lock). Contains l k) (sym c.as_slice-lock-items.ensures) has))
    c.loop-lock.invariant.1 c.loop-lock.invariant.0

pub loop-lock-preserved : goal.loop-lock-preserved
loop-lock-preserved c =
    let r = c.args.self.now in
    let a = c.args.a.now in
    let b = c.args.b.now in
    let new = c.lesser-least-in-loop-lock.result in (
      c.lesser-least-in-loop-lock.ensures.over,
      λ over. c.lesser-least-in-loop-lock.ensures.kept global_name (c.loop-lock.invariant.1 over),
      each_more (λ (x : Lock). ConflictOver r x.name a b → IsAtMost new x.name) c.as_slice-lock-items.result.now
          c.loop-lock.lock-index c.lock-item.result c.lock-item.is c.loop-lock-test.true
          (λ i d lt over. c.lesser-least-in-loop-lock.ensures.kept (get_or c.as_slice-lock-items.result.now i d).name
          (c.loop-lock.invariant.2 i d lt over))
          (subst (λ n. ConflictOver r n a b → IsAtMost new n) c.as_str.ensures c.lesser-least-in-loop-lock.ensures.taken),
    )
