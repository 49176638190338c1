use Rattle.std.proofs.Common.{ℕ, List, [], get_or, inl, inr, sym, ap, ◌∙◌, subst, arith}
use Rattle.std.specs.List.{Contains}
use Rattle.tk_query_locks.specs.declared.lock_numbers.NumberedLock.{NumberedLock}
use Rattle.tk_query_locks.specs.steps.Holders.{LockMeetsNone}
use Rattle.tk_query_locks.proofs.ConflictLemmas.{at_place}
use Rattle.tk_query_locks.proofs.HolderLemmas.{lists_at, meets_none, no_lock, one_more}
use Rattle.tk_query_locks.proofs.holders.Holders.is_held.Goals as goal

pub is_lock_held-requires : goal.is_lock_held-requires
is_lock_held-requires c =
    lists_at c.args.self.now c.requires.ready c.args.running.now c.requires.listed.lists c.args.second c.loop-lock.lock-index
    no_lock c.locks_at-lock-items.result.now c.locks_at-lock-items.ensures c.loop-lock-test.true

pub loop-lock-preserved : goal.loop-lock-preserved
loop-lock-preserved c =
    one_more (λ (x : NumberedLock). LockMeetsNone c.args.self.now c.args.running.now x c.args.second) c.locks_at-lock-items.result.now
    c.loop-lock.lock-index no_lock c.loop-lock-test.true c.loop-lock.invariant
    (c.is_lock_held.ensures c.if-is_lock_held.false)

pub returns-then-uses_global : goal.returns-then-uses_global
returns-then-uses_global c = λ none.
    let h = c.args.self.now in
    let running = c.args.running.now in
    let q = c.args.second in
    let items = c.locks_at-lock-items.result.now in
    let all = c.loop-lock-test.false in
    meets_none h c.requires.ready running q
    (λ k has. at_place (λ (x : NumberedLock). LockMeetsNone h running x q) items k
    (λ i d lt. c.loop-lock.invariant i d (omega (arith, all, lt)))
    (subst (λ (l : List NumberedLock). Contains l k) (sym c.locks_at-lock-items.ensures) has))
    (λ d at test. inl (λ p has. c.some_meets.ensures none p
    (subst (λ (l : List ℕ). Contains l p) (sym (c.starts.ensures ∙ ap (λ n. get_or running.writers n []) c.global.ensures.last)) has))) c.requires.listed

pub returns-else-uses_global : goal.returns-else-uses_global
returns-else-uses_global c = λ none.
    let h = c.args.self.now in
    let running = c.args.running.now in
    let q = c.args.second in
    let items = c.locks_at-lock-items.result.now in
    let all = c.loop-lock-test.false in
    meets_none h c.requires.ready running q
    (λ k has. at_place (λ (x : NumberedLock). LockMeetsNone h running x q) items k
    (λ i d lt. c.loop-lock.invariant i d (omega (arith, all, lt)))
    (subst (λ (l : List NumberedLock). Contains l k) (sym c.locks_at-lock-items.ensures) has))
    (λ d at test. inr (c.uses_global.ensures c.if-uses_global.false d at test)) c.requires.listed
