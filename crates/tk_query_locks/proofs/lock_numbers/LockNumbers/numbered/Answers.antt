use Rattle.std.proofs.Common.{List, length, sym, subst, ◌+◌, ◌≤◌}
use Rattle.tk_ids.specs.declared.locks.Lock.{Lock}
use Rattle.tk_query_locks.specs.declared.lock_numbers.NumberedLock.{NumberedLock}
use Rattle.tk_query_locks.proofs.NumberLemmas.{AreNumberedTo, all_numbered, none_left_out, none_numbered, one_numbered}
use Rattle.tk_query_locks.proofs.lock_numbers.LockNumbers.numbered.Goals as goal

pub loop-lock-init : goal.loop-lock-init
loop-lock-init c =
    let n = c.args.self.now in
    let locks = c.as_slice-lock-items.result.now in
    subst (λ (l : List NumberedLock). AreNumberedTo n l locks 0) (sym c.new-items.ensures.items) (none_numbered n locks)

pub loop-lock-preserved-in_default : goal.loop-lock-preserved-in_default
loop-lock-preserved-in_default c =
    none_left_out c.args.self.now c.loop-lock.items.items c.as_slice-lock-items.result.now c.loop-lock.lock-index c.lock-item.result
    c.loop-lock.invariant c.in_default.ensures c.lock-item.is c.loop-lock-test.true

pub loop-lock-preserved : goal.loop-lock-preserved
loop-lock-preserved c =
    let n = c.args.self.now in
    let locks = c.as_slice-lock-items.result.now in
    let count = c.loop-lock.lock-index in
    subst (λ (l : List NumberedLock). AreNumberedTo n l locks (count + 1)) (sym c.in_ok-push.ensures.items)
    (one_numbered n c.loop-lock.items.items locks count c.lock-item.result c.in-Some.number
    c.loop-lock.invariant c.in-Some.ensures c.lock-item.is c.loop-lock-test.true)

pub returns : goal.returns
returns c =
    let count = c.loop-lock.lock-index in
    let n = c.args.self.now in
    let list = c.loop-lock.items.items in
    let numbered = subst (λ (l : List Lock). AreNumberedTo n list l count) c.as_slice-lock-items.ensures c.loop-lock.invariant in
    let all = subst (λ (l : List Lock). length l ≤ count) c.as_slice-lock-items.ensures c.loop-lock-test.false in
    all_numbered n list c.args.descriptor.now count numbered all
