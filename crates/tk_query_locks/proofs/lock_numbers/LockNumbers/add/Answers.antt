use Rattle.std.proofs.Common.{List, length, subst, ◌≤◌}
use Rattle.tk_ids.specs.declared.locks.Lock.{Lock}
use Rattle.tk_query_locks.proofs.NumberLemmas.{AreAdded, all_added, none_added, one_added}
use Rattle.tk_query_locks.proofs.lock_numbers.LockNumbers.add.Goals as goal

pub loop-lock-init : goal.loop-lock-init
loop-lock-init c = none_added _ _

pub loop-lock-preserved : goal.loop-lock-preserved
loop-lock-preserved c =
    one_added c.args.self.now c.loop-lock.self c.add_name.new.self c.as_slice-lock-items.result.now c.loop-lock.lock-index
    c.lock-item.result c.loop-lock.invariant c.in_ok-add_name.ensures c.lock-item.is c.loop-lock-test.true

pub returns : goal.returns
returns c =
    let count = c.loop-lock.lock-index in
    let old = c.args.self.now in
    let new = c.loop-lock.self in
    let added = subst (λ (l : List Lock). AreAdded old new l count) c.as_slice-lock-items.ensures c.loop-lock.invariant in
    let all = subst (λ (l : List Lock). length l ≤ count) c.as_slice-lock-items.ensures c.loop-lock-test.false in
    all_added c.args.descriptor.now old new count added all
