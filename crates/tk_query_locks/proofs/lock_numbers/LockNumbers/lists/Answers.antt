use Rattle.std.proofs.Common.{List, ◌+◌, ap, arith, length, sym, subst}
use Rattle.tk_query_locks.specs.declared.lock_numbers.NumberedLock.{NumberedLock}
use Rattle.tk_query_locks.proofs.NumberLemmas.{AreListsTo, all_lists, no_lists, one_list}
use Rattle.tk_query_locks.proofs.lock_numbers.LockNumbers.lists.Goals as goal

pub loop-key-init : goal.loop-key-init
loop-key-init c =
    let r = c.args.«record».now in
    let n = c.args.self.now in
    subst (λ (l : List (List NumberedLock)). AreListsTo r n l 0) (sym c.new-lists.ensures.items) (no_lists r n)

pub returns : goal.returns
returns c =
    let past = c.loop-key-test.false in
    let size = c.len-key-end.ensures.len in
    let table = ap length c.table.ensures in
    all_lists c.args.«record».now c.args.self.now c.loop-key.lists.items c.loop-key.key c.shows_record.ensures (omega (arith, past, size, table)) c.loop-key.invariant

pub loop-key-preserved : goal.loop-key-preserved
loop-key-preserved c =
    let r = c.args.«record».now in
    let n = c.args.self.now in
    let count = c.loop-key.key in
    subst (λ (l : List (List NumberedLock)). AreListsTo r n l (count + 1)) (sym c.in_ok-push.ensures.items)
    (one_list r n c.loop-key.lists.items count c.in_ok-list.list c.loop-key.invariant
    (λ d at k has. (c.in_ok-list.ensures.each d at).each k has) c.in_ok-list.ensures.within)
