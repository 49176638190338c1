use Rattle.std.proofs.Common.{◌≤◌, List, [], get_or, inl, inr, length, subst}
use Rattle.std.specs.List.{Contains}
use Rattle.tk_query_locks.specs.declared.lock_numbers.NumberedLock.{NumberedLock}
use Rattle.tk_query_locks.proofs.HolderLemmas.{AreTaken, all_taken, keeps_all, lists_at, no_lock, none_taken, on_ok_both, one_taken}
use Rattle.tk_query_locks.proofs.holders.Holders.start.Goals as goal

pub loop-lock-init : goal.loop-lock-init
loop-lock-init c = none_taken c.args.self.now c.args.second c.args.running.now c.locks_at-lock-items.result.now

pub take-requires : goal.take-requires
take-requires c =
    c.loop-lock.invariant.keeps.lists _
    (lists_at c.args.self.now c.requires.ready c.args.running.now c.requires.listed.lists c.args.second c.loop-lock.lock-index
    no_lock c.locks_at-lock-items.result.now c.locks_at-lock-items.ensures c.loop-lock-test.true)

pub loop-lock-preserved : goal.loop-lock-preserved
loop-lock-preserved c =
    one_taken c.args.self.now c.args.second c.args.running.now c.loop-lock.running c.take.new.running
    c.locks_at-lock-items.result.now c.loop-lock.lock-index no_lock c.loop-lock.invariant
    c.in_ok-take.ensures.kept c.in_ok-take.ensures.added c.loop-lock-test.true

pub returns-then-uses_global : goal.returns-then-uses_global
returns-then-uses_global c =
    let h = c.args.self.now in
    let q = c.args.second in
    let first = c.args.running.now in
    let old = c.loop-lock.running in
    let count = c.loop-lock.lock-index in
    let taken = subst (λ (l : List NumberedLock). AreTaken h q first old l count) c.locks_at-lock-items.ensures c.loop-lock.invariant in
    let all = subst (λ (l : List NumberedLock). length l ≤ count) c.locks_at-lock-items.ensures c.loop-lock-test.false in
    on_ok_both c.add_reader.result c.add_reader.ensures.kept c.add_reader.ensures.added
    (λ keeps added. all_taken h q first old c.add_reader.new.running count
    c.requires.listed c.requires.within taken all keeps (λ d at test. inl (subst (λ n. Contains (get_or c.add_reader.new.running.readers n []) q) c.global.ensures.last added)))

pub returns : goal.returns
returns c =
    let h = c.args.self.now in
    let q = c.args.second in
    let first = c.args.running.now in
    let old = c.loop-lock.running in
    let count = c.loop-lock.lock-index in
    let taken = subst (λ (l : List NumberedLock). AreTaken h q first old l count) c.locks_at-lock-items.ensures c.loop-lock.invariant in
    let all = subst (λ (l : List NumberedLock). length l ≤ count) c.locks_at-lock-items.ensures c.loop-lock-test.false in
    all_taken h q first old old count
    c.requires.listed c.requires.within taken all (keeps_all h q old) (λ d at test. inr (c.uses_global.ensures c.if-uses_global.false d at test))
