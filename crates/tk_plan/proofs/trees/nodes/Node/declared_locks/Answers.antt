use Rattle.std.proofs.Common.{◌≡◌, ℕ, ◌≤◌, List, length, true, false, sym, ap, ◌∙◌, subst, arith, ◌++◌, take}
use Rattle.std.specs.List.{filter}
use Rattle.tk_plan.specs.DeclaredLocks.{has_name, isolation}
use Rattle.tk_ids.specs.declared.locks.Lock.{Lock}
use Rattle.tk_ids.specs.Locks.{mode_of, mode_with}
use Rattle.tk_plan.proofs.LocksByName.{asked_mode, first_asked, named_next, unnamed_next, all_are_declared}
use Rattle.tk_plan.proofs.trees.nodes.Node.declared_locks.Goals as goal
use Rattle.tk_plan.proofs.trees.nodes.Node.declared_locks.Goals.{then-not-is_empty+in_ok-try_clone+in_ok-add, else-not-is_empty}

pub loop-lock-init : goal.loop-lock-init
loop-lock-init c = λ name. c.in_ok-locks.ensures.modes name ∙ first_asked c.args.self.now.is_isolated name

pub loop-lock-preserved : goal.loop-lock-preserved
loop-lock-preserved c =
    let b = c.args.self.now.is_isolated in
    let ls = c.as_slice-lock-items.result.now in
    let i = c.loop-lock.lock-index in
    let l = c.lock-item.result in
    elim c.if-not-is_empty.branch [
      | then-not-is_empty+in_ok-try_clone+in_ok-add w ↦ λ name.
          (let named : c.is_empty.result ≡ false = grind arith in
          let adds : (name : List ℕ) → mode_of w.add.new.self name ≡ mode_with c.loop-lock.locks w.in_ok-try_clone.field-0 name = w.in_ok-add.ensures.ok in
          let same : w.in_ok-try_clone.field-0 ≡ l = w.in_ok-try_clone.ensures in
          ap (λ locks. mode_of locks name) w.locks-is
          ∙ named_next b ls i l c.loop-lock.locks w.add.new.self c.loop-lock-test.true c.lock-item.is (sym c.is_empty.ensures ∙ named) c.loop-lock.invariant
          (subst (λ (x : Lock). (name : List ℕ) → mode_of w.add.new.self name ≡ mode_with c.loop-lock.locks x name) same adds) name)
      | else-not-is_empty w ↦ λ name.
          (let unnamed : c.is_empty.result ≡ true = grind arith in
          ap (λ locks. mode_of locks name) w.locks-is
          ∙ unnamed_next b ls i l c.loop-lock.locks c.loop-lock-test.true c.lock-item.is (sym c.is_empty.ensures ∙ unnamed) c.loop-lock.invariant name)
    ]

pub returns : goal.returns
returns c =
    let items = c.as_slice-lock-items.ensures in
    let all : length c.args.self.now.locks ≤ c.loop-lock.lock-index = subst (λ (ls : List Lock). length ls ≤ c.loop-lock.lock-index) items c.loop-lock-test.false in
    record {
      locks = all_are_declared c.args.self.now c.loop-lock.lock-index c.loop-lock.locks all c.shows_order.ensures
          (λ name. c.loop-lock.invariant name ∙ ap (λ (ls : List Lock). asked_mode (isolation c.args.self.now.is_isolated ++ filter has_name (take c.loop-lock.lock-index ls)) name) items);
    }
