use Rattle.std.proofs.Common.{rules, ◌≡◌, ℕ, List, [], sym, subst}
use Rattle.tk_ids.specs.declared.locks.Lock.{Lock}
use Rattle.tk_ids.specs.steps.Table.{added}
use Rattle.tk_ids.specs.Locks.{AreLocks, mode_of, mode_with}
use Rattle.tk_ids.proofs.LockLemmas.{none_are, are_added, mode_added}
use Rattle.tk_ids.proofs.locks.Locks.add.Goals as goal

pub invariant_of-self-in_ok-self-inside-in-None-2 : goal.invariant_of-self-in_ok-self-inside-in-None-2
invariant_of-self-in_ok-self-inside-in-None-2 c = subst AreLocks (sym c.in_ok-self-inside-in-None.ensures) (are_added [] c.args.lock none_are c.requires)

pub invariant_of-self-in-Continue-branch-2 : goal.invariant_of-self-in-Continue-branch-2
invariant_of-self-in-Continue-branch-2 c = rw c.in_ok-add_to-in-Some.ensures.ok (are_added _ c.args.lock (search rules) c.requires)

pub returns-in_ok-add_to-in-Some-clause-ok : goal.returns-in_ok-add_to-in-Some-clause-ok
returns-in_ok-add_to-in-Some-clause-ok c = λ name. rw (c.in_ok-add_to-in-Some.ensures.ok) (by c.deref_mut.result.now.items (search rules) name)
  where
    by : (held : List Lock) → held ≡ c.args.self.now → (name : List ℕ) → mode_of (added held c.args.lock) name ≡ mode_with c.args.self.now c.args.lock name
    by held is name = rw is (mode_added c.args.self.now c.args.lock name (search rules))
