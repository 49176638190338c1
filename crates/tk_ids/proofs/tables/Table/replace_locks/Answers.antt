use Rattle.std.proofs.Common.{◌≡◌, ◌∙◌, sym, ap, subst, Some, slice_get}
use Rattle.indexmap.specs.IndexMap.{set_value_at}
use Rattle.tk_ids.specs.Table.{HasParents, HaveLocks}
use Rattle.tk_ids.proofs.TableLockLemmas.{relocked, relocks, IsRelocked, locks_found}
use Rattle.tk_ids.proofs.tables.Table.replace_locks.Goals as goal
use Rattle.tk_ids.proofs.tables.Table.replace_locks.Goals.{In-Some}

at : (c : In-Some) → slice_get c.args.self.now c.args.key ≡ Some c.in-Some.descriptor.now
at c = ap (λ t. slice_get t c.args.key) (sym c.self.view_is) ∙ sym c.in-Some.ensures.value

entries : (c : In-Some) → IsRelocked (set_value_at c.self.inside.by_text.entries c.args.key (relocked c.in-Some.descriptor.now c.args.locks)) c.args.self.now c.args.key c.args.locks
entries c =
    let invariant = c.self.invariant in
    relocks c.self.inside.by_text.entries c.args.self.now c.args.key c.in-Some.descriptor.now c.args.locks c.self.view_is (at c) invariant.0 invariant.1 (subst HasParents c.self.view_is invariant.2) (subst HaveLocks c.self.view_is invariant.3) c.shows_order.ensures

pub invariant_of-self-2 : goal.invariant_of-self-2
invariant_of-self-2 c =
    let e = entries (goal.at.invariant_of-self-2 c).In-Some in
    rw c.replace.ensures.after (e.kept, e.count, e.parents, e.locks_are)

pub returns-clause-before : goal.returns-clause-before
returns-clause-before c = c.replace.ensures.value ∙ locks_found c.args.self.now c.args.key c.in-Some.descriptor.now (at (goal.at.returns-clause-before c).In-Some)

pub returns-clause-after : goal.returns-clause-after
returns-clause-after c = rw c.replace.ensures.after (entries (goal.at.returns-clause-after c).In-Some).view
