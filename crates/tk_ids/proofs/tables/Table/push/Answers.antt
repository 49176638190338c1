use Rattle.std.proofs.Common.{arith, subst, sym}
use Rattle.tk_ids.specs.Table.{HasParents, HaveLocks}
use Rattle.tk_ids.proofs.TableLemmas.{grown, IsGrown}
use Rattle.tk_ids.proofs.TableLockLemmas.{parents_push, locks_push}
use Rattle.tk_ids.proofs.tables.Table.push.Goals as goal
use Rattle.tk_ids.proofs.tables.Table.push.Goals.{In_ok-insert}

-- the entries with the descriptor among them
entries : (c : In_ok-insert) → IsGrown c.self.inside.by_text.entries c.insert.new.self.entries c.args.self.now c.args.descriptor
entries c =
    let invariant = c.self.invariant in
    let g = grown c.self.inside.by_text.entries c.args.self.now c.args.descriptor c.in_ok-text.text invariant.0 c.self.view_is c.requires.absent (c.in_ok-text.ensures.text, c.in_ok-text.ensures.id, c.in_ok-text.ensures.fits) in
    rw c.in_ok-insert.ensures.entries g

pub invariant_of-self-2 : goal.invariant_of-self-2
invariant_of-self-2 c =
    let e = entries (goal.at.invariant_of-self-2 c).In_ok-insert in
    let count = e.count in
    let invariant = c.self.invariant in
    let parents = subst HasParents (sym e.view) (parents_push c.args.self.now c.args.descriptor (subst HasParents c.self.view_is invariant.2) c.requires.parent) in
    let locks = subst HaveLocks (sym e.view) (locks_push c.args.self.now c.args.descriptor (subst HaveLocks c.self.view_is invariant.3) c.shows_order.ensures) in
    (e.kept, omega (arith, c.requires.room), parents, locks)

pub returns-clause-ok : goal.returns-clause-ok
returns-clause-ok c = (entries (goal.at.returns-clause-ok c).In_ok-insert).view
