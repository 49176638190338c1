use Rattle.std.proofs.Common.{sym, ◌∙◌}
use Rattle.tk_record.specs.Record.{entry_of_view}
use Rattle.tk_query.proofs.HoldsLemmas.{holds-All, holds-Any}
use Rattle.tk_query.proofs.judging.+holds.Goals as goal

pub holds-returns-in_default : goal.holds-returns-in_default
holds-returns-in_default t c =
    let d = c.in_default in
    c.rule_holds.ensures ∙ sym (c.rule_of.ensures.judges (record { not_all = d.not-All; not_any = d.not-Any; not_not = d.not-Not }) c.args.«record».now (entry_of_view c.args.event.now))

pub holds-returns-in-All : goal.holds-returns-in-All
holds-returns-in-All t c = let e = holds-All c.args.«record».now c.in-All.members (entry_of_view c.args.event.now) in rw (c.in-All.is, e, ← c.deref.ensures.value) c.all_hold.ensures

pub holds-returns-in-Any : goal.holds-returns-in-Any
holds-returns-in-Any t c = let e = holds-Any c.args.«record».now c.in-Any.members (entry_of_view c.args.event.now) in rw (c.in-Any.is, e, ← c.deref-in-Any.ensures.value) c.any_holds.ensures
