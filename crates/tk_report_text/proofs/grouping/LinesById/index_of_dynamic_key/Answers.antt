use Rattle.std.proofs.Common.{sym, ap}
use Rattle.tk_ids.specs.IdText.{id_text}
use Rattle.tk_report_text.specs.Labels.{id_in}
use Rattle.tk_report_text.proofs.LinesById.{key_added, unchanged}
use Rattle.tk_report_text.proofs.grouping.LinesById.index_of_dynamic_key.Goals as goal

pub returns-in-Some : goal.returns-in-Some
returns-in-Some c =
    unchanged c.args.«record».now c.args.self.now _ c.in-Some.index.now c.requires.grouped (c.requires.grouped.keys c.args.key c.in-Some.index.now (sym c.in-Some.ensures.value))

pub returns : goal.returns
returns c =
    key_added c.args.«record».now c.args.self.now c.index_of_id.new.self c.insert.new.self c.args.key c.in_ok-index.index (id_text c.in-Some-describe.descriptor.now.id)
    c.in_ok-index.ensures (ap (λ o. id_text (id_in o)) c.in-Some-describe.ensures) c.in_ok-insert.ensures.updates.0
