use Rattle.std.proofs.Common.{◌≡◌, [], ◌∷◌, ◌++◌, Some, ap, subst, sym, ◌∙◌}
use Rattle.std.specs.Prelude.{slice_get}
use Rattle.tk_ids.specs.IdText.{id_text}
use Rattle.tk_ids.specs.Table.{HasId, ids_of}
use Rattle.tk_report_text.specs.steps.{IsAt}
use Rattle.tk_report_text.proofs.LinesById.{id_added, table_id, unchanged}
use Rattle.tk_report_text.proofs.grouping.LinesById.index_of_id.Goals as goal

pub returns-in-Some : goal.returns-in-Some
returns-in-Some c =
    let found = subst (λ table. slice_get (ids_of table) c.in-Some.key ≡ Some c.args.id.now) c.table.ensures c.in-Some.ensures.found in
    unchanged c.args.«record».now c.args.self.now (id_text c.args.id.now) c.in-Some.key c.requires
    (table_id c.args.«record».now c.args.self.now c.in-Some.key c.args.id.now c.requires found)

pub returns-in-Some-get : goal.returns-in-Some-get
returns-in-Some-get c =
    let at = c.requires.dynamic c.as_str-text.result.now c.in-Some-get.index.now (sym c.in-Some-get.ensures.value) in
    unchanged c.args.«record».now c.args.self.now (id_text c.args.id.now) c.in-Some-get.index.now c.requires
    (subst (λ x. IsAt c.args.self.now.ids.items x c.in-Some-get.index.now) (c.as_str-text.ensures ∙ c.as_text.ensures.text) at)

pub returns : goal.returns
returns c =
    let absent = subst (λ table. ¬ HasId table c.args.id.now) c.table.ensures c.in_default.ensures.none in
    id_added c.args.«record».now c.args.self.now c.insert.new.self c.push.new.self c.as_str-text.result c.len-next.result c.args.id.now
    c.requires absent c.as_text.ensures.id (c.as_str-text.ensures ∙ c.as_text.ensures.text)
    (sym c.in_default-get.ensures.value) (c.len-next.ensures ∙ c.args.self.now.ids.ok.0)
    c.in_ok-insert.ensures.updates.0 (c.in_ok-push.ensures.items ∙ ap (λ l. c.args.self.now.ids.items ++ (c.as_str-text.result, l) ∷ []) c.new.ensures)
