use Rattle.std.proofs.Common.{◌≡◌, ◌<◌, length, ap, sym, ◌∙◌, subst}
use Rattle.std.specs.Prelude.{MatchOption}
use Rattle.tk_ids.specs.IdText.{IsId, id_text, parent_of}
use Rattle.tk_query_locks.proofs.ParentLemmas.{only_more}
use Rattle.tk_query_locks.proofs.parents.Parents.add.Goals as goal

pub returns-in_ok-insert-clause-only : goal.returns-in_ok-insert-clause-only
returns-in_ok-insert-clause-only c =
    let d = c.in-Some.descriptor.now in
    let above = subst (λ o. MatchOption o (length d.id ≡ 1) (λ id. (1 < length d.id) × (id ≡ parent_of d.id))) c.in-Some-2.is c.in_ok-parent.ensures in
    only_more c.args.«record».now c.args.self.now (record { texts = c.insert.new.self }) c.args.key d c.in_ok-shared_text.field-0
    c.requires (sym c.in-Some.ensures)
    (record {
      below = above.0;
      id = subst IsId above.1 c.in_ok-shared_text.ensures.id;
      spells = c.in_ok-shared_text.ensures.text ∙ ap id_text above.1;
    })
    c.in_ok-insert.ensures.updates.0
