use Rattle.std.proofs.Common.{◌≡◌, ap, sym, ◌∙◌}
use Rattle.tk_ids.specs.IdText.{id_text}
use Rattle.tk_query_locks.specs.steps.Parents.{has_text}
use Rattle.tk_query_locks.proofs.ParentLemmas.{child_from_text, text_from_child}
use Rattle.tk_query_locks.proofs.parents.Parents.has.Goals as goal

pub returns : goal.returns
returns c = λ r are.
    let told : c.contains.result ≡ has_text c.args.self.now (id_text c.args.id.now) =
    c.contains.ensures ∙ ap (has_text c.args.self.now) (c.as_str.ensures ∙ c.as_text.ensures.text) in (
      λ yes. child_from_text r c.args.self.now are c.args.id.now c.as_text.ensures.id (sym told ∙ yes),
      λ child. told ∙ text_from_child r c.args.self.now are c.args.id.now c.as_text.ensures.id child,
    )
