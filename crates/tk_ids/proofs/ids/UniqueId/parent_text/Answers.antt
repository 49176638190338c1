use Rattle.std.proofs.Common.{◌≡◌, ◌∙◌, sym, ap, take, subst, arith}
use Rattle.std.specs.List.{slice_range}
use Rattle.tk_ids.specs.IdText.{id_text}
use Rattle.tk_ids.specs.steps.IdSegments.{IsLastSlash}
use Rattle.tk_ids.proofs.ParentLemmas.{above, no_above}
use Rattle.tk_ids.proofs.ids.UniqueId.parent_text.Goals as goal

pub returns-in_err-at : goal.returns-in_err-at
returns-in_err-at c =
    let bytes = c.as_bytes.result.now in
    let text : bytes ≡ id_text c.args.self.now = c.as_bytes.ensures.value ∙ c.as_str-text.ensures ∙ c.as_text.ensures.text in
    rw c.from_residual.ensures (no_above c.args.self.now bytes c.as_text.ensures.id text (subst (IsLastSlash bytes) c.in_err-at.was c.last_slash.ensures))

pub returns : goal.returns
returns c =
    let bytes = c.as_bytes.result.now in
    let text : bytes ≡ id_text c.args.self.now = c.as_bytes.ensures.value ∙ c.as_str-text.ensures ∙ c.as_text.ensures.text in
    let h = above c.args.self.now bytes c.in_ok-at.at c.as_text.ensures.id c.as_text.ensures.fits text (subst (IsLastSlash bytes) c.in_ok-at.was c.last_slash.ensures) in
    let to_slash : slice_range c.as_str-text.result.now 0 c.in_ok-at.at ≡ take c.in_ok-at.at c.as_str-text.result.now = grind arith in
    (h.more, h.id_ok, h.fits, c.range.ensures.value ∙ to_slash ∙ ap (take c.in_ok-at.at) (sym c.as_bytes.ensures.value) ∙ h.spells)
