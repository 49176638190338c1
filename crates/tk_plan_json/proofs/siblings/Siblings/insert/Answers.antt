use Rattle.std.proofs.Common.{◌≡◌, ◌∙◌, not, ap}
use Rattle.std.specs.List.{list_any}
use Rattle.tk_ids.specs.IdText.{SegmentView}
use Rattle.tk_plan_json.specs.steps.Fields.{segments_of}
use Rattle.tk_plan_json.specs.steps.CodeValues.{json_segment_text}
use Rattle.tk_plan_json.specs.Verdicts.{same_segment}
use Rattle.tk_plan_json.proofs.SegmentSets.{any_met}
use Rattle.tk_plan_json.proofs.siblings.Siblings.insert.Goals as goal

pub returns-clause-answer : goal.returns-clause-answer
returns-clause-answer c =
    let e : c.args.self.now ≡ segments_of c.self.inside.keys.keys = cc in
    let copied : SegmentView = record { tag = c.in_ok-tag.tag; value = c.in_ok-value.value } in
    let same : copied ≡ json_segment_text c.args.segment = λ i. record { tag = c.in_ok-tag.ensures i; value = c.in_ok-value.ensures i } in
    c.in_ok-insert.ensures.added ∙ ap not (any_met copied c.self.inside.keys.keys c.args.self.now e ∙ ap (λ s. list_any (same_segment s) c.args.self.now) same)
