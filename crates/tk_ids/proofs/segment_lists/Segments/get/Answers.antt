use Rattle.std.proofs.Common.{◌≡◌, ◌∙◌, Option, Some, None, option_map, refl, sym}
use Rattle.std.proofs.lemmas.Iterator.Consumers.{nth_from_yields_List, YieldsList-from_first}
use Rattle.tk_ids.specs.IdText.{SegmentView}
use Rattle.tk_ids.proofs.segment_lists.Segments.get.Goals as goal

same_option : (o : Option SegmentView) → option_map (λ s. s) o ≡ o
same_option None = refl
same_option (Some s) = refl

pub returns : goal.returns
returns c =
    sym (same_option c.nth.result)
    ∙ nth_from_yields_List c.nth.result c.nth.new.self c.args.index c.nth.ensures.ran (YieldsList-from_first (λ s. s) (λ rest. rest) c.args.self.now c.iter.ensures)
