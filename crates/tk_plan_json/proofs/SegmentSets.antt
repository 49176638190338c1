-- The segments that a set of tags and values is.
use Rattle.std.proofs.Common.{◌≡◌, ℕ, List, [], ◌∷◌, ◌||◌, ◌&&◌, refl, sym, ap, ◌∙◌}
use Rattle.std.specs.List.{list_any}
use Rattle.std.specs.Str.{bytes_eq}
use Rattle.tk_ids.specs.IdText.{SegmentView}
use Rattle.tk_plan_json.specs.steps.Fields.{segments_of}
use Rattle.tk_plan_json.specs.Verdicts.{same_segment}

any_of : (s : SegmentView) (keys : List (List ℕ × List ℕ)) → list_any (λ y. bytes_eq s.tag y.0 && bytes_eq s.value y.1) keys ≡ list_any (same_segment s) (segments_of keys)
any_of s [] = refl
any_of s (k ∷ keys) = ap (λ b. same_segment s (record { tag = k.0; value = k.1 }) || b) (any_of s keys)

pub any_met : (s : SegmentView) (keys : List (List ℕ × List ℕ)) (seen : List SegmentView) → seen ≡ segments_of keys
    → list_any (λ y. bytes_eq s.tag y.0 && bytes_eq s.value y.1) keys ≡ list_any (same_segment s) seen
any_met s keys seen e = any_of s keys ∙ ap (list_any (same_segment s)) (sym e)
