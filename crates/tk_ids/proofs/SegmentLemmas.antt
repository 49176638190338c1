-- A segment's text may be cut after its tag.
use Rattle.std.proofs.Common.{◌≡◌, ℕ, ◌≤◌, List, ◌++◌, length, take, drop, sym, ap, ◌∙◌, subst, length-drop, arith}
use Rattle.std.specs.Str.{IsCharBoundary}
use Rattle.std.proofs.Math.Seq.{take-append_seam, drop-append_seam}
use Rattle.std.proofs.lemmas.Str.{IsCharBoundary-from_drop}
use Rattle.tk_ids.specs.IdText.{IsNonEmptyText}

pub boundary : (text bytes : List ℕ) (tag_len : ℕ) → bytes ≡ text → IsNonEmptyText (drop tag_len text) → IsCharBoundary bytes tag_len
boundary text bytes tag_len e value =
    let some = value.0 in
    let within : tag_len ≤ length text = omega (arith, length-drop tag_len text) in
    subst (λ b. IsCharBoundary b tag_len) (sym e) (IsCharBoundary-from_drop text tag_len within value.1)

-- a tag and a value that are joined, cut again
pub tag_of_joined : (text tag value : List ℕ) → text ≡ tag ++ value → take (length tag) text ≡ tag
tag_of_joined text tag value is = ap (take (length tag)) is ∙ take-append_seam tag value

pub value_of_joined : (text tag value : List ℕ) → text ≡ tag ++ value → drop (length tag) text ≡ value
value_of_joined text tag value is = ap (drop (length tag)) is ∙ drop-append_seam tag value
