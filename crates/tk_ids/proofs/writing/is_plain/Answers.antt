use Rattle.std.proofs.Common.{◌≡◌, ◌+◌, ◌<◌, ◌∷◌, [], ◌++◌, ℕ, List, length, take, get_or, None, sym, ap₂, ◌∙◌, subst}
use Rattle.std.proofs.lemmas.List.{take_more}
use Rattle.tk_ids.specs.IdText.{digits_of, spelled_by, escaped}
use Rattle.tk_ids.proofs.IdLemmas.{escaped-append}
use Rattle.tk_ids.proofs.ReadingLemmas.{is_none_of}
use Rattle.tk_ids.proofs.writing.is_plain.Goals as goal

-- one more byte has no escape
byte_plain : (text : List ℕ) (i : ℕ) → i < length text → digits_of (get_or text i 0) ≡ None → escaped (take i text) ≡ take i text → escaped (take (i + 1) text) ≡ take (i + 1) text
byte_plain text i lt d e =
    let b = get_or text i 0 in
    subst (λ l. escaped l ≡ l) (sym (take_more text i 0 lt)) (escaped-append (take i text) (b ∷ []) ∙ ap₂ (λ x y. x ++ (spelled_by b y ++ [])) e d)

pub loop-byte-preserved : goal.loop-byte-preserved
loop-byte-preserved c =
    byte_plain c.as_bytes-byte-items.result.now c.loop-byte.byte-index c.loop-byte-test.true (sym c.digits_of_byte.ensures ∙ is_none_of c.digits_of_byte.result (sym c.is_some.ensures ∙ c.if-is_some.false)) c.loop-byte.invariant
