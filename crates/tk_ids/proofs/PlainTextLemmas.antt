-- The text of an id without its escapes.
use Rattle.std.proofs.Common.{◌≡◌, ℕ, ◌≤◌, false, cond, eqb, List, [], ◌∷◌, ◌++◌, length, drop, Option, Some, None, refl, sym, ap, ◌∙◌, subst, arith}
use Rattle.std.specs.List.{AllByRecursion, list_any}
use Rattle.std.specs.Str.{IsUtf8}
use Rattle.std.proofs.lemmas.Bool.{cond_both, ne_eqb}
use Rattle.std.proofs.lemmas.List.{append_assoc, append-nil, drop_all}
use Rattle.std.proofs.lemmas.Str.{IsUtf8-append, IsUtf8-nil}
use Rattle.tk_ids.specs.declared.escapes.Escape.{Escape}
use Rattle.tk_ids.specs.declared.escapes.Escape.TheVariants.{Plain, Percent, Digit}
use Rattle.tk_ids.specs.IdText.{SegmentView, digits_of, spelled_by, escaped, segment_text, id_text, IsSegment, IsIdText}
use Rattle.tk_ids.specs.IdSegments.{segments_of, IsTextOfId}
use Rattle.tk_ids.specs.PlainText.{plain_segment_text, plain_text}
use Rattle.tk_ids.specs.Reading.{byte_of}
use Rattle.tk_ids.proofs.IdLemmas.{digits_elim}
use Rattle.tk_ids.proofs.IdSegmentLemmas.{segments_of-id_text}
use Rattle.tk_ids.proofs.TextLemmas.{utf8_one}

abbrev pub decoded : Option ℕ → List ℕ
decoded None = []
decoded (Some b) = b ∷ []

-- the bytes that a text stands for, after what was read of an escape
abbrev pub unescaped : Escape → List ℕ → List ℕ
unescaped Plain [] = []
unescaped Plain (b ∷ rest) = cond (eqb b 37) (unescaped Percent rest) (b ∷ unescaped Plain rest)
unescaped Percent [] = []
unescaped Percent (b ∷ rest) = unescaped (Digit b) rest
unescaped (Digit x) [] = []
unescaped (Digit x) (b ∷ rest) = decoded (byte_of x b) ++ unescaped Plain rest

unescaped_byte : (b : ℕ) (rest : List ℕ) → unescaped Plain (spelled_by b (digits_of b) ++ rest) ≡ b ∷ unescaped Plain rest
unescaped_byte b =
    digits_elim (λ c o. (rest : List ℕ) → unescaped Plain (spelled_by c o ++ rest) ≡ c ∷ unescaped Plain rest)
    (λ rest. refl) (λ rest. refl) (λ rest. refl) (λ rest. refl) (λ rest. refl) (λ rest. refl)
    (λ c n _ _ rest. ap (λ t. cond t (unescaped Percent rest) (c ∷ unescaped Plain rest)) (ne_eqb c 37 n)) b

pub unescaped-escaped : (text rest : List ℕ) → unescaped Plain (escaped text ++ rest) ≡ text ++ unescaped Plain rest
unescaped-escaped [] rest = refl
unescaped-escaped (b ∷ text) rest =
    ap (unescaped Plain) (append_assoc (spelled_by b (digits_of b)) (escaped text) rest)
    ∙ unescaped_byte b (escaped text ++ rest) ∙ ap (λ l. b ∷ l) (unescaped-escaped text rest)

-- a segment's text and what follows it
pub spread : (tag value rest : List ℕ) → (((91 ∷ tag) ++ 58 ∷ value) ++ 93 ∷ []) ++ rest ≡ 91 ∷ (tag ++ 58 ∷ (value ++ 93 ∷ rest))
spread tag value rest = simp append_assoc

unescaped-segment_text : (s : SegmentView) (rest : List ℕ) → unescaped Plain (segment_text s ++ rest) ≡ plain_segment_text s ++ unescaped Plain rest
unescaped-segment_text s rest =
    ap (unescaped Plain) (spread (escaped s.tag) (escaped s.value) rest)
    ∙ ap (λ l. 91 ∷ l) (unescaped-escaped s.tag (58 ∷ (escaped s.value ++ 93 ∷ rest)))
    ∙ ap (λ l. 91 ∷ (s.tag ++ 58 ∷ l)) (unescaped-escaped s.value (93 ∷ rest))
    ∙ sym (spread s.tag s.value (unescaped Plain rest))

unescaped-id_text : (id : List SegmentView) → unescaped Plain (id_text id) ≡ plain_text id
unescaped-id_text [] = refl
unescaped-id_text (s ∷ []) =
    ap (unescaped Plain) (sym (append-nil (segment_text s))) ∙ unescaped-segment_text s [] ∙ append-nil (plain_segment_text s)
unescaped-id_text (s ∷ t ∷ id) =
    unescaped-segment_text s (47 ∷ id_text (t ∷ id)) ∙ ap (λ l. plain_segment_text s ++ 47 ∷ l) (unescaped-id_text (t ∷ id))

pub unescaped_id : (text : List ℕ) → text ≡ id_text (segments_of text) → unescaped Plain text ≡ plain_text (segments_of text)
unescaped_id text e = ap (unescaped Plain) e ∙ unescaped-id_text (segments_of text)

utf8_plain_segment : (s : SegmentView) → IsSegment s → IsUtf8 (plain_segment_text s)
utf8_plain_segment s ok =
    IsUtf8-append _ (93 ∷ [])
    (IsUtf8-append (91 ∷ s.tag) (58 ∷ s.value) (utf8_one 91 s.tag (omega arith) ok.0.1) (utf8_one 58 s.value (omega arith) ok.1.1))
    (utf8_one 93 [] (omega arith) IsUtf8-nil)

pub utf8_plain_text : (id : List SegmentView) → AllByRecursion IsSegment id → IsUtf8 (plain_text id)
utf8_plain_text [] ok = IsUtf8-nil
utf8_plain_text (s ∷ []) ok = utf8_plain_segment s ok.0
utf8_plain_text (s ∷ t ∷ id) ok =
    IsUtf8-append (plain_segment_text s) (47 ∷ plain_text (t ∷ id)) (utf8_plain_segment s ok.0) (utf8_one 47 (plain_text (t ∷ id)) (omega arith) (utf8_plain_text (t ∷ id) ok.1))

-- what a text stands for that has no escape
pub unescaped_same : (text : List ℕ) → list_any (λ b. eqb b 37) text ≡ false → unescaped Plain text ≡ text
unescaped_same [] none = refl
unescaped_same (b ∷ text) none =
    cond_both (eqb b 37) (unescaped Percent text) (b ∷ unescaped Plain text) (λ l. l ≡ b ∷ text)
    (λ e. absurd cc)
    (λ n. ap (λ l. b ∷ l) (unescaped_same text cc))

-- what is written so far, and what is still to come
abbrev pub IsWritten : List ℕ → ℕ → Escape → List ℕ → Type 0
IsWritten text n escape plain = plain ++ unescaped escape (drop n text) ≡ unescaped Plain text

unescaped_nothing : (escape : Escape) → unescaped escape [] ≡ []
unescaped_nothing Plain = refl
unescaped_nothing Percent = refl
unescaped_nothing (Digit x) = refl

-- what is written at the end
pub written_end : (text bytes : List ℕ) (n : ℕ) (escape : Escape) (plain : List ℕ) → bytes ≡ text → IsIdText text → length bytes ≤ n → IsWritten bytes n escape plain → plain ≡ plain_text (segments_of text)
written_end text bytes n escape plain e (id, ok, is) le h =
    sym (append-nil plain)
    ∙ ap (λ l. plain ++ l) (sym (ap (unescaped escape) (drop_all n bytes le) ∙ unescaped_nothing escape))
    ∙ h ∙ ap (unescaped Plain) (e ∙ is) ∙ unescaped-id_text id ∙ ap plain_text (sym (segments_of-id_text text id ok is))

pub utf8_of_id : (text : List ℕ) → IsIdText text → IsUtf8 (plain_text (segments_of text))
utf8_of_id text (id, ok, is) = subst (λ l. IsUtf8 (plain_text l)) (sym (segments_of-id_text text id ok is)) (utf8_plain_text id ok.1)

-- an id's text that has no escape
pub same_plain_text : (text bytes : List ℕ) (count : ℕ) → IsTextOfId text count → bytes ≡ text → list_any (λ b. eqb b 37) bytes ≡ false → text ≡ plain_text (segments_of text)
same_plain_text text bytes count h e none =
    sym (unescaped_same text (ap (list_any (λ b. eqb b 37)) (sym e) ∙ none)) ∙ unescaped_id text h.spells
