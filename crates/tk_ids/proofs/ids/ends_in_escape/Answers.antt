use Rattle.std.proofs.Common.{◌≡◌, ◌≤◌, ◌+◌, ◌-◌, ◌++◌, ◌∷◌, [], ℕ, List, length, take, get_or, ◌⊎◌, inl, inr, ⊎_elim, refl, sym, ap, ◌∙◌, append_assoc, arith}
use Rattle.std.proofs.lemmas.List.{take_all, take_more, get_or_at, length-append}
use Rattle.std.proofs.lemmas.Bool.{eqb-true, eqb-false, eq-eqb, leb-true}
use Rattle.tk_ids.specs.IdText.{EndsInEscape}
use Rattle.tk_ids.proofs.ids.ends_in_escape.Goals as goal
use Rattle.tk_ids.proofs.ids.ends_in_escape.Goals.{then-n-ge1, else-n-ge1}

-- a text whose last byte is `%`
after_percent : (text : List ℕ) → 1 ≤ length text → get_or text (length text - 1) 0 ≡ 37 → EndsInEscape text
after_percent text some e =
    let i = length text - 1 in
    inl (take i text, sym (take_all (i + 1) text (omega arith)) ∙ take_more text i 0 (omega arith) ∙ ap (λ b. take i text ++ b ∷ []) e)

-- or the byte before it
after_digit : (text : List ℕ) → 2 ≤ length text → get_or text (length text - 2) 0 ≡ 37 → EndsInEscape text
after_digit text some e =
    let i = length text - 2 in
    let digit = get_or text (i + 1) 0 in
    let prefix = take_more text i 0 (omega arith) ∙ ap (λ b. take i text ++ b ∷ []) e in
    inr (take i text, digit, sym (take_all ((i + 1) + 1) text (omega arith)) ∙ take_more text (i + 1) 0 (omega arith) ∙ ap (λ l. l ++ digit ∷ []) prefix ∙ append_assoc (take i text) (37 ∷ []) (digit ∷ []))

abbrev PercentAt : List ℕ → ℕ → Type 0
PercentAt text back = (back ≤ length text) × (get_or text (length text - back) 0 ≡ 37)

percent_at : (text prefix rest : List ℕ) (back : ℕ) → text ≡ prefix ++ 37 ∷ rest → back ≡ length (37 ∷ rest) → PercentAt text back
percent_at text prefix rest back e is =
    let len : length text ≡ length prefix + length (37 ∷ rest) = ap length e ∙ length-append prefix (37 ∷ rest) in
    let at : length text - back ≡ length prefix = omega arith in
    (omega arith, ap (λ l. get_or l (length text - back) 0) e ∙ ap (λ n. get_or (prefix ++ 37 ∷ rest) n 0) at ∙ get_or_at prefix 37 rest 0 (length prefix) refl)

-- no other text ends so
percent : (text : List ℕ) → EndsInEscape text → PercentAt text 1 ⊎ PercentAt text 2
percent text (inl h) = inl (percent_at text h.0 [] 1 h.1 refl)
percent text (inr h) = inr (percent_at text h.0 (h.1 ∷ []) 2 h.2 refl)

pub returns-then-prefix-n-eq37 : goal.returns-then-prefix-n-eq37
returns-then-prefix-n-eq37 c = (
  λ _. elim c.if-n-ge1.branch [
    | then-n-ge1 w ↦ after_percent c.args.prefix.now w.if-n-ge1.true (eqb-true _ 37 (sym w.value-is ∙ c.if-prefix-n-eq37.true))
    | else-n-ge1 w ↦ let le = leb-true 1 (length c.args.prefix.now) (sym w.value-is ∙ c.if-prefix-n-eq37.true) in absurd (omega arith)
  ],
  λ _. c.if-prefix-n-eq37.true,
)

pub returns-then-n-ge2 : goal.returns-then-n-ge2
returns-then-n-ge2 c = (
  λ h. after_digit c.args.prefix.now c.if-n-ge2.true (eqb-true _ 37 h),
  λ ends.
      ⊎_elim
      (λ last. elim c.if-n-ge1.branch [
        | then-n-ge1 w ↦ absurd (eqb-false _ 37 (sym w.value-is ∙ c.if-prefix-n-eq37.false) last.1)
        | else-n-ge1 w ↦ absurd (omega (arith, last.0))
      ])
      (λ before. eq-eqb _ 37 before.1) (percent c.args.prefix.now ends),
)

pub returns-else-n-ge2 : goal.returns-else-n-ge2
returns-else-n-ge2 c = (
  λ h. let le = leb-true 2 (length c.args.prefix.now) h in absurd (omega arith),
  λ ends.
      ⊎_elim
      (λ last. elim c.if-n-ge1.branch [
        | then-n-ge1 w ↦ absurd (eqb-false _ 37 (sym w.value-is ∙ c.if-prefix-n-eq37.false) last.1)
        | else-n-ge1 w ↦ absurd (omega (arith, last.0))
      ])
      (λ before. absurd (omega (arith, before.0))) (percent c.args.prefix.now ends),
)
