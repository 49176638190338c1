-- What `UniqueId::read` answers where the machine stops.
use Rattle.std.proofs.Common.{◌≡◌, ◌≢◌, ℕ, ◌<◌, ◌≤◌, List, [], ◌∷◌, length, take, get_or, None, refl, sym, ap, ◌∙◌, subst, arith, Result, Ok, Err}
use Rattle.std.proofs.lemmas.List.{length-append}
use Rattle.tk_ids.specs.declared.id_faults.IdFault.{IdFault}
use Rattle.tk_ids.specs.declared.id_faults.IdFault.TheVariants.{Empty, BadSegment, BadEscape, TooLong, Memory}
use Rattle.tk_ids.specs.Prefix.{IsLongestPrefix}
use Rattle.tk_ids.specs.IdText.{SegmentView, IsId, IsIdText, id_text, FitsLimits, EndsInEscape}
use Rattle.tk_ids.specs.Reading.{State, Closed, step}
use Rattle.tk_ids.specs.Answer.{IsBadAt, IsReadAs}
use Rattle.tk_ids.proofs.ReadingLemmas.{HasRead, stuck_longest, stuck_refutes, end_is, text_is_unique}

pub bad_where_stuck : (text : List ℕ) (n : ℕ) (s : State) → HasRead text n s → n < length text → step s (get_or text n 0) ≡ None → IsBadAt text n
bad_where_stuck text n s h lt stuck =
    record { some = omega arith; no_id = stuck_refutes text n s h lt stuck; prefix = stuck_longest text n s h (λ _. stuck) }

pub bad_at_end : (text : List ℕ) (n : ℕ) (s : State) → HasRead text n s → 0 < length text → length text ≤ n → ((done : List SegmentView) → s ≡ Closed done → ⊥) → IsBadAt text (length text)
bad_at_end text n s h some le open_at =
    let within : n ≤ length text = h.within in
    let all : n ≡ length text = omega arith in
    record {
      some = some;
      no_id = λ is. open_at is.0 (end_is text n s is.0 h le is.1 is.2);
      prefix = subst (IsLongestPrefix IsIdText text) all (stuck_longest text n s h (λ lt. absurd (omega arith)));
    }

pub id_text_some : (id : List SegmentView) → IsId id → 0 < length (id_text id)
id_text_some [] ok = absurd (omega (arith, ok.0))
id_text_some (s ∷ []) ok = simp length-append (omega arith)
id_text_some (s ∷ t ∷ id) ok = simp length-append (omega arith)

same_at : (text : List ℕ) (m n : ℕ) → IsBadAt text m → IsBadAt text n → m ≡ n
same_at text m n a b =
    let le = b.prefix.longest m a.prefix.within a.prefix.begins in
    let ge = a.prefix.longest n b.prefix.within b.prefix.begins in
    omega arith

-- a text has one answer, where memory doesn't run out
pub answer_is_unique : (text : List ℕ) (a b : Result (List SegmentView) IdFault) → IsReadAs text a → IsReadAs text b → a ≢ Err Memory → b ≢ Err Memory → a ≡ b
answer_is_unique text (Err Memory) b h k na nb = absurd (na refl)
answer_is_unique text a (Err Memory) h k na nb = absurd (nb refl)
answer_is_unique text (Ok x) (Ok y) h k na nb = ap Ok (text_is_unique x y h.0 k.0 (sym h.1 ∙ k.1))
answer_is_unique text (Ok x) (Err Empty) h k na nb = let some = id_text_some x h.0 in let e = ap length (sym h.1 ∙ k) in absurd (omega (arith, some, e))
answer_is_unique text (Ok x) (Err (BadSegment n)) h k na nb = absurd (k.0.no_id (x, h.0, h.1))
answer_is_unique text (Ok x) (Err (BadEscape n)) h k na nb = absurd (k.0.no_id (x, h.0, h.1))
answer_is_unique text (Ok x) (Err TooLong) h k na nb = absurd (k.3 (subst FitsLimits (text_is_unique x k.0 h.0 k.1 (sym h.1 ∙ k.2)) h.2))
answer_is_unique text (Err TooLong) (Ok x) k h na nb = absurd (k.3 (subst FitsLimits (text_is_unique x k.0 h.0 k.1 (sym h.1 ∙ k.2)) h.2))
answer_is_unique text (Err TooLong) (Err TooLong) h k na nb = refl
answer_is_unique text (Err TooLong) (Err Empty) h k na nb = let some = id_text_some h.0 h.1 in let e = ap length (sym h.2 ∙ k) in absurd (omega (arith, some, e))
answer_is_unique text (Err TooLong) (Err (BadSegment n)) h k na nb = absurd (k.0.no_id (h.0, h.1, h.2))
answer_is_unique text (Err TooLong) (Err (BadEscape n)) h k na nb = absurd (k.0.no_id (h.0, h.1, h.2))
answer_is_unique text (Err Empty) (Ok x) k h na nb = let some = id_text_some x h.0 in let e = ap length (sym h.1 ∙ k) in absurd (omega (arith, some, e))
answer_is_unique text (Err Empty) (Err Empty) h k na nb = refl
answer_is_unique text (Err Empty) (Err (BadSegment n)) h k na nb = let some = k.0.some in let e = ap length h in absurd (omega (arith, some, e))
answer_is_unique text (Err Empty) (Err (BadEscape n)) h k na nb = let some = k.0.some in let e = ap length h in absurd (omega (arith, some, e))
answer_is_unique text (Err Empty) (Err TooLong) k h na nb = let some = id_text_some h.0 h.1 in let e = ap length (sym h.2 ∙ k) in absurd (omega (arith, some, e))
answer_is_unique text (Err (BadSegment m)) (Ok x) k h na nb = absurd (k.0.no_id (x, h.0, h.1))
answer_is_unique text (Err (BadSegment m)) (Err Empty) k h na nb = let some = k.0.some in let e = ap length h in absurd (omega (arith, some, e))
answer_is_unique text (Err (BadSegment m)) (Err (BadSegment n)) h k na nb = ap (λ i. Err (BadSegment i)) (same_at text m n h.0 k.0)
answer_is_unique text (Err (BadSegment m)) (Err (BadEscape n)) h k na nb = absurd (h.1 (subst (λ i. EndsInEscape (take i text)) (same_at text n m k.0 h.0) k.1))
answer_is_unique text (Err (BadSegment m)) (Err TooLong) k h na nb = absurd (k.0.no_id (h.0, h.1, h.2))
answer_is_unique text (Err (BadEscape m)) (Ok x) k h na nb = absurd (k.0.no_id (x, h.0, h.1))
answer_is_unique text (Err (BadEscape m)) (Err Empty) k h na nb = let some = k.0.some in let e = ap length h in absurd (omega (arith, some, e))
answer_is_unique text (Err (BadEscape m)) (Err (BadSegment n)) k h na nb = absurd (h.1 (subst (λ i. EndsInEscape (take i text)) (same_at text m n k.0 h.0) k.1))
answer_is_unique text (Err (BadEscape m)) (Err (BadEscape n)) h k na nb = ap (λ i. Err (BadEscape i)) (same_at text m n h.0 k.0)
answer_is_unique text (Err (BadEscape m)) (Err TooLong) k h na nb = absurd (k.0.no_id (h.0, h.1, h.2))
