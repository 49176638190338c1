-- Bytes that are added one after another.
use Rattle.std.proofs.Common.{◌≡◌, ◌+◌, ◌<◌, ℕ, zero, suc, true, false, List, [], ◌∷◌, ◌++◌, length, get_or, take, refl, sym, ap, ◌∙◌, arith}
use Rattle.std.specs.Prelude.{slice_get, Option, None}
use Rattle.std.proofs.lemmas.Bool.{true≢false}
use Rattle.std.proofs.lemmas.List.{flat_map_more}
use Rattle.tk_streams.specs.Pieces.{Adds, Outgoing}
use Rattle.tk_streams.proofs.PieceLemmas.{adds_as, adds_both, adds_none}
use Rattle.tk_record.specs.Recorded.{Recorded}
use Rattle.tk_record_text.proofs.WritingLemmas.{taken_item}
use Rattle.tk_events.specs.declared.events.Entry.{Entry}
use Rattle.tk_explanations.specs.Rows.{row_line, row_text, rows_text}
use Rattle.tk_explanations.specs.declared.rows.Row.{Row}

infixl 5 ◌▹◌
-- bytes, and further ones after them
pub ◌▹◌ : {a b c : Outgoing} {xs ys : List ℕ} → Adds a b xs → Adds b c ys → Adds a c (xs ++ ys)
p ▹ q = adds_both _ _ _ _ _ p q

-- one row more
pub row_added : (a b c d : Outgoing) (r : Recorded) (rows : List Row) (i : ℕ) (row : Row) → i < length rows → row ≡ get_or rows i row → Adds a b (rows_text r (take i rows)) → Adds b c (row_text r row) → Adds c d (10 ∷ []) → Adds a d (rows_text r (take (i + 1) rows))
row_added a b c d r rows i row lt is before here feed =
    adds_as a d _ _ (flat_map_more (row_line r) [] (take i rows) row ∙ ap (rows_text r) (sym (taken_item rows i row lt is)))
    (adds_both a b d _ _ before (adds_both b c d (row_text r row) (10 ∷ []) here feed))

-- past the end there is none
get_past : {X : Type 0} (xs : List X) (k : ℕ) → (k < length xs → false ≡ true) → slice_get xs k ≡ None
get_past [] k h = refl
get_past (x ∷ xs) zero h = absurd (true≢false (sym (h (omega arith))))
get_past (x ∷ xs) (suc k) h = get_past xs k (λ lt. h (omega arith))

-- no event stands past the end, so that nothing is added
pub none_added : (a : Outgoing) (text : Option Entry → List ℕ) (entries : List Entry) (position : ℕ) → text None ≡ [] → (position < length entries → false ≡ true) → Adds a a (text (slice_get entries position))
none_added a text entries position none past = adds_as a a _ _ (sym none ∙ ap text (sym (get_past entries position past))) (adds_none a)
