-- Answers by keys, and open starts by keys.
use Rattle.std.proofs.Common.{◌≡◌, ◌≢◌, ℕ, zero, suc, ◌<◌, ◌≤◌, Bool, true, false, List, [], ◌∷◌, ◌++◌, length, get_or, set, map, slice_get, Option, Some, None, Result, Ok, Err, OnOk, refl, sym, ap, ◌∙◌, subst, arith, eqb, eqb-true, eq-eqb}
use Rattle.std.specs.Prelude.{◌/◌, ◌%◌, ◌==◌, if◌then◌else◌}
use Rattle.std.proofs.lemmas.Bool.{ne_eqb, true≢false}
use Rattle.std.proofs.lemmas.Option.{same_Some, none-some}
use Rattle.std.proofs.lemmas.List.{length-map}
use Rattle.tk_events.specs.declared.events.Entry.{Entry}
use Rattle.tk_record.specs.Recorded.{Recorded}
use Rattle.tk_query.specs.declared.rules.DescriptorTest.{DescriptorTest}
use Rattle.tk_query.specs.steps.Rules.{key_passes, AreAnswers}
use Rattle.tk_query.specs.Pairing.{open_of, HasSlot, HaveSlots}
use Rattle.tk_query_lifecycle.proofs.ListLemmas.{get_or_more, get_or_put}

pub answers_more : (r : Recorded) (test : DescriptorTest) (answers new : List (Option Bool)) → AreAnswers r test answers → new ≡ answers ++ None ∷ [] → AreAnswers r test new
answers_more r test answers new are is = record {
  answers_are = λ key b at. are.answers_are key b (sym (get_or_more answers None key) ∙ ap (λ l. get_or l key None) (sym is) ∙ at);
}

-- the answer of a key is stored
pub answers_put : (r : Recorded) (test : DescriptorTest) (answers new : List (Option Bool)) (key : ℕ) (b : Bool) → AreAnswers r test answers → b ≡ key_passes test r key
    → key < length answers → new ≡ set answers key (Some b) → AreAnswers r test new
answers_put r test answers new key b are answered within is = record {
  answers_are = λ k y given. by_key k y given (eqb key k) refl;
}
  where
    read : (k : ℕ) → get_or new k None ≡ (if key == k then Some b else get_or answers k None)
    read k = ap (λ l. get_or l k None) is ∙ get_or_put answers key k (Some b) None within

    by_key : (k : ℕ) (y : Bool) → get_or new k None ≡ Some y → (same : Bool) → eqb key k ≡ same → y ≡ key_passes test r k
    by_key k y given true same =
        let found : Some b ≡ Some y = sym (read k ∙ ap (λ t. if t then Some b else get_or answers k None) same) ∙ given in
        sym (same_Some b y found) ∙ answered ∙ ap (key_passes test r) (eqb-true key k same)
    by_key k y given false other = are.answers_are k y (sym (read k ∙ ap (λ t. if t then Some b else get_or answers k None) other) ∙ given)

pub on_ok_from : {X E A B : Type 0} (o : Result X E) → (A → B) → OnOk o A → OnOk o B
on_ok_from (Ok x) f h = f h
on_ok_from (Err x) f h = h

-- a row is put among rows that are the old ones
module _ (old mid : List (List (Option (ℕ × ℕ)))) (rows_are : (k : ℕ) → get_or mid k [] ≡ get_or old k []) (at : ℕ) (row : List (Option (ℕ × ℕ))) (within : at < length mid) where
  row_read : (k : ℕ) (b : Bool) → eqb at k ≡ b → get_or (set mid at row) k [] ≡ (if b then row else get_or old k [])
  row_read k b e = get_or_put mid at k row [] within ∙ ap (λ t. if t then row else get_or mid k []) e ∙ ap (λ l. if b then row else l) (rows_are k)

  pub slot_there : (i : ℕ) → i < length row → i < length (get_or (set mid at row) at [])
  slot_there i lt = subst (λ l. i < length l) (sym (row_read at true (eq-eqb at at refl))) lt

  pub slots_kept : length (get_or old at []) ≤ length row → (q : ℕ) → HasSlot old q → HasSlot (set mid at row) q
  slots_kept long q has = by_row (eqb at (q / 65536)) refl
    where
      by_row : (b : Bool) → eqb at (q / 65536) ≡ b → HasSlot (set mid at row) q
      by_row true e =
          let had : q % 65536 < length (get_or old at []) = subst (λ k. q % 65536 < length (get_or old k [])) (sym (eqb-true at (q / 65536) e)) has in
          let new : q % 65536 < length row = omega arith in
          subst (λ l. q % 65536 < length l) (sym (row_read (q / 65536) true e)) new
      by_row false e = subst (λ l. q % 65536 < length l) (sym (row_read (q / 65536) false e)) has

  pub starts_kept : ((i : ℕ) → get_or row i None ≡ get_or (get_or old at []) i None) → (q : ℕ) → open_of (set mid at row) q ≡ open_of old q
  starts_kept same q = by_row (eqb at (q / 65536)) refl
    where
      by_row : (b : Bool) → eqb at (q / 65536) ≡ b → open_of (set mid at row) q ≡ open_of old q
      by_row true e =
          ap (λ l. get_or l (q % 65536) None) (row_read (q / 65536) true e) ∙ same (q % 65536)
          ∙ ap (λ k. get_or (get_or old k []) (q % 65536) None) (eqb-true at (q / 65536) e)
      by_row false e = ap (λ l. get_or l (q % 65536) None) (row_read (q / 65536) false e)

-- a start is put into its row
module _ (old : List (List (Option (ℕ × ℕ)))) (row : List (Option (ℕ × ℕ))) (key : ℕ) (start : Option (ℕ × ℕ)) (within : key / 65536 < length old)
    (put : (i : ℕ) → get_or row i None ≡ (if key % 65536 == i then start else get_or (get_or old (key / 65536) []) i None)) where
  rows_read : (k : ℕ) (b : Bool) → eqb (key / 65536) k ≡ b → get_or (set old (key / 65536) row) k [] ≡ (if b then row else get_or old k [])
  rows_read k b e = row_read old old (λ i. refl) (key / 65536) row within k b e

  start_read : (i : ℕ) (b : Bool) → eqb (key % 65536) i ≡ b → get_or row i None ≡ (if b then start else get_or (get_or old (key / 65536) []) i None)
  start_read i b e = put i ∙ ap (λ t. if t then start else get_or (get_or old (key / 65536) []) i None) e

  unlike : (q : ℕ) → key ≢ q → (if key == q then start else open_of old q) ≡ open_of old q
  unlike q ne = ap (λ t. if t then start else open_of old q) (ne_eqb key q ne)

  by_parts : (q : ℕ) (a b : Bool) → eqb (key / 65536) (q / 65536) ≡ a → eqb (key % 65536) (q % 65536) ≡ b
      → open_of (set old (key / 65536) row) q ≡ (if key == q then start else open_of old q)
  by_parts q true true e f =
      let high = eqb-true (key / 65536) (q / 65536) e in
      let low = eqb-true (key % 65536) (q % 65536) f in
      let same : key ≡ q = omega (arith, high, low) in
      ap (λ l. get_or l (q % 65536) None) (rows_read (q / 65536) true e) ∙ start_read (q % 65536) true f
      ∙ sym (ap (λ t. if t then start else open_of old q) (eq-eqb key q same))
  by_parts q true false e f =
      let high = eqb-true (key / 65536) (q / 65536) e in
      ap (λ l. get_or l (q % 65536) None) (rows_read (q / 65536) true e) ∙ start_read (q % 65536) false f
      ∙ ap (λ k. get_or (get_or old k []) (q % 65536) None) high
      ∙ sym (unlike q (λ same. true≢false (sym (eq-eqb (key % 65536) (q % 65536) (ap (λ n. n % 65536) same)) ∙ f)))
  by_parts q false b e f =
      ap (λ l. get_or l (q % 65536) None) (rows_read (q / 65536) false e)
      ∙ sym (unlike q (λ same. true≢false (sym (eq-eqb (key / 65536) (q / 65536) (ap (λ n. n / 65536) same)) ∙ e)))

  pub replaced : (q : ℕ) → open_of (set old (key / 65536) row) q ≡ (if key == q then start else open_of old q)
  replaced q = by_parts q (eqb (key / 65536) (q / 65536)) (eqb (key % 65536) (q % 65536)) refl refl

-- the row of a key that has a slot
pub row_within : (rows : List (List (Option (ℕ × ℕ)))) (key : ℕ) → HasSlot rows key → key / 65536 < length rows
row_within rows key has = by_place rows (key / 65536) (key % 65536) has
  where
    by_place : (rows : List (List (Option (ℕ × ℕ)))) (at i : ℕ) → i < length (get_or rows at []) → at < length rows
    by_place [] at i lt = absurd (omega arith)
    by_place (row ∷ rows) zero i lt = omega arith
    by_place (row ∷ rows) (suc at) i lt = let below = by_place rows at i lt in omega arith

-- the key of each entry has a slot where each of the keys has one
pub slots_of : (r : Recorded) (keys : List ℕ) (n : ℕ) (rows : List (List (Option (ℕ × ℕ)))) → keys ≡ map (λ e. e.event.key) r.entries → length keys ≤ n → ((i : ℕ) → i < n → HasSlot rows (get_or keys i 0)) → HaveSlots r rows
slots_of r keys n rows are all has = record {
  each = λ i e at.
      let found = keyed r.entries i e at in
      let lt = found.0 in
      let long = ap length are ∙ length-map r.entries (λ (x : Entry). x.event.key) in
      subst (HasSlot rows) (ap (λ list. get_or list i 0) are ∙ found.1) (has i (omega (arith, lt, long, all)));
}
  where
    keyed : (es : List Entry) (i : ℕ) (e : Entry) → slice_get es i ≡ Some e → (i < length es) × (get_or (map (λ x. x.event.key) es) i 0 ≡ e.event.key)
    keyed [] i e at = absurd (none-some e at)
    keyed (x ∷ es) zero e at = (omega arith, ap (λ (y : Entry). y.event.key) (same_Some x e at))
    keyed (x ∷ es) (suc i) e at = let r = keyed es i e at in let lt = r.0 in (omega arith, r.1)
