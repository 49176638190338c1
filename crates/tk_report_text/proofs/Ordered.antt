-- Texts in order, each once: what matters is which they are.
use Rattle.std.proofs.Common.{◌≡◌, ℕ, Bool, true, false, cond, ◌||◌, List, [], ◌∷◌, map, Option, Some, refl, sym, ap, ◌∙◌, nat_cmp}
use Rattle.std.specs.List.{list_any, fold}
use Rattle.std.specs.Ordering.{eq_by_cmp, match_ordering}
use Rattle.std.specs.Cmp.Lexicographic.{slice_cmp, nat_list_cmp_total}
use Rattle.std.specs.BTreeSet.{insert_key}
use Rattle.std.specs.FinMap.{FinMap, entries, insert, get, from_sorted, entries-from_sorted, entries-insert, get-insert, same_map, nat_cmp-IsAntisymmetric, slice_cmp-IsAntisymmetric}
use Rattle.std.specs.FinMap.Entries.{put, by_order}
use Rattle.std.specs.declared.cmp.Ordering.{Ordering}
use Rattle.std.specs.declared.cmp.Ordering.TheVariants.{Less, Equal, Greater}

abbrev order : List ℕ → List ℕ → Ordering
order = slice_cmp nat_cmp

abbrev Texts : Type 0
Texts = FinMap order (Unit {0})

abbrev texts_in : Texts → List (List ℕ)
texts_in m = map (λ (e : List ℕ × Unit {0}). e.0) (entries m)

put_by : (o : Ordering) (k : List ℕ) (e : List ℕ × Unit {0}) (es more : List (List ℕ × Unit {0})) (ks : List (List ℕ)) → map (λ (e : List ℕ × Unit {0}). e.0) more ≡ ks
    → map (λ (e : List ℕ × Unit {0}). e.0) (by_order o ((k, tt) ∷ e ∷ es) ((e.0, tt) ∷ es) (e ∷ more))
    ≡ match_ordering o (k ∷ e.0 ∷ map (λ (e : List ℕ × Unit {0}). e.0) es) (e.0 ∷ map (λ (e : List ℕ × Unit {0}). e.0) es) (e.0 ∷ ks)
put_by Less k e es more ks h = refl
put_by Equal k e es more ks h = refl
put_by Greater k e es more ks h = ap (λ l. e.0 ∷ l) h

put_keys : (k : List ℕ) (es : List (List ℕ × Unit {0})) → map (λ (e : List ℕ × Unit {0}). e.0) (put order k tt es) ≡ insert_key order (map (λ (e : List ℕ × Unit {0}). e.0) es) k
put_keys k [] = refl
put_keys k (e ∷ es) = put_by (order k e.0) k e es (put order k tt es) _ (put_keys k es)

insert_texts : (m : Texts) (k : List ℕ) → texts_in (insert m k tt) ≡ insert_key order (texts_in m) k
insert_texts m k = ap (map (λ (e : List ℕ × Unit {0}). e.0)) (entries-insert nat_list_cmp_total m k tt) ∙ put_keys k (entries m)

module _ {A : Type 0} (text : A → List ℕ) where
  gathered : Texts → List A → Texts
  gathered m [] = m
  gathered m (x ∷ xs) = gathered (insert m (text x) tt) xs

  gathered_texts : (m : Texts) (xs : List A) → texts_in (gathered m xs) ≡ fold (λ texts x. insert_key order texts (text x)) (texts_in m) xs
  unfolding gathered
  gathered_texts m [] = refl
  gathered_texts m (x ∷ xs) = gathered_texts (insert m (text x) tt) xs ∙ ap (λ texts. fold (λ texts x. insert_key order texts (text x)) texts xs) (insert_texts m (text x))

  either : (a b : Bool) (o : Option (Unit {0})) → cond b (Some tt) (cond a (Some tt) o) ≡ cond (a || b) (Some tt) o
  either true true o = refl
  either true false o = refl
  either false true o = refl
  either false false o = refl

  gathered_get : (m : Texts) (xs : List A) (q : List ℕ) → get (gathered m xs) q ≡ cond (list_any (eq_by_cmp order q) (map text xs)) (Some tt) (get m q)
  unfolding gathered
  gathered_get m [] q = refl
  gathered_get m (x ∷ xs) q =
      gathered_get (insert m (text x) tt) xs q
      ∙ (ap (cond (list_any (eq_by_cmp order q) (map text xs)) (Some tt)) (get-insert nat_list_cmp_total m (text x) tt q)
      ∙ either (eq_by_cmp order q (text x)) (list_any (eq_by_cmp order q) (map text xs)) (get m q))

  none : Texts
  none = from_sorted []

  none_texts : texts_in none ≡ []
  unfolding none
  none_texts = ap (map (λ (e : List ℕ × Unit {0}). e.0)) (entries-from_sorted order [] tt)

  in_order : (xs : List A) → texts_in (gathered none xs) ≡ fold (λ texts x. insert_key order texts (text x)) [] xs
  in_order xs = gathered_texts none xs ∙ ap (λ texts. fold (λ texts x. insert_key order texts (text x)) texts xs) none_texts

  -- two lists with the same texts give one list of texts in order
  pub same_texts : (xs ys : List A) → ((q : List ℕ) → list_any (eq_by_cmp order q) (map text xs) ≡ list_any (eq_by_cmp order q) (map text ys))
      → fold (λ texts x. insert_key order texts (text x)) [] xs ≡ fold (λ texts x. insert_key order texts (text x)) [] ys
  same_texts xs ys same =
      sym (in_order xs)
      ∙ (ap texts_in (same_map nat_list_cmp_total (slice_cmp-IsAntisymmetric nat_cmp-IsAntisymmetric) (gathered none xs) (gathered none ys)
      (λ q. gathered_get none xs q ∙ (ap (λ b. cond b (Some tt) (get none q)) (same q) ∙ sym (gathered_get none ys q))))
      ∙ in_order ys)
