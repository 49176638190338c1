-- The ids that have a line, sorted by their texts.
use Rattle.std.proofs.Common.{◌≡◌, ◌<◌, ◌+◌, ℕ, arith, suc, zero, Bool, true, false, not, ◌||◌, List, [], ◌∷◌, ◌++◌, filter, length, get_or, Some, None, Option, bytes_eq, cond, refl, sym, ap, ap₂, subst, ◌∙◌, nat_cmp}
use Rattle.std.specs.Prelude.{All, is_some}
use Rattle.std.specs.List.{flat_map, fold, list_any, AllByRecursion, IsDistinct}
use Rattle.std.specs.List.Sorted.{IsPermutation, IsSortedByKey, IsStrictlySortedBy}
use Rattle.std.specs.Option.{unwrap_or}
use Rattle.std.specs.Ordering.{is_lt, match_ordering, ordering_reverse}
use Rattle.std.specs.declared.cmp.Ordering.{Ordering}
use Rattle.std.specs.declared.cmp.Ordering.TheVariants.{Less, Equal, Greater}
use Rattle.std.specs.Cmp.{IsEquivalence, on_equiv}
use Rattle.std.specs.Cmp.Lexicographic.{slice_cmp, nat_list_cmp_total, nat_list_eq_equiv, texts_ties, bytes_decides}
use Rattle.std.specs.Map.{lookup, keys_of}
use Rattle.std.specs.BTreeMap.{is_at}
use Rattle.std.specs.BTreeSet.{insert_key}
use Rattle.std.proofs.lemmas.Bool.{true≢false}
use Rattle.std.proofs.lemmas.Option.{slice_get-get_or}
use Rattle.std.proofs.lemmas.Map.Entries.{option_filter, lookup_from_place, lookup-filter-values, length-keys_of}
use Rattle.std.proofs.lemmas.Map.Keys.{IsDistinct-from_apart, IsDistinct-IsPermutation, apart_from_distinct, sorted_from_all_adjacent}
use Rattle.std.proofs.lemmas.Map.Made.{IsDistinct-keys_filter}
use Rattle.std.proofs.lemmas.Map.Lookups.{exact_bytes, btree_set_from_contains}
use Rattle.std.proofs.lemmas.List.{get_or-map, length-map}
use Rattle.std.proofs.lemmas.List.Elements.{All-filter}
use Rattle.std.proofs.lemmas.List.Sorted.{IsPermutation-map, All-permutation, list_any-IsPermutation}
use Rattle.tk_base.proofs.Truth.{or_twice, or_swap}
use Rattle.tk_ids.specs.IdText.{id_text}
use Rattle.tk_events.specs.Fields.{field_text, line_feed}
use Rattle.tk_report_text.specs.Labels.{Label}
use Rattle.tk_report_text.specs.Reports.{id_lines, id_texts, label_line, labels_of_id}
use Rattle.tk_report_text.specs.GroupedLines.{BorrowedText, IdLines, id_with_lines}
use Rattle.tk_report_text.specs.steps.{texts, has_lines, is_empty, AreApart, IsAt, IsInOrder, IsKept}
use Rattle.tk_events.proofs.KindLemmas.{same_bytes}

abbrev order : List ℕ → List ℕ → Ordering
order = slice_cmp nat_cmp

abbrev is_same : BorrowedText → BorrowedText → Bool
is_same x y = bytes_eq x.now y.now

is_same_equiv : IsEquivalence is_same
is_same_equiv = on_equiv (λ x. x.now) nat_list_eq_equiv

-- ---- different ids that are sorted rise

key_at : (ids : List IdLines) (i : ℕ) (d : BorrowedText) → i < length (keys_of ids) → IsAt ids (get_or (keys_of ids) i d).now i
key_at [] i d lt = absurd (omega (arith, lt))
key_at (e ∷ ids) zero d lt = refl
key_at (e ∷ ids) (suc i) d lt = key_at ids i d (omega (arith, lt))

distinct : (ids : List IdLines) → AreApart ids → IsDistinct is_same (keys_of ids)
distinct ids apart = IsDistinct-from_apart is_same (keys_of ids) differ
  where
    differ : (i j : ℕ) (d : BorrowedText) → i < j → j < length (keys_of ids) → is_same (get_or (keys_of ids) i d) (get_or (keys_of ids) j d) ≡ false
    differ i j d before below = by (is_same (get_or (keys_of ids) i d) (get_or (keys_of ids) j d)) refl
      where
        by : (b : Bool) → is_same (get_or (keys_of ids) i d) (get_or (keys_of ids) j d) ≡ b → b ≡ false
        by false e = refl
        by true e =
            let one = same_bytes (get_or (keys_of ids) i d).now (get_or (keys_of ids) j d).now e in
            let at = subst (λ x. IsAt ids x i) one (key_at ids i d (omega (arith, before, below))) in
            absurd (omega (arith, before, apart (get_or (keys_of ids) j d).now i j at (key_at ids j d below)))

rises : (x y : IdLines) → is_lt (order y.0.now x.0.now) ≡ false → bytes_eq x.0.now y.0.now ≡ false → order x.0.now y.0.now ≡ Less
rises x y down apart = by (order y.0.now x.0.now) refl down
  where
    by : (o : Ordering) → order y.0.now x.0.now ≡ o → is_lt o ≡ false → order x.0.now y.0.now ≡ Less
    by Less e h = absurd (true≢false h)
    by Equal e h = absurd (true≢false (sym ((bytes_decides x.0.now y.0.now).1 (sym (exact_bytes y.0.now x.0.now e))) ∙ apart))
    by Greater e h = nat_list_cmp_total.antisymm x.0.now y.0.now ∙ ap ordering_reverse e

module _ (sorted : List IdLines) (once : IsDistinct is_same (keys_of sorted)) (up : IsSortedByKey (λ (e : IdLines). e.0.now) order sorted) where
  next_rises : (d : IdLines) (k : ℕ) → k + 1 < length sorted → order (get_or (texts sorted) k []) (get_or (texts sorted) (k + 1) []) ≡ Less
  next_rises d k lt =
      let n = length-keys_of sorted in
      let apart = apart_from_distinct is_same (keys_of sorted) k (k + 1) d.0 once (omega arith) (omega (arith, lt, n)) in
      let key = get_or-map (λ (e : IdLines). e.0) sorted k d d.0 (omega (arith, lt)) in
      let next_key = get_or-map (λ (e : IdLines). e.0) sorted (k + 1) d d.0 lt in
      let first = get_or-map (λ (e : IdLines). e.0.now) sorted k d [] (omega (arith, lt)) in
      let second = get_or-map (λ (e : IdLines). e.0.now) sorted (k + 1) d [] lt in
      ap₂ order first second ∙ rises (get_or sorted k d) (get_or sorted (k + 1) d) (up k d (omega arith) lt) (sym (ap₂ is_same key next_key) ∙ apart)

each_rises : (sorted : List IdLines) → IsDistinct is_same (keys_of sorted) → IsSortedByKey (λ e. e.0.now) order sorted → (k : ℕ) → k + 1 < length (texts sorted) → order (get_or (texts sorted) k []) (get_or (texts sorted) (k + 1) []) ≡ Less
each_rises [] once up k lt = absurd (omega (arith, lt))
each_rises (e ∷ es) once up k lt = next_rises (e ∷ es) once up e k (omega (arith, lt, length-map (e ∷ es) (λ (x : IdLines). x.0.now)))

sorted_rises : (es sorted : List IdLines) → IsDistinct is_same (keys_of es) → IsPermutation es sorted → IsSortedByKey (λ e. e.0.now) order sorted → IsStrictlySortedBy order (texts sorted)
sorted_rises es sorted once same up =
    sorted_from_all_adjacent nat_list_cmp_total (texts sorted) []
    (each_rises sorted (IsDistinct-IsPermutation is_same is_same_equiv.symm (keys_of es) (keys_of sorted) (IsPermutation-map (λ (e : IdLines). e.0) es sorted same) once) up)

-- ---- the ids of a list of labels, in order

-- whether one of the labels has the id with this text
abbrev has_id : List Label → List ℕ → Bool
has_id ls x = list_any (λ l. bytes_eq (id_text l.id) x) ls

abbrev put_id : List (List ℕ) → Label → List (List ℕ)
put_id texts l = insert_key order texts (id_text l.id)

all_put : (P : List ℕ → Type 0) (x : List ℕ) (ks : List (List ℕ)) → P x → AllByRecursion P ks → AllByRecursion P (insert_key order ks x)
all_put P x [] p h = (p, tt)
all_put P x (k ∷ ks) p h = by (order x k) (all_put P x ks p h.1)
  where
    by : (o : Ordering) → AllByRecursion P (insert_key order ks x) → AllByRecursion P (match_ordering o (x ∷ k ∷ ks) (k ∷ ks) (k ∷ insert_key order ks x))
    by Less rest = (p, h)
    by Equal rest = h
    by Greater rest = (h.0, rest)

all_above : (x k : List ℕ) (ks : List (List ℕ)) → order x k ≡ Less → AllByRecursion (λ y. order k y ≡ Less) ks → AllByRecursion (λ y. order x y ≡ Less) ks
all_above x k [] e h = tt
all_above x k (y ∷ ks) e h = (nat_list_cmp_total.trans x k y e h.0, all_above x k ks e h.1)

sorted_put : (x : List ℕ) (ks : List (List ℕ)) → IsStrictlySortedBy order ks → IsStrictlySortedBy order (insert_key order ks x)
unfolding IsStrictlySortedBy
sorted_put x [] h = (tt, tt)
sorted_put x (k ∷ ks) h = by (order x k) refl (sorted_put x ks h.1)
  where
    by : (o : Ordering) → order x k ≡ o → IsStrictlySortedBy order (insert_key order ks x) → IsStrictlySortedBy order (match_ordering o (x ∷ k ∷ ks) (k ∷ ks) (k ∷ insert_key order ks x))
    by Less e rest = ((e, all_above x k ks e h.0), h)
    by Equal e rest = h
    by Greater e rest = (all_put (λ y. order k y ≡ Less) x ks (nat_list_cmp_total.antisymm k x ∙ ap ordering_reverse e) h.0, rest)

sorted_puts : (ls : List Label) (ks : List (List ℕ)) → IsStrictlySortedBy order ks → IsStrictlySortedBy order (fold put_id ks ls)
sorted_puts [] ks h = h
sorted_puts (l ∷ ls) ks h = sorted_puts ls (put_id ks l) (sorted_put (id_text l.id) ks h)

ids_rise : (ls : List Label) → IsStrictlySortedBy order (id_texts ls)
unfolding IsStrictlySortedBy
ids_rise ls = sorted_puts ls [] tt

or_assoc : (a b h : Bool) → (a || b) || h ≡ b || (a || h)
or_assoc true true h = refl
or_assoc true false h = refl
or_assoc false b h = refl

any_put : (q x : List ℕ) (ks : List (List ℕ)) → list_any (λ k. bytes_eq k q) (insert_key order ks x) ≡ bytes_eq x q || list_any (λ k. bytes_eq k q) ks
any_put q x [] = refl
any_put q x (k ∷ ks) = by (order x k) refl (any_put q x ks)
  where
    by : (o : Ordering) → order x k ≡ o → list_any (λ k. bytes_eq k q) (insert_key order ks x) ≡ bytes_eq x q || list_any (λ k. bytes_eq k q) ks → list_any (λ k. bytes_eq k q) (match_ordering o (x ∷ k ∷ ks) (k ∷ ks) (k ∷ insert_key order ks x)) ≡ bytes_eq x q || (bytes_eq k q || list_any (λ k. bytes_eq k q) ks)
    by Less e rest = refl
    by Equal e rest = or_twice (bytes_eq k q) (list_any (λ k. bytes_eq k q) ks) ∙ ap (λ t. bytes_eq t q || (bytes_eq k q || list_any (λ k. bytes_eq k q) ks)) (sym (exact_bytes x k e))
    by Greater e rest = ap (λ b. bytes_eq k q || b) rest ∙ or_swap (bytes_eq k q) (bytes_eq x q) (list_any (λ k. bytes_eq k q) ks)

any_puts : (q : List ℕ) (ls : List Label) (ks : List (List ℕ)) → list_any (λ k. bytes_eq k q) (fold put_id ks ls) ≡ list_any (λ k. bytes_eq k q) ks || has_id ls q
any_puts q [] ks = by (list_any (λ k. bytes_eq k q) ks)
  where
    by : (b : Bool) → b ≡ b || false
    by true = refl
    by false = refl
any_puts q (l ∷ ls) ks = any_puts q ls (put_id ks l) ∙ ap (λ b. b || has_id ls q) (any_put q (id_text l.id) ks) ∙ or_assoc (bytes_eq (id_text l.id) q) (list_any (λ k. bytes_eq k q) ks) (has_id ls q)

-- ---- the ids that have a line are those

abbrev has_text : List ℕ → IdLines → Bool
has_text q e = bytes_eq e.0.now q

abbrev found : List ℕ → List IdLines → Option (List ℕ)
found q es = lookup (λ k. bytes_eq q k.now) es

any_entry : (q : List ℕ) (es : List IdLines) → list_any (has_text q) es ≡ is_some (found q es)
any_entry q [] = refl
any_entry q (e ∷ es) = ap (λ b. b || list_any (has_text q) es) (nat_list_eq_equiv.symm e.0.now q) ∙ by (bytes_eq q e.0.now) (any_entry q es)
  where
    by : (b : Bool) → list_any (has_text q) es ≡ is_some (found q es) → b || list_any (has_text q) es ≡ is_some (cond b (Some e.1) (found q es))
    by true rest = refl
    by false rest = rest

any_text : (q : List ℕ) (es : List IdLines) → list_any (λ k. bytes_eq k q) (texts es) ≡ list_any (has_text q) es
any_text q [] = refl
any_text q (e ∷ es) = ap (λ b. bytes_eq e.0.now q || b) (any_text q es)

any_tied : (q : List ℕ) (ks : List (List ℕ)) → list_any (is_at (order q)) ks ≡ list_any (λ k. bytes_eq k q) ks
any_tied q [] = refl
any_tied q (k ∷ ks) = ap₂ (λ a b. a || b) (sym (texts_ties q k) ∙ nat_list_eq_equiv.symm q k) (any_tied q ks)

some_filled : (o : Option (List ℕ)) → is_some (option_filter (λ l. not (is_empty l)) o) ≡ not (is_empty (unwrap_or o []))
some_filled None = refl
some_filled (Some []) = refl
some_filled (Some (b ∷ bs)) = refl

-- the lines of an id are empty where it has no event
filled : (q : List ℕ) (ls : List Label) → not (is_empty (flat_map label_line (labels_of_id q ls))) ≡ has_id ls q
filled q [] = refl
filled q (l ∷ ls) = by (bytes_eq (id_text l.id) q) (filled q ls)
  where
    by : (b : Bool) → not (is_empty (flat_map label_line (labels_of_id q ls))) ≡ has_id ls q → not (is_empty (flat_map label_line (cond b (l ∷ labels_of_id q ls) (labels_of_id q ls)))) ≡ b || has_id ls q
    by true rest = refl
    by false rest = rest

module _ (ls : List Label) (ids sorted : List IdLines) (h : IsKept ls ids) (s : IsInOrder ids sorted) where
  abbrev with_lines : List IdLines
  with_lines = filter has_lines ids

  once : IsDistinct is_same (keys_of ids)
  once = distinct ids h.apart

  rise : IsStrictlySortedBy order (texts sorted)
  rise = sorted_rises with_lines sorted (IsDistinct-keys_filter is_same has_lines ids once) s.same s.ordered

  any_with_lines : (q : List ℕ) → list_any (has_text q) with_lines ≡ has_id ls q
  any_with_lines q =
      any_entry q with_lines ∙ ap is_some (lookup-filter-values is_same_equiv (λ (l : List ℕ). not (is_empty l)) (record { ref_ptr = (0, 0); now = q }) ids once)
      ∙ some_filled (found q ids) ∙ ap (λ (l : List ℕ). not (is_empty l)) (h.lines q) ∙ filled q ls

  texts_are : texts sorted ≡ id_texts ls
  texts_are = btree_set_from_contains nat_list_cmp_total (record { keys = texts sorted }) (record { keys = id_texts ls }) rise (ids_rise ls)
      (λ q. any_tied q (texts sorted) ∙ any_text q sorted ∙ sym (list_any-IsPermutation (has_text q) with_lines sorted s.same)
      ∙ any_with_lines q ∙ sym (any_puts q ls []) ∙ sym (any_tied q (id_texts ls)))
      (λ x y e. exact_bytes x y e)

  abbrev said : List ℕ → List ℕ
  said x = flat_map label_line (labels_of_id x ls)

  abbrev HasLines : IdLines → Type 0
  HasLines e = e.1 ≡ said e.0.now

  ids_have : All HasLines ids
  ids_have k d lt =
      let e = get_or ids k d in
      let at = lookup_from_place is_same_equiv ids k e.0 e.1 once (slice_get-get_or ids k d lt) in
      sym (ap (λ (o : Option (List ℕ)). unwrap_or o []) at) ∙ h.lines e.0.now

  sorted_have : All HasLines sorted
  sorted_have = All-permutation HasLines with_lines sorted s.same (All-filter has_lines HasLines ids ids_have)

  own_lines : (es : List IdLines) → All HasLines es → flat_map id_with_lines es ≡ flat_map (id_lines ls) (texts es)
  own_lines [] f = refl
  own_lines (e ∷ es) f = ap₂ (λ (v rest : List ℕ). (field_text e.0.now ++ line_feed ∷ v) ++ rest) (f 0 e (omega arith)) (own_lines es (λ k d lt. f (suc k) d (omega arith)))

  pub sorted_is : flat_map id_with_lines sorted ≡ flat_map (id_lines ls) (id_texts ls)
  sorted_is = own_lines sorted sorted_have ∙ ap (flat_map (id_lines ls)) texts_are
