-- Which keys are known after some entries.
use Rattle.std.proofs.Common.{◌≡◌, ◌≢◌, ◌==◌, ℕ, zero, suc, ◌<◌, ◌≤◌, ◌+◌, Bool, true, false, ◌&&◌, ◌||◌, if◌then◌else◌, cond, List, [], ◌∷◌, ◌++◌, length, map, sym, refl, ap, ◌∙◌, subst, ⊎_elim, arith, length-append, eq-eqb, ne_eqb}
use Rattle.std.specs.Prelude.{Option, Some, None, is_some, slice_get, filter, count_by, nat_lt}
use Rattle.std.specs.Option.{option_or}
use Rattle.std.proofs.lemmas.Bool.{cases_eq, lt-ltb, le-ltb}
use Rattle.std.proofs.lemmas.Option.{slice_get_within}
use Rattle.std.proofs.lemmas.List.Sums.{sum_by-cons}
use Rattle.tk_base.proofs.Options.{is_some-option_or, option_or-assoc}
use Rattle.tk_ids.specs.declared.descriptors.Descriptor.{Descriptor}
use Rattle.tk_events.specs.declared.kinds.Kind.TheVariants.{Dynamic}
use Rattle.tk_events.specs.declared.events.Event.{Event}
use Rattle.tk_events.specs.declared.events.Entry.{Entry}
use Rattle.tk_record.specs.Entries.{of_kind, registers, registered, desc, desc_in}
use Rattle.tk_record.specs.Record.{is_next, is_known}
use Rattle.tk_record.specs.Mixing.{of_worker}
use Rattle.tk_queue_session.proofs.ListCuts.{cut_last}
use Rattle.tk_queue_session.specs.Limits.{most_events}
use Rattle.tk_queue_session.specs.Emission.{entry_by, entries_by, is_known_after, MayEmit, Emission}
use Rattle.tk_base.proofs.Lists.{no_split}

pub emission_none : (n w : ℕ) → Emission n w []
emission_none n w = record { each = λ before e after h. absurd (no_split before e after h); few = omega arith }

pub emission_more : (n w : ℕ) (es : List Event) (x : Event) → Emission n w es → MayEmit n w es x → length es < most_events → Emission n w (es ++ x ∷ [])
emission_more n w es x m may room = record {
  each = λ before e after h. ⊎_elim
      (λ (t : (before ≡ es) × (e ≡ x)). subst (λ (y : List Event × Event). MayEmit n w y.0 y.1) (λ i. (sym t.0 i, sym t.1 i)) may)
      (λ (t : (rest : List Event) × (es ≡ before ++ e ∷ rest)). m.each before e t.0 t.1)
      (cut_last es x before e after h);
  few = omega (arith, length-append es (x ∷ []));
}

-- ---- the table and its length

pub desc_in-append : (xs ys : List Entry) (key : ℕ) → desc_in (xs ++ ys) key ≡ option_or (desc_in xs key) (desc_in ys key)
desc_in-append [] ys key = refl
desc_in-append (x ∷ xs) ys key =
    ap (option_or (registered key x)) (desc_in-append xs ys key)
    ∙ sym (option_or-assoc (registered key x) (desc_in xs key) (desc_in ys key))

none_past : {X : Type 0} (xs : List X) (k : ℕ) → slice_get xs k ≡ None → length xs ≤ k
none_past [] k e = omega arith
none_past (x ∷ xs) zero e = absurd cc
none_past (x ∷ xs) (suc k) e = let h = none_past xs k e in omega arith

is_some_within : {X : Type 0} (xs : List X) (k : ℕ) → is_some (slice_get xs k) ≡ nat_lt k (length xs)
is_some_within {X} xs k =
    elim (slice_get xs k) as (λ (o : Option X). slice_get xs k ≡ o → is_some o ≡ nat_lt k (length xs))
    [ Some x ↦ λ e. sym (lt-ltb k (length xs) (slice_get_within xs k x e)) | None ↦ λ e. sym (le-ltb k (length xs) (none_past xs k e)) ] refl

-- what has a descriptor is static, or was registered
pub some_desc : (table : List Descriptor) (es : List Entry) (key : ℕ) → is_some (desc (record { table = table; entries = es }) key) ≡ (nat_lt key (length table) || is_some (desc_in es key))
some_desc table es key = is_some-option_or (slice_get table key) (desc_in es key) ∙ ap (λ b. b || is_some (desc_in es key)) (is_some_within table key)

pub known_after : (table : List Descriptor) (es : List Entry) (e : Entry) → is_known (record { table = table; entries = es }) e ≡ is_known_after (length table) es e
known_after table es e = ap (λ (b : Bool). if of_kind Dynamic e then is_next (record { table = []; entries = es }) e else b) (some_desc table es e.event.key)

-- ---- the entries of a worker

pub own_entries : (w : ℕ) (es : List Entry) → entries_by w (of_worker w es) ≡ filter (λ e. e.worker == w) es
own_entries w [] = refl
own_entries w (e ∷ es) = ⊎_elim
    (λ (same : e.worker ≡ w).
    let is = eq-eqb e.worker w same in
    ap (λ (b : Bool). entries_by w (map (λ (x : Entry). x.event) (if b then e ∷ filter (λ x. x.worker == w) es else filter (λ x. x.worker == w) es))) is
    ∙ ap₂' (named w e same) (own_entries w es)
    ∙ sym (ap (λ (b : Bool). if b then e ∷ filter (λ x. x.worker == w) es else filter (λ x. x.worker == w) es) is))
    (λ (apart : e.worker ≢ w).
    let is = ne_eqb e.worker w apart in
    ap (λ (b : Bool). entries_by w (map (λ (x : Entry). x.event) (if b then e ∷ filter (λ x. x.worker == w) es else filter (λ x. x.worker == w) es))) is
    ∙ own_entries w es
    ∙ sym (ap (λ (b : Bool). if b then e ∷ filter (λ x. x.worker == w) es else filter (λ x. x.worker == w) es) is))
    (cases_eq e.worker w) where
      named : (w : ℕ) (e : Entry) → e.worker ≡ w → entry_by w e.event ≡ e
      named w e same = ap (λ v. entry_by v e.event) (sym same)

      ap₂' : {x y : Entry} {xs ys : List Entry} → x ≡ y → xs ≡ ys → x ∷ xs ≡ y ∷ ys
      ap₂' p q = λ i. p i ∷ q i

-- what some of the entries register, all of them do
pub some_among : (p : Entry → Bool) (es : List Entry) (key : ℕ) → is_some (desc_in (filter p es) key) ≡ true → is_some (desc_in es key) ≡ true
some_among p [] key h = h
some_among p (e ∷ es) key h =
    is_some-option_or (registered key e) (desc_in es key)
    ∙ elim (is_some (registered key e)) as (λ b. is_some (registered key e) ≡ b → (b || is_some (desc_in es key)) ≡ true) [
      | true ↦ λ _. refl
      | false ↦ λ none. some_among p es key
          (elim (p e) as (λ b. is_some (desc_in (if b then e ∷ filter p es else filter p es) key) ≡ true → is_some (desc_in (filter p es) key) ≡ true) [
            | true ↦ λ k. sym (is_some-option_or (registered key e) (desc_in (filter p es) key) ∙ ap (λ b. b || is_some (desc_in (filter p es) key)) none) ∙ k
            | false ↦ λ k. k
          ] h)
    ] refl

-- how many descriptors a worker registers among its own entries, and among all
pub registers_among : (w : ℕ) (es : List Entry) → count_by (registers w) (filter (λ e. e.worker == w) es) ≡ count_by (registers w) es
registers_among w [] = refl
registers_among w (e ∷ es) =
    elim (e.worker == w) as (λ b. e.worker == w ≡ b → count_by (registers w) (if b then e ∷ filter (λ x. x.worker == w) es else filter (λ x. x.worker == w) es) ≡ count_by (registers w) (e ∷ es)) [
      | true ↦ λ is. sum_by-cons (weighs w) e (filter (λ x. x.worker == w) es) ∙ ap (λ n. weighs w e + n) (registers_among w es) ∙ sym (sum_by-cons (weighs w) e es)
      | false ↦ λ is. registers_among w es ∙ sym (sum_by-cons (weighs w) e es ∙ ap (λ n. n + count_by (registers w) es) (none w e is) ∙ zero_plus (count_by (registers w) es))
    ] refl where
      weighs : ℕ → Entry → ℕ
      weighs w e = if registers w e then 1 else 0

      and_false : (b : Bool) → (b && false) ≡ false
      and_false true = refl
      and_false false = refl

      none : (w : ℕ) (e : Entry) → (e.worker == w) ≡ false → cond {A = ℕ} (registers w e) 1 0 ≡ 0
      none w e is = ap (λ (b : Bool). cond {A = ℕ} b 1 0) (ap (λ b. of_kind Dynamic e && b) is ∙ and_false (of_kind Dynamic e))

      zero_plus : (k : ℕ) → 0 + k ≡ k
      zero_plus k = omega arith
