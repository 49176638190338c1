-- The first and the last event that passes, while the entries of a record are gone over.
use Rattle.std.proofs.Common.{◌≡◌, ◌+◌, ◌-◌, ◌≤◌, ℕ, zero, suc, Bool, true, false, cond, ◌||◌, List, [], ◌∷◌, take, refl, sym, ap, ◌∙◌, arith}
use Rattle.std.specs.Prelude.{Option, Some, None}
use Rattle.std.specs.Option.{option_or}
use Rattle.tk_base.proofs.Options.{option_or-none}
use Rattle.tk_base.proofs.Truth.{or-false}
use Rattle.tk_events.specs.declared.kinds.Kind.{Kind}
use Rattle.tk_events.specs.declared.events.Entry.{Entry}
use Rattle.tk_query_lifecycle.specs.Lifecycle.{has_event, is_event}
use Rattle.tk_explanations.specs.EventSearches.{event_at, first_from, last_from}
use Rattle.tk_explanations.specs.declared.sentences.EventAt.{EventAt}

none_left : (k : ℕ) (es : List Entry) → es ≡ [] → take k es ≡ []
none_left zero es is = ap (take zero) is
none_left (suc k) es is = ap (take (suc k)) is

whole : (n : ℕ) → n - 0 ≡ n
whole n = omega arith

-- no event passed among the entries that are gone over
pub record IsSearched (passes : Entry → Bool) (before n : ℕ) (es left : List Entry) : Type 0 where
  pub same : first_from passes 0 (take before es) ≡ first_from passes n (take (before - n) left)
  pub within : n ≤ before

module _ (passes : Entry → Bool) where
  -- before the first entry
  pub searched_none : (before : ℕ) (es left : List Entry) → left ≡ es → IsSearched passes before 0 es left
  searched_none before es left is = record {
    same = ap (λ l. first_from passes 0 (take before l)) (sym is) ∙ ap (λ k. first_from passes 0 (take k left)) (sym (whole before));
    within = omega arith;
  }

  next_first : (k m n : ℕ) (e : Entry) (rest : List Entry) (b : Bool) → k ≡ suc m → passes e ≡ b
      → first_from passes n (take k (e ∷ rest)) ≡ cond b (Some (event_at n e)) (first_from passes (n + 1) (take m rest))
  unfolding first_from
  next_first k m n e rest b is passed =
      ap (λ i. first_from passes n (take i (e ∷ rest))) is
      ∙ ap (λ c. cond c (Some (event_at n e)) (first_from passes (n + 1) (take m rest))) passed

  -- an entry more that doesn't pass
  pub searched_more : (before n : ℕ) (es left rest : List Entry) (e : Entry) → IsSearched passes before n es left → left ≡ e ∷ rest → (n ≡ before → ⊥) → passes e ≡ false
      → IsSearched passes before (n + 1) es rest
  searched_more before n es left rest e h at go fails =
      let within = h.within in
      let less : before - n ≡ suc (before - (n + 1)) = omega (arith, within, go) in
      record {
        same = h.same ∙ ap (λ l. first_from passes n (take (before - n) l)) at ∙ next_first (before - n) (before - (n + 1)) n e rest false less fails;
        within = omega (arith, within, go);
      }

  -- the entry passes
  pub searched_here : (before n : ℕ) (es left rest : List Entry) (e : Entry) → IsSearched passes before n es left → left ≡ e ∷ rest → (n ≡ before → ⊥) → passes e ≡ true
      → Some (event_at n e) ≡ first_from passes 0 (take before es)
  searched_here before n es left rest e h at go holds =
      let within = h.within in
      let less : before - n ≡ suc (before - (n + 1)) = omega (arith, within, go) in
      sym (h.same ∙ ap (λ l. first_from passes n (take (before - n) l)) at ∙ next_first (before - n) (before - (n + 1)) n e rest true less holds)

  -- no entry before the position is left
  pub searched_before : (before n : ℕ) (es left : List Entry) → IsSearched passes before n es left → n ≡ before → None ≡ first_from passes 0 (take before es)
  unfolding first_from
  searched_before before n es left h is =
      let none : before - n ≡ 0 = omega (arith, is) in
      sym (h.same ∙ ap (λ k. first_from passes n (take k left)) none)

  -- no entry is left
  pub searched_all : (before n : ℕ) (es left : List Entry) → IsSearched passes before n es left → left ≡ [] → None ≡ first_from passes 0 (take before es)
  unfolding first_from
  searched_all before n es left h is =
      sym (h.same ∙ ap (first_from passes n) (none_left (before - n) left is))

-- the last event that passed among the entries that are gone over
pub record IsSearchedFor (passes : Entry → Bool) (before n : ℕ) (es left : List Entry) (found : Option EventAt) : Type 0 where
  pub same : last_from passes 0 (take before es) ≡ option_or (last_from passes n (take (before - n) left)) found
  pub within : n ≤ before

or_later : {X : Type 0} (o : Option X) (b : Bool) (x : X) (found : Option X) → option_or (option_or o (cond b (Some x) None)) found ≡ option_or o (cond b (Some x) found)
or_later None true x found = refl
or_later None false x found = refl
or_later (Some y) true x found = refl
or_later (Some y) false x found = refl

module _ (passes : Entry → Bool) where
  pub sought_none : (before : ℕ) (es left : List Entry) → left ≡ es → IsSearchedFor passes before 0 es left None
  sought_none before es left is = record {
    same = ap (λ l. last_from passes 0 (take before l)) (sym is) ∙ ap (λ k. last_from passes 0 (take k left)) (sym (whole before)) ∙ sym (option_or-none (last_from passes 0 (take (before - 0) left)));
    within = omega arith;
  }

  next_last : (k m n : ℕ) (e : Entry) (rest : List Entry) (found : Option EventAt) → k ≡ suc m
      → option_or (last_from passes n (take k (e ∷ rest))) found ≡ option_or (last_from passes (n + 1) (take m rest)) (cond (passes e) (Some (event_at n e)) found)
  unfolding last_from
  next_last k m n e rest found is =
      ap (λ i. option_or (last_from passes n (take i (e ∷ rest))) found) is
      ∙ or_later (last_from passes (n + 1) (take m rest)) (passes e) (event_at n e) found

  -- an entry more, which is found where it passes
  pub sought_more : (before n : ℕ) (es left rest : List Entry) (e : Entry) (found next : Option EventAt) → IsSearchedFor passes before n es left found → left ≡ e ∷ rest → (n ≡ before → ⊥)
      → next ≡ cond (passes e) (Some (event_at n e)) found → IsSearchedFor passes before (n + 1) es rest next
  sought_more before n es left rest e found next h at go is =
      let within = h.within in
      let less : before - n ≡ suc (before - (n + 1)) = omega (arith, within, go) in
      record {
        same = h.same ∙ ap (λ l. option_or (last_from passes n (take (before - n) l)) found) at ∙ next_last (before - n) (before - (n + 1)) n e rest found less
            ∙ ap (option_or (last_from passes (n + 1) (take (before - (n + 1)) rest))) (sym is);
        within = omega (arith, within, go);
      }

  pub sought_before : (before n : ℕ) (es left : List Entry) (found : Option EventAt) → IsSearchedFor passes before n es left found → n ≡ before → found ≡ last_from passes 0 (take before es)
  unfolding last_from
  sought_before before n es left found h is =
      let none : before - n ≡ 0 = omega (arith, is) in
      sym (h.same ∙ ap (λ k. option_or (last_from passes n (take k left)) found) none)

  pub sought_all : (before n : ℕ) (es left : List Entry) (found : Option EventAt) → IsSearchedFor passes before n es left found → left ≡ [] → found ≡ last_from passes 0 (take before es)
  unfolding last_from
  sought_all before n es left found h is =
      sym (h.same ∙ ap (λ l. option_or (last_from passes n l) found) (none_left (before - n) left is))

-- the set has the keys of the events of a kind among the entries that are gone over
pub record AreKeysOf (kind : Kind) (before n : ℕ) (es left : List Entry) (has : ℕ → Bool) : Type 0 where
  pub same : (key : ℕ) → has_event kind key (take before es) ≡ (has_event kind key (take (before - n) left) || has key)
  pub within : n ≤ before

or_moved : (a b c : Bool) → ((a || b) || c) ≡ (b || (a || c))
or_moved true true c = refl
or_moved true false c = refl
or_moved false true c = refl
or_moved false false c = refl

module _ (kind : Kind) where
  pub keys_none : (before : ℕ) (es left : List Entry) (has : ℕ → Bool) → left ≡ es → ((key : ℕ) → has key ≡ false) → AreKeysOf kind before 0 es left has
  keys_none before es left has is none = record {
    same = λ key. ap (λ l. has_event kind key (take before l)) (sym is) ∙ ap (λ k. has_event kind key (take k left)) (sym (whole before))
        ∙ sym (or-false (has_event kind key (take (before - 0) left))) ∙ ap (λ b. has_event kind key (take (before - 0) left) || b) (sym (none key));
    within = omega arith;
  }

  pub keys_more : (before n : ℕ) (es left rest : List Entry) (e : Entry) (has next : ℕ → Bool) → AreKeysOf kind before n es left has → left ≡ e ∷ rest → (n ≡ before → ⊥)
      → ((key : ℕ) → next key ≡ (is_event kind key e || has key)) → AreKeysOf kind before (n + 1) es rest next
  keys_more before n es left rest e has next h at go is =
      let within = h.within in
      let less : before - n ≡ suc (before - (n + 1)) = omega (arith, within, go) in
      record {
        same = λ key. h.same key ∙ ap (λ l. has_event kind key (take (before - n) l) || has key) at
            ∙ ap (λ k. has_event kind key (take k (e ∷ rest)) || has key) less
            ∙ or_moved (is_event kind key e) (has_event kind key (take (before - (n + 1)) rest)) (has key)
            ∙ ap (λ b. has_event kind key (take (before - (n + 1)) rest) || b) (sym (is key));
        within = omega (arith, within, go);
      }

  pub keys_before : (before n : ℕ) (es left : List Entry) (has : ℕ → Bool) → AreKeysOf kind before n es left has → n ≡ before → (key : ℕ) → has key ≡ has_event kind key (take before es)
  keys_before before n es left has h is key =
      let none : before - n ≡ 0 = omega (arith, is) in
      sym (h.same key ∙ ap (λ k. has_event kind key (take k left) || has key) none)

  pub keys_all : (before n : ℕ) (es left : List Entry) (has : ℕ → Bool) → AreKeysOf kind before n es left has → left ≡ [] → (key : ℕ) → has key ≡ has_event kind key (take before es)
  keys_all before n es left has h is key =
      sym (h.same key ∙ ap (λ l. has_event kind key l || has key) (none_left (before - n) left is))
