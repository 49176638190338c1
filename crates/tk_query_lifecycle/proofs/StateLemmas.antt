-- The least key that runs.
use Rattle.std.proofs.Common.{◌≡◌, ℕ, ◌+◌, ◌*◌, ◌-◌, ◌<◌, ◌≤◌, Bool, true, false, List, length, get_or, Some, None, ap, ◌∙◌, subst, arith, ⊎_elim, ◌⊎◌, inl, inr}
use Rattle.std.proofs.lemmas.List.{get_or_default, get_or_past}
use Rattle.tk_query_lifecycle.specs.steps.KeyStates.{by_key, idle, is_running, state_of, IsFirstRunning}
use Rattle.tk_query_lifecycle.specs.declared.key_states.KeyState.{KeyState}
use Rattle.tk_query_lifecycle.proofs.RowLemmas.{length-by_key, read_at}

-- no key below the limit runs
pub record NoneRuns (states : List KeyState) (limit : ℕ) : Type 0 where
  pub below : (lower : ℕ) → lower < limit → is_running (state_of states lower).phase ≡ false

cases_lt : (a b : ℕ) → (a < b) ⊎ (b ≤ a)
cases_lt a b = grind arith

pub none_first : (states : List KeyState) → NoneRuns states 0
none_first states = record { below = λ lower lt. absurd (omega (arith, lt)) }

read_here : (states : List KeyState) (key : ℕ) (d : KeyState) (b : Bool) → key < length states → is_running (get_or states key d).phase ≡ b → is_running (state_of states key).phase ≡ b
read_here states key d b within is = ap (λ (x : KeyState). is_running x.phase) (get_or_default states key idle d within) ∙ is

pub none_more : (states : List KeyState) (key : ℕ) (d : KeyState) → NoneRuns states key → key < length states → is_running (get_or states key d).phase ≡ false → NoneRuns states (key + 1)
none_more states key d none within at_rest = record {
  below = λ lower lt. ⊎_elim {C = is_running (state_of states lower).phase ≡ false}
      (λ (before : lower < key). none.below lower before)
      (λ (here : lower ≡ key). ap (λ k. is_running (state_of states k).phase) here ∙ read_here states key d false within at_rest)
      (below_or_at lower key lt);
}
  where
    below_or_at : (a b : ℕ) → a < b + 1 → (a < b) ⊎ (a ≡ b)
    below_or_at a b lt = grind (arith, lt)

pub first_here : (states view : List KeyState) (key : ℕ) (d : KeyState) → states ≡ view → NoneRuns states key → key < length states → is_running (get_or states key d).phase ≡ true → IsFirstRunning view (Some key)
first_here states view key d same none within running = subst (λ l. IsFirstRunning l (Some key)) same
    (read_here states key d true within running, none.below)

pub none_at_all : (states view : List KeyState) (key : ℕ) → states ≡ view → NoneRuns states key → length states ≤ key → IsFirstRunning view None
none_at_all states view key same none past = subst (λ l. IsFirstRunning l None) same (λ k. by k (cases_lt k key))
  where
    by : (k : ℕ) → (k < key) ⊎ (key ≤ k) → is_running (state_of states k).phase ≡ false
    by k (inl lt) = none.below k lt
    by k (inr le) = ap (λ (x : KeyState). is_running x.phase) (get_or_past states k idle (omega (arith, past, le)))

-- a row in which no key runs
pub none_in_row : (rows : List (List KeyState)) (n : ℕ) (d : List KeyState) → NoneRuns (by_key rows) (65536 * n) → n < length rows → IsFirstRunning (get_or rows n d) None → NoneRuns (by_key rows) (65536 * (n + 1))
none_in_row rows n d none within rest = record {
  below = λ lower lt. ⊎_elim {C = is_running (state_of (by_key rows) lower).phase ≡ false}
      (λ (before : lower < 65536 * n). none.below lower before)
      (λ (here : 65536 * n ≤ lower).
      let at : lower ≡ 65536 * n + (lower - 65536 * n) = omega (arith, here) in
      ap (λ k. is_running (state_of (by_key rows) k).phase) at
      ∙ ap (λ (s : KeyState). is_running s.phase) (read_at rows n (lower - 65536 * n) d within (omega (arith, here, lt)))
      ∙ rest (lower - 65536 * n))
      (cases_lt lower (65536 * n));
}

-- the first row in which a key runs
pub first_in_row : (rows : List (List KeyState)) (view : List KeyState) (n index key : ℕ) (d : List KeyState) → by_key rows ≡ view → NoneRuns (by_key rows) (65536 * n) → n < length rows
    → IsFirstRunning (get_or rows n d) (Some index) → index < 65536 → key ≡ 65536 * n + index → IsFirstRunning view (Some key)
first_in_row rows view n index key d same none within first short is = subst (λ l. IsFirstRunning l (Some key)) same (
  ap (λ k. is_running (state_of (by_key rows) k).phase) is ∙ ap (λ (s : KeyState). is_running s.phase) (read_at rows n index d within short) ∙ first.0,
  λ lower lt. ⊎_elim {C = is_running (state_of (by_key rows) lower).phase ≡ false}
      (λ (before : lower < 65536 * n). none.below lower before)
      (λ (here : 65536 * n ≤ lower).
      let at : lower ≡ 65536 * n + (lower - 65536 * n) = omega (arith, here) in
      ap (λ k. is_running (state_of (by_key rows) k).phase) at
      ∙ ap (λ (s : KeyState). is_running s.phase) (read_at rows n (lower - 65536 * n) d within (omega (arith, here, lt, is, short)))
      ∙ first.1 (lower - 65536 * n) (omega (arith, here, lt, is)))
      (cases_lt lower (65536 * n)),
)

pub none_in_rows : (rows : List (List KeyState)) (view : List KeyState) (n : ℕ) → by_key rows ≡ view → NoneRuns (by_key rows) (65536 * n) → length rows ≤ n → IsFirstRunning view None
none_in_rows rows view n same none past = let long = length-by_key rows in none_at_all (by_key rows) view (65536 * n) same none (omega (arith, long, past))
