-- Where conditions hold in turn no further.
use Rattle.std.proofs.Common.{◌≡◌, ℕ, zero, suc, ◌+◌, ◌<◌, ◌≤◌, Bool, true, false, List, [], ◌∷◌, length, take, add-one, ◌++◌, Some, None, MatchOption, Option, sym, ap, ap₂, ◌∙◌, subst, arith, ⊎_elim}
use Rattle.std.specs.List.{slice_get, last_or}
use Rattle.std.specs.Option.{ForSome}
use Rattle.std.proofs.lemmas.Bool.{cases_lt, true≢false}
use Rattle.std.proofs.lemmas.List.{append_assoc, get_or_past}
use Rattle.std.proofs.lemmas.Option.{none-some, same_Some}
use Rattle.tk_record.specs.Recorded.{Recorded}
use Rattle.tk_record.specs.Selections.{Selected}
use Rattle.tk_query_conditions.specs.declared.conditions.Condition.{Condition}
use Rattle.tk_query.specs.Asked.{fits}
use Rattle.tk_query.specs.InOrder.{CanHoldInTurn, HoldInTurn, IsFirstStuck, IsLeastInTurn}
use Rattle.tk_query.proofs.AskedLemmas.{AreFlags, fits_clear}
use Rattle.tk_query_nearest.specs.Nearness.{IsNearest}
use Rattle.tk_query_conditions.specs.CondOf.{cond_of}
use Rattle.tk_explanations.specs.MatchRows.{condition_row, found_rows, near_rows}
use Rattle.tk_explanations.specs.steps.{AddsRows}
use Rattle.tk_explanations.specs.Matches.{AreStuckRows, IsLastFit, after, early_rows, last_of}
use Rattle.tk_explanations.specs.declared.rows.Row.{Row}
use Rattle.tk_explanations.proofs.RowLemmas.{row_and_more}

module _ {C : Type 0} (fits : C → ℕ → Bool) where
  hold_prefix : (from n : ℕ) (cs : List C) (ps : List ℕ) → HoldInTurn fits from cs ps → HoldInTurn fits from (take n cs) (take n ps)
  hold_prefix from zero cs ps h = tt
  hold_prefix from (suc n) [] [] h = tt
  hold_prefix from (suc n) [] (p ∷ ps) h = absurd h
  hold_prefix from (suc n) (c ∷ cs) [] h = absurd h
  hold_prefix from (suc n) (c ∷ cs) (p ∷ ps) h = (h.0, h.1, hold_prefix (p + 1) n cs ps h.2)

  -- conditions that can hold in turn are never stuck
  pub not_stuck : (cs : List C) (k : ℕ) → CanHoldInTurn fits cs → IsFirstStuck fits cs k → ⊥
  not_stuck cs k can stuck = stuck.stuck (take (k + 1) can.0, hold_prefix 0 (k + 1) cs can.0 can.1)

  -- the conditions before the one that is stuck can
  pub before_stuck : (cs : List C) (k : ℕ) → IsFirstStuck fits cs k → CanHoldInTurn fits (take k cs)
  before_stuck cs zero stuck = ([], tt)
  before_stuck cs (suc j) stuck = subst (λ (n : ℕ). CanHoldInTurn fits (take n cs)) (add-one j) (stuck.before j (omega arith))

-- an event of which a condition holds stands within the record
pub fit_within : (asked : Selected) (flags : List Bool) → AreFlags asked flags → length flags ≡ length asked.recorded.entries → (c : Condition) (p : ℕ) → fits asked c p ≡ true → p < length asked.recorded.entries
fit_within asked flags are size c p fit = ⊎_elim {C = p < length asked.recorded.entries}
    (λ (lt : p < length flags). omega arith)
    (λ (le : length flags ≤ p). absurd (true≢false (sym fit ∙ fits_clear asked flags are c p (get_or_past flags p false le))))
    (cases_lt p (length flags))

-- an event asked stands at this position of which some condition holds
abbrev pub FitsSome : Selected → ℕ → Type 0
FitsSome asked p = (c : Condition) × (fits asked c p ≡ true)

-- at the last of the positions at which conditions hold in turn such an event stands
last_from : (asked : Selected) (from : ℕ) (cs : List Condition) (ps : List ℕ) (o : Option ℕ) → HoldInTurn (fits asked) from cs ps → ForSome o (FitsSome asked) → ForSome (last_or o ps) (FitsSome asked)
last_from asked from [] [] o h has = has
last_from asked from [] (p ∷ ps) o h has = absurd h
last_from asked from (c ∷ cs) [] o h has = absurd h
last_from asked from (c ∷ cs) (p ∷ ps) o h has = last_from asked (p + 1) cs ps (Some p) h.2 (λ q e. (c, ap (fits asked c) (sym (same_Some p q e)) ∙ h.1))

pub last_fits : (asked : Selected) (cs : List Condition) (ps : List ℕ) (o : Option ℕ) → IsLeastInTurn (fits asked) cs ps → o ≡ last_of ps → ForSome o (FitsSome asked)
last_fits asked cs ps o turn is = subst (λ (u : Option ℕ). ForSome u (FitsSome asked)) (sym is) (last_from asked 0 cs ps None turn.holds (λ q e. absurd (none-some q e)))

-- the last event so far of which a condition holds: the search goes on after it
pub record IsLastSoFar (asked : Selected) (c : Condition) (low : ℕ) (last : Option ℕ) : Type 0 where
  pub next : low ≡ after last
  pub fit : MatchOption last (Unit {0}) (λ p. fits asked c p ≡ true)

-- the rows that are added where conditions are stuck
pub stuck_added :
    (asked : Selected) (cs : List Condition) (k : ℕ) (c : Condition) (found near : List ℕ) (last early : Option ℕ) (from : ℕ) (r : Recorded) (old one two three four : List Row)
    → slice_get cs k ≡ Some c → IsLeastInTurn (fits asked) (take k cs) found → last ≡ last_of found → from ≡ after last → IsLastFit asked c early → IsNearest asked from (cond_of c) near → r ≡ asked.recorded
    → one ≡ old ++ found_rows 0 cs found → two ≡ one ++ condition_row k c ∷ [] → three ≡ two ++ early_rows last early → four ≡ three ++ near_rows r c near → AddsRows (AreStuckRows asked cs k) old four
stuck_added asked cs k c found near last early from r old one two three four has turn is next late nearest same a b d e =
    let below = found_rows 0 cs found ++ condition_row k c ∷ early_rows last early ++ near_rows r c near in (
      below,
      record {
        condition = c;
        condition_is = has;
        found = found;
        found_in_turn = turn;
        early = early;
        early_is_last = late;
        near = near;
        near_are = subst (λ (n : ℕ). IsNearest asked n (cond_of c) near) (next ∙ ap after is) nearest;
        rows_are = ap₂ (λ (o : Option ℕ) (s : Recorded). found_rows 0 cs found ++ condition_row k c ∷ early_rows o early ++ near_rows s c near) is same;
      },
      e
          ∙ ap (λ (l : List Row). l ++ near_rows r c near)
          (row_and_more one two three (early_rows last early) (condition_row k c) b d
          ∙ ap (λ (l : List Row). l ++ condition_row k c ∷ early_rows last early) a
          ∙ append_assoc old (found_rows 0 cs found) (condition_row k c ∷ early_rows last early))
          ∙ append_assoc old (found_rows 0 cs found ++ condition_row k c ∷ early_rows last early) (near_rows r c near),
    )
