-- The first event for each condition.
use Rattle.std.proofs.Common.{◌≡◌, ℕ, ◌≤◌, true, List, [], ◌∷◌, ◌++◌, length, drop, Some, sym, ap, ◌∙◌, subst}
use Rattle.std.specs.List.{slice_get}
use Rattle.std.proofs.lemmas.List.{append-nil}
use Rattle.std.proofs.lemmas.Option.{same_Some}
use Rattle.tk_record.specs.Recorded.{Recorded}
use Rattle.tk_record.specs.Selections.{Selected}
use Rattle.tk_query_conditions.specs.CondOf.{cond_of}
use Rattle.tk_query_conditions.specs.declared.conditions.Condition.{Condition}
use Rattle.tk_query.specs.Asked.{fits}
use Rattle.tk_query.specs.Matches.{HoldsSomewhere}
use Rattle.tk_query.specs.declared.answers.Loose.TheVariants.{No}
use Rattle.tk_query_nearest.specs.Nearness.{IsNearest}
use Rattle.tk_explanations.specs.MatchRows.{condition_row, near_rows}
use Rattle.tk_explanations.specs.steps.{AddsRows}
use Rattle.tk_explanations.specs.Matches.{AreFirstFits, AreLooseRows}
use Rattle.tk_explanations.specs.declared.rows.Row.{Row}
use Rattle.tk_explanations.proofs.RowLemmas.{dropped_all, row_and_more}

pub somewhere : (asked : Selected) (cs : List Condition) (k : ℕ) (c : Condition) → slice_get cs k ≡ Some c → HoldsSomewhere asked cs k → (p : ℕ) × (fits asked c p ≡ true)
somewhere asked cs k c has h = (h.1, ap (λ (d : Condition). fits asked d h.1) (same_Some c h.0 (sym has ∙ h.2)) ∙ h.3)

-- up to a condition the first events are found: those of the others complete them
abbrev pub AreFoundFirst : Selected → List Condition → ℕ → List ℕ → Type 0
AreFoundFirst asked cs k found = (rest : List ℕ) → AreFirstFits asked (drop k cs) rest → AreFirstFits asked cs (found ++ rest)

pub first_all : (asked : Selected) (cs : List Condition) (k : ℕ) (found : List ℕ) → length cs ≤ k → AreFoundFirst asked cs k found → AreFirstFits asked cs found
first_all asked cs k found le so_far =
    subst (AreFirstFits asked cs) (append-nil found)
    (so_far [] (subst (λ (ds : List Condition). AreFirstFits asked ds []) (sym (dropped_all cs k le)) tt))

-- the rows that are added where a condition holds of no event
pub missing_added : (asked : Selected) (cs : List Condition) (k : ℕ) (c : Condition) (near : List ℕ) (r : Recorded) (old first second : List Row) → slice_get cs k ≡ Some c → IsNearest asked 0 (cond_of c) near → r ≡ asked.recorded
    → first ≡ old ++ condition_row k c ∷ [] → second ≡ first ++ near_rows r c near → AddsRows (AreLooseRows asked cs (No k)) old second
missing_added asked cs k c near r old first second has nearest same one two = (
  condition_row k c ∷ near_rows r c near,
  (c, has, near, nearest, ap (λ (s : Recorded). condition_row k c ∷ near_rows s c near) same),
  row_and_more old first second (near_rows r c near) (condition_row k c) one two,
)
