-- The explanations of matches.
use Rattle.std.specs.Prelude.{◌≡◌, ℕ, ◌+◌, Bool, true, if◌then◌else◌, List, [], ◌∷◌, ◌++◌, length}
use Rattle.std.specs.Prelude.{take, Option, Some, None, slice_get}
use Rattle.std.specs.List.{last_or}
use Rattle.tk_record.specs.Recorded.{Recorded}
use Rattle.tk_record.specs.Selections.{PositionedEntry, Selected, positions_of}
use Rattle.tk_query_conditions.specs.CondOf.{cond_of}
use Rattle.tk_query_conditions.specs.declared.conditions.Condition.{Condition}
use Rattle.tk_query.specs.AnswerTexts.{exact_text, exact_yes, in_order_text, in_order_yes}
use Rattle.tk_query.specs.AnswerTexts.{loose_text, loose_yes}
use Rattle.tk_query.specs.Asked.{fits}
use Rattle.tk_query.specs.Holds.{holds}
use Rattle.tk_query.specs.InOrder.{HasNoFit, IsLeastInTurn, IsNextFit}
use Rattle.tk_query.specs.Matches.{IsExact, IsInOrder, IsLoose}
use Rattle.tk_query.specs.declared.answers.Exact.{Exact}
use Rattle.tk_query.specs.declared.answers.Exact.TheVariants as exact
use Rattle.tk_query.specs.declared.answers.InOrder.{InOrder}
use Rattle.tk_query.specs.declared.answers.InOrder.TheVariants as in_order
use Rattle.tk_query.specs.declared.answers.Loose.{Loose}
use Rattle.tk_query.specs.declared.answers.Loose.TheVariants as loose
use Rattle.tk_query_nearest.specs.Nearness.{IsNearest}
use Rattle.tk_explanations.specs.MatchRows.{condition_row, found_rows, lacking_row, near_rows}
use Rattle.tk_explanations.specs.Rows.{AsText}
use Rattle.tk_explanations.specs.declared.rows.Note.TheVariants.{Nothing, NotAfter}
use Rattle.tk_explanations.specs.declared.rows.Row.{Row}
use Rattle.tk_explanations.specs.declared.rows.Row.TheVariants.{Line, Event, NoneLeft, Counts}

-- ---- exactly

-- The first of the conditions, counted from number k on, that doesn't hold of the event in its
-- place, and this event with what lacks. If all hold: the first event or condition left over.
abbrev pub unlike_rows : Recorded → ℕ → List Condition → List PositionedEntry → List Row
unlike_rows r k (c ∷ cs) (x ∷ xs) =
    if holds r c x.entry then unlike_rows r (k + 1) cs xs
    else condition_row k c ∷ lacking_row r c x.position ∷ []
unlike_rows r k [] (x ∷ xs) = Event x.position Nothing ∷ []
unlike_rows r k (c ∷ cs) [] = condition_row k c ∷ NoneLeft ∷ []
unlike_rows r k [] [] = []

-- What is said below the answer of the exact matcher. At `No k` the first condition that doesn't
-- hold of its event is the k-th.
abbrev pub exact_rows : Selected → List Condition → Exact → List Row
exact_rows asked cs exact.Yes = found_rows 0 cs (positions_of asked)
exact_rows asked cs exact.WrongCount =
    Counts (length cs) (length asked.kept) ∷ unlike_rows asked.recorded 0 cs asked.kept
exact_rows asked cs (exact.No k) = unlike_rows asked.recorded 0 cs asked.kept

-- the answer, and what is said below it
abbrev pub IsExactExplanation : Selected → List Condition → Bool → List Row → Type 0
IsExactExplanation asked cs is_yes rows =
    (answer : Exact) × IsExact asked cs answer × (is_yes ≡ exact_yes answer)
    × (rows ≡ Line (exact_text answer) ∷ exact_rows asked cs answer)

-- the explanation as text
abbrev pub ExplainsExactly : Selected → List Condition → Bool → List ℕ → Type 0
ExplainsExactly asked cs = AsText (IsExactExplanation asked cs) asked.recorded

-- ---- loosely

-- each position is that of the first event of which its condition holds
abbrev pub AreFirstFits : Selected → List Condition → List ℕ → Type 0
AreFirstFits asked [] [] = Unit {0}
AreFirstFits asked (c ∷ cs) (p ∷ ps) =
    IsNextFit (fits asked) c 0 p × AreFirstFits asked cs ps
AreFirstFits asked _ _ = ⊥

-- what is said below the answer of the loose matcher
abbrev pub AreLooseRows : Selected → List Condition → Loose → List Row → Type 0
AreLooseRows asked cs loose.Yes rows =
    (found : List ℕ) × AreFirstFits asked cs found × (rows ≡ found_rows 0 cs found)
AreLooseRows asked cs (loose.No k) rows =
    (c : Condition) × (slice_get cs k ≡ Some c)
    × (near : List ℕ) × IsNearest asked 0 (cond_of c) near
    × (rows ≡ condition_row k c ∷ near_rows asked.recorded c near)

-- the answer, and what is said below it
abbrev pub IsLooseExplanation : Selected → List Condition → Bool → List Row → Type 0
IsLooseExplanation asked cs is_yes rows =
    (answer : Loose) × IsLoose asked cs answer × (is_yes ≡ loose_yes answer)
    × (below : List Row) × AreLooseRows asked cs answer below
    × (rows ≡ Line (loose_text answer) ∷ below)

-- the explanation as text
abbrev pub ExplainsLoosely : Selected → List Condition → Bool → List ℕ → Type 0
ExplainsLoosely asked cs = AsText (IsLooseExplanation asked cs) asked.recorded

-- ---- in order

-- the last position at which an event asked stands of which the condition holds, if there is one
abbrev pub IsLastFit : Selected → Condition → Option ℕ → Type 0
IsLastFit asked c None = HasNoFit (fits asked) c 0
IsLastFit asked c (Some p) = (fits asked c p ≡ true) × HasNoFit (fits asked) c (p + 1)

-- the last of some positions, if there is one
abbrev pub last_of : List ℕ → Option ℕ
last_of positions = last_or None positions

-- the position after another one, or 0
abbrev pub after : Option ℕ → ℕ
after None = 0
after (Some p) = p + 1

-- the row of an event of which a condition holds, but which isn't after the last event found
abbrev pub early_rows : Option ℕ → Option ℕ → List Row
early_rows (Some found) (Some p) = Event p (NotAfter found) ∷ []
early_rows _ _ = []

-- The conditions before the k-th one with the events found for them; condition k; the last event
-- of which it holds, which isn't after the last one found; and the nearest events after that.
pub record AreStuckRows (asked : Selected) (cs : List Condition) (k : ℕ) (rows : List Row) :
    Type 0 where
  pub condition : Condition
  pub condition_is : slice_get cs k ≡ Some condition
  pub found : List ℕ
  pub found_in_turn : IsLeastInTurn (fits asked) (take k cs) found
  pub early : Option ℕ
  pub early_is_last : IsLastFit asked condition early
  pub near : List ℕ
  pub near_are : IsNearest asked (after (last_of found)) (cond_of condition) near
  pub rows_are :
      rows
      ≡ found_rows 0 cs found ++ condition_row k condition ∷ early_rows (last_of found) early
      ++ near_rows asked.recorded condition near

-- what is said below the answer of the matcher in order
abbrev pub AreInOrderRows : Selected → List Condition → InOrder → List Row → Type 0
AreInOrderRows asked cs (in_order.Yes positions) rows = rows ≡ found_rows 0 cs positions.items
AreInOrderRows asked cs (in_order.No k) rows = AreStuckRows asked cs k rows

-- the answer, and what is said below it
abbrev pub IsInOrderExplanation : Selected → List Condition → Bool → List Row → Type 0
IsInOrderExplanation asked cs is_yes rows =
    (answer : InOrder) × IsInOrder asked cs answer × (is_yes ≡ in_order_yes answer)
    × (below : List Row) × AreInOrderRows asked cs answer below
    × (rows ≡ Line (in_order_text answer) ∷ below)

-- the explanation as text
abbrev pub ExplainsInOrder : Selected → List Condition → Bool → List ℕ → Type 0
ExplainsInOrder asked cs = AsText (IsInOrderExplanation asked cs) asked.recorded
