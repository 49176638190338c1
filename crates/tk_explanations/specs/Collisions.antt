-- The explanation of whether executions that conflict kept away from each other.
use Rattle.std.specs.Prelude.{◌≡◌, ℕ, Bool, true, false, if◌then◌else◌, List, [], ◌∷◌, ◌++◌}
use Rattle.std.specs.Prelude.{length, max, min, nat_lt}
use Rattle.tk_record.specs.Recorded.{Recorded}
use Rattle.tk_record.specs.Selections.{Selected, filtered_by, selects}
use Rattle.tk_record.specs.declared.selections.Selection.TheVariants as pick
use Rattle.tk_query_conditions.specs.Cond as cond
use Rattle.tk_query_conditions.specs.Cond.{Cond}
use Rattle.tk_query_conditions.specs.CondOf.{cond_of}
use Rattle.tk_query_conditions.specs.declared.conditions.Condition.{Condition}
use Rattle.tk_query.specs.AnswerTexts.{exclusive_text, exclusive_yes}
use Rattle.tk_query.specs.Ends.{EndsAt}
use Rattle.tk_query.specs.Exclusive.{IsExclusive, is_writer}
use Rattle.tk_query.specs.Holds.{holds}
use Rattle.tk_query.specs.declared.answers.Exclusive.{Exclusive}
use Rattle.tk_query.specs.declared.answers.Exclusive.TheVariants.{Yes, No, NoPair}
use Rattle.tk_explanations.specs.MatchRows.{condition_row}
use Rattle.tk_explanations.specs.Rows.{AsText}
use Rattle.tk_explanations.specs.declared.rows.Note.TheVariants.{Nothing}
use Rattle.tk_explanations.specs.declared.rows.Row.{Row}
use Rattle.tk_explanations.specs.declared.rows.Row.TheVariants.{Line, Event, Overlap, Executions}
use Rattle.tk_explanations.specs.declared.rows.Span.{Span}
use Rattle.tk_explanations.specs.declared.rows.Writers.{Writers}
use Rattle.tk_explanations.specs.declared.rows.Writers.TheVariants.{Unsaid, First, Second, Both}

-- an execution starts at this position, and ends where the span does
pub record StartsAt (asked : Selected) (start : ℕ) (x : Span) : Type 0 where
  pub start_is : x.start ≡ start
  pub ends : EndsAt asked start x.end

-- whether a condition of readers stands: any but `any()`, which holds of no event
abbrev pub names_some : Cond → Bool
names_some (cond.Any cond.Nothing) = false
names_some _ = true

-- of two executions that conflict, by whether each is a writer's
abbrev pub writers_among : Bool → Bool → Writers
writers_among true true = Both
writers_among true false = First
writers_among false _ = Second

-- Where readers stand, it is said which of the executions that start at p and at q are writers'.
abbrev pub writers_said : Selected → Condition → Condition → ℕ → ℕ → Writers
writers_said asked writers readers p q =
    if names_some (cond_of readers)
    then writers_among (is_writer asked writers readers p) (is_writer asked writers readers q)
    else Unsaid

-- the row of the finish at which an execution ends, where it finishes
abbrev pub finish_rows : Recorded → ℕ → List Row
finish_rows r n = if nat_lt n (length r.entries) then Event n Nothing ∷ [] else []

-- the row that two executions overlap, and the rows of their starts and finishes in order
abbrev pub overlap_rows : Recorded → Span → Span → Row → List Row
overlap_rows r x y overlap =
    overlap ∷ Event x.start Nothing ∷ Event y.start Nothing
    ∷ finish_rows r (min x.end y.end) ++ finish_rows r (max x.end y.end)

-- the starts of which the condition holds
abbrev pub held : Selected → Condition → Selected
held asked c =
    filtered_by (holds asked.recorded c)
    (filtered_by (selects pick.Started asked.recorded) asked)

-- the row of the condition of number k, and of how many executions it holds at the start
abbrev pub held_rows : Selected → ℕ → Condition → List Row
held_rows asked k c = condition_row k c ∷ Executions (length (held asked c).kept) ∷ []

-- the rows of the writers' condition, and those of the readers' where it stands
abbrev pub holder_rows : Selected → Condition → Condition → List Row
holder_rows asked writers readers =
    held_rows asked 0 writers
    ++ (if names_some (cond_of readers) then held_rows asked 1 readers else [])

module _ (asked : Selected) (writers readers : Condition) where
  -- What is said below the answer: of the executions that start at the two positions; or, where no
  -- two conflict, how many there are of each condition.
  abbrev pub AreCollisionRows : Exclusive → List Row → Type 0
  AreCollisionRows Yes rows = rows ≡ []
  AreCollisionRows (No p q) rows =
      (x : Span) × (y : Span) × StartsAt asked p x × StartsAt asked q y
      × (rows
      ≡ overlap_rows asked.recorded x y
      (Overlap x y (writers_said asked writers readers p q)))
  AreCollisionRows NoPair rows = rows ≡ holder_rows asked writers readers

  -- the answer, and what is said below it
  abbrev pub IsExclusiveExplanation : Bool → List Row → Type 0
  IsExclusiveExplanation is_yes rows =
      (answer : Exclusive) × IsExclusive asked writers readers answer
      × (is_yes ≡ exclusive_yes answer)
      × (below : List Row) × AreCollisionRows answer below
      × (rows ≡ Line (exclusive_text answer) ∷ below)

  -- the explanation as text
  abbrev pub ExplainsExclusive : Bool → List ℕ → Type 0
  ExplainsExclusive = AsText IsExclusiveExplanation asked.recorded
