-- The explanation of whether executions that conflict over a lock kept away from each other.
use Rattle.std.specs.Prelude.{◌≡◌, ℕ, Bool, false, not, ◌==◌, List, [], ◌∷◌, ◌++◌, length}
use Rattle.std.specs.Prelude.{Option, Some, None, codes, count_by, slice_get}
use Rattle.std.specs.Fmt.{decimal}
use Rattle.tk_ids.specs.declared.descriptors.Descriptor.{Descriptor}
use Rattle.tk_events.specs.declared.events.Entry.{Entry}
use Rattle.tk_record.specs.Entries.{desc}
use Rattle.tk_record.specs.Recorded.{Recorded}
use Rattle.tk_record.specs.Selections.{Selected, filtered_by, positions_of, selects}
use Rattle.tk_record.specs.declared.selections.Selection.TheVariants as pick
use Rattle.tk_query_locks.specs.AnswerTexts.{lock_answer_text, lock_answer_yes}
use Rattle.tk_query_locks.specs.LockAnswers.{IsLockAnswer}
use Rattle.tk_query_locks.specs.declared.answers.LockAnswer.{LockAnswer}
use Rattle.tk_query_locks.specs.declared.answers.LockAnswer.TheVariants.{Yes, No, NoPair}
use Rattle.tk_explanations.specs.Collisions.{StartsAt, overlap_rows}
use Rattle.tk_explanations.specs.Rows.{AsText}
use Rattle.tk_explanations.specs.declared.rows.Row.{Row}
use Rattle.tk_explanations.specs.declared.rows.Row.TheVariants.{Line, OverlapOver}
use Rattle.tk_explanations.specs.declared.rows.Span.{Span}

-- whether there is a descriptor, and it holds a lock
abbrev pub has_lock : Option Descriptor → Bool
has_lock None = false
has_lock (Some d) = not (length d.locks == 0)

-- whether the descriptor of an entry holds a lock
abbrev pub holds_lock : Recorded → Option Entry → Bool
holds_lock r None = false
holds_lock r (Some e) = has_lock (desc r e.event.key)

-- the positions of the starts
abbrev pub starts : Selected → List ℕ
starts asked = positions_of (filtered_by (selects pick.Started asked.recorded) asked)

-- how many executions hold a lock
abbrev pub holding_count : Selected → ℕ
holding_count asked =
    let r = asked.recorded in
    count_by (λ p. holds_lock r (slice_get r.entries p)) (starts asked)

-- the row of how many executions hold a lock
abbrev pub holding_row : Selected → Row
holding_row asked = Line (decimal (holding_count asked) ++ codes " executions hold a lock")

module _ (asked : Selected) where
  -- What is said below the answer: of the executions that start at the two positions; or, where no
  -- two conflict, how many hold a lock.
  abbrev pub AreLockRows : LockAnswer → List Row → Type 0
  AreLockRows Yes rows = rows ≡ []
  AreLockRows (No p q name) rows =
      (x : Span) × (y : Span) × StartsAt asked p x × StartsAt asked q y
      × (rows ≡ overlap_rows asked.recorded x y (OverlapOver x y name))
  AreLockRows NoPair rows = rows ≡ holding_row asked ∷ []

  -- the answer, and what is said below it
  abbrev pub IsLockExplanation : Bool → List Row → Type 0
  IsLockExplanation is_yes rows =
      (answer : LockAnswer) × IsLockAnswer asked answer
      × (is_yes ≡ lock_answer_yes answer)
      × (below : List Row) × AreLockRows answer below
      × (rows ≡ Line (lock_answer_text answer) ∷ below)

  -- the explanation as text
  abbrev pub ExplainsLocks : Bool → List ℕ → Type 0
  ExplainsLocks = AsText IsLockExplanation asked.recorded
