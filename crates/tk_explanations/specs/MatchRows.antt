-- The rows of conditions, and of the events found for them or nearest to them.
use Rattle.std.specs.Prelude.{ℕ, ◌+◌, List, [], ◌∷◌, map, Option, Some, None, slice_get}
use Rattle.tk_events.specs.declared.events.Entry.{Entry}
use Rattle.tk_record.specs.Recorded.{Recorded}
use Rattle.tk_query_conditions.specs.Cond.{cond_text}
use Rattle.tk_query_conditions.specs.CondOf.{cond_of}
use Rattle.tk_query_conditions.specs.declared.conditions.Condition.{Condition}
use Rattle.tk_query_nearest.specs.Members.{lacking_text}
use Rattle.tk_explanations.specs.declared.rows.Note.{Note}
use Rattle.tk_explanations.specs.declared.rows.Note.TheVariants.{Nothing, Lacks}
use Rattle.tk_explanations.specs.declared.rows.Row.{Row}
use Rattle.tk_explanations.specs.declared.rows.Row.TheVariants as row

-- the row of the condition of number k
abbrev pub condition_row : ℕ → Condition → Row
condition_row k c = row.Condition k (cond_text (cond_of c))

-- the rows of conditions, from number k on, each with the row of the event found for it
abbrev pub found_rows : ℕ → List Condition → List ℕ → List Row
found_rows k (c ∷ cs) (p ∷ ps) =
    condition_row k c ∷ row.Event p Nothing ∷ found_rows (k + 1) cs ps
found_rows k _ _ = []

-- the members of a condition that don't hold of an entry, where there is one
abbrev pub lacks : Recorded → Condition → Option Entry → Note
lacks r c None = Nothing
lacks r c (Some e) = Lacks (lacking_text r (cond_of c) e)

-- the row of the event at a position, with the members of a condition that don't hold of it
abbrev pub lacking_row : Recorded → Condition → ℕ → Row
lacking_row r c position = row.Event position (lacks r c (slice_get r.entries position))

-- the rows of the events nearest to a condition, each with what lacks, or that there is none
abbrev pub near_rows : Recorded → Condition → List ℕ → List Row
near_rows r c [] = row.NoneLeft ∷ []
near_rows r c (p ∷ ps) = lacking_row r c p ∷ map (lacking_row r c) ps
