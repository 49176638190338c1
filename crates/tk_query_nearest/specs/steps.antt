-- What private clauses and proofs alone name.
use Rattle.std.specs.Prelude.{ℕ, min, nat_lt, if◌then◌else◌, List, [], ◌∷◌, ◌++◌, codes}
use Rattle.tk_query_nearest.specs.declared.candidates.Candidate.{Candidate}
use Rattle.tk_query_nearest.specs.declared.parts.TheConstants.{MAX_DISTANCE}
use Rattle.tk_events.specs.declared.events.Entry.{Entry}
use Rattle.tk_record.specs.Recorded.{Recorded}
use Rattle.tk_query_conditions.specs.Cond.{Conds, Nothing, More, Cond, cond_text}
use Rattle.tk_query_nearest.specs.Parts.{missing}

-- the candidates with one at a higher position, before the first of which more is missing
abbrev pub inserted : Candidate → List Candidate → List Candidate
inserted a [] = a ∷ []
inserted a (b ∷ bs) = if nat_lt a.distance b.distance then a ∷ b ∷ bs else b ∷ inserted a bs

-- how many missing parts of a later event are counted: what the last of three candidates lacks
abbrev pub counted_to : List Candidate → ℕ
counted_to (a ∷ b ∷ c ∷ rest) = c.distance
counted_to _ = MAX_DISTANCE

-- the least of a number and of how many parts of each of the conditions don't hold
abbrev pub lowered : Recorded → ℕ → Conds → Entry → ℕ
lowered r most Nothing e = most
lowered r most (More cs c) e = min (lowered r most cs e) (missing r c e)

-- the text, and a comma and a blank after it where it isn't empty
abbrev pub separated : List ℕ → List ℕ
separated [] = []
separated (b ∷ text) = (b ∷ text) ++ codes ", "

-- the text, and the texts of further conditions after it
abbrev pub appended : List ℕ → List Cond → List ℕ
appended text [] = text
appended text (c ∷ cs) = appended (separated text ++ cond_text c) cs
