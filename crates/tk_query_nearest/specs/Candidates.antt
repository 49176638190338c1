-- The candidates for the nearest events, the nearest first.
use Rattle.std.specs.Prelude.{ℕ, List, [], ◌∷◌, map}
use Rattle.tk_query_nearest.specs.declared.candidates.Candidate.{Candidate}
use Rattle.tk_query_nearest.specs.declared.candidates.Candidates.{Candidates}
use Rattle.tk_query_nearest.specs.declared.candidates.Candidates.TheVariants.{Empty, One, Two}
use Rattle.tk_query_nearest.specs.declared.candidates.Candidates.TheVariants.{Three}

-- the candidates in their order
abbrev pub listed : Candidates → List Candidate
listed Empty = []
listed (One a) = a ∷ []
listed (Two a b) = a ∷ b ∷ []
listed (Three a b c) = a ∷ b ∷ c ∷ []

-- the positions of the candidates in their order
abbrev pub positions_of : Candidates → List ℕ
positions_of candidates = map (λ (a : Candidate). a.position) (listed candidates)
