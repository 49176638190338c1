-- The executions that may conflict, by the positions of their starts.
use Rattle.std.specs.Prelude.{◌≡◌, ◌≢◌, ℕ, ◌<◌, ◌≤◌, nat_lt, Bool, true, false, ◌&&◌, ◌||◌}
use Rattle.std.specs.Prelude.{get_or, length}
use Rattle.tk_query.specs.declared.answers.Exclusive.{Exclusive}
use Rattle.tk_query.specs.declared.answers.Exclusive.TheVariants.{Yes, No, NoPair}
use Rattle.tk_query.specs.declared.exclusion.Holders.{Holders}
use Rattle.tk_query.specs.declared.exclusion.LastEnds.{LastEnds}

-- the end of the execution that starts here, or 0
abbrev pub end_of : Holders → ℕ → ℕ
end_of h p = get_or h.ends.items p 0

abbrev pub writes : Holders → ℕ → Bool
writes h p = get_or h.writers p false

abbrev pub reads : Holders → ℕ → Bool
reads h p = get_or h.readers p false

abbrev pub holds_any : Holders → ℕ → Bool
holds_any h p = writes h p || reads h p

-- an execution that starts at p, and ends after q, conflicts with one that starts at q
abbrev pub meet : Holders → ℕ → ℕ → Bool
meet h p q =
    nat_lt q (end_of h p) && nat_lt 0 (end_of h q)
    && ((writes h p && holds_any h q) || (writes h q && holds_any h p))

-- the last ends of the writers, and of all, that start before a position
pub record AreLastEnds (h : Holders) (before : ℕ) (last : LastEnds) : Type 0 where
  pub writers : (p : ℕ) → p < before → writes h p ≡ true → end_of h p ≤ last.writers
  pub all : (p : ℕ) → p < before → holds_any h p ≡ true → end_of h p ≤ last.all

-- no execution that starts before q, and ends after it, conflicts with one that starts at q
abbrev pub MeetsNone : Holders → ℕ → Type 0
MeetsNone h q = (p : ℕ) → p < q → meet h p q ≡ false

-- the first execution that conflicts with one that starts at q, and ends after it
pub record IsFirstMet (h : Holders) (q p : ℕ) : Type 0 where
  pub order : p < q
  pub met : meet h p q ≡ true
  pub first : (i : ℕ) → i < p → meet h i q ≡ false

-- an execution of a writer starts here
abbrev pub is_written : Holders → ℕ → Bool
is_written h p = nat_lt 0 (end_of h p) && writes h p

-- an execution of a writer or a reader starts here
abbrev pub is_held : Holders → ℕ → Bool
is_held h p = nat_lt 0 (end_of h p) && holds_any h p

-- an execution of a writer or a reader, and not this one
pub record HasOther (h : Holders) (writer : ℕ) : Type 0 where
  pub other : ℕ
  pub held : is_held h other ≡ true
  pub different : other ≢ writer

-- an execution of a writer, and another of a writer or a reader
pub record HavePair (h : Holders) : Type 0 where
  pub writer : ℕ
  pub written : is_written h writer ≡ true
  pub beside : HasOther h writer

-- some executions conflict, and none with one that has not ended; the first that does; or none
-- conflict
abbrev pub IsAnswerOf : Holders → Exclusive → Type 0
IsAnswerOf h Yes = HavePair h × ((q : ℕ) → q < length h.ends.items → MeetsNone h q)
IsAnswerOf h (No p q) = IsFirstMet h q p × ((j : ℕ) → j < q → MeetsNone h j)
IsAnswerOf h NoPair = HavePair h → ⊥
