-- What several seats may hold at once, and the two steps that change it.
use Rattle.std.specs.Prelude.{◌≡◌, ◌≢◌, ℕ, ◌+◌, ◌<◌, List, ◌∷◌, Option, Some, None, All, length}
use Rattle.std.specs.Prelude.{slice_get, slice_set, sum_by}
use Rattle.std.specs.List.{AllPairs}
use Rattle.tk_locks.specs.NeedView.{NeedView}
use Rattle.tk_locks.specs.Needs.{Access, nothing, writes, access, Conflict, lane, word_of}

-- what two seats hold doesn't conflict
abbrev pub IsCompatible : Option NeedView → Option NeedView → Type 0
IsCompatible (Some n) (Some m) = Conflict n m → ⊥
IsCompatible a b = Unit {0}

-- no two seats' needs conflict
abbrev pub AreCompatible : List (Option NeedView) → Type 0
AreCompatible held = AllPairs IsCompatible held

-- what a seat does with resource r
abbrev pub held_access : Option NeedView → ℕ → Access
held_access None r = nothing
held_access (Some n) r = access n r

-- where one seat writes a resource, no other reads or writes it
abbrev pub WritersAreAlone : List (Option NeedView) → Type 0
WritersAreAlone held =
    (i j r : ℕ) (h k : Option NeedView) → i ≢ j → r < 16
    → slice_get held i ≡ Some h → slice_get held j ≡ Some k
    → held_access h r ≡ writes → held_access k r ≡ nothing

-- the seat exists and is empty, and the need conflicts with no other seat's
abbrev pub MayTake : List (Option NeedView) → ℕ → NeedView → Type 0
MayTake held seat n = (slice_get held seat ≡ Some None) × All (IsCompatible (Some n)) held

-- The step of a grant: the seat may take the need, and holds it afterwards. All others hold what
-- they held.
pub record Grants
    (old : List (Option NeedView)) (seat : ℕ) (n : NeedView) (new : List (Option NeedView))
    : Type 0 where
  pub may_take : MayTake old seat n
  pub after : new ≡ slice_set old seat (Some n)

-- The step of a release: the seat held the need, and holds nothing afterwards. All others hold what
-- they held.
pub record Releases
    (old : List (Option NeedView)) (seat : ℕ) (n : NeedView) (new : List (Option NeedView))
    : Type 0 where
  pub held : slice_get old seat ≡ Some (Some n)
  pub after : new ≡ slice_set old seat None

-- what a seat adds to lane i of the word
abbrev pub held_lane : Option NeedView → ℕ → ℕ
held_lane None i = 0
held_lane (Some n) i = lane n i

-- what a seat adds to the word
abbrev pub held_word : Option NeedView → ℕ
held_word None = 0
held_word (Some n) = word_of n

-- What all `seats` seats held at one moment. No two needs conflicted, and the word was their sum.
pub record WereHeld (seats : ℕ) (own : Option NeedView) (word : ℕ) : Type 0 where
  pub others : List (Option NeedView)
  pub count : length others + 1 ≡ seats
  pub compatible : AreCompatible (own ∷ others)
  pub sum : word ≡ sum_by held_word (own ∷ others)
