-- What the unit of a table emits.
use Rattle.std.specs.Prelude.{◌≡◌, ℕ, zero, suc, ◌==◌, if◌then◌else◌, codes}
use Rattle.std.specs.Prelude.{List, [], ◌∷◌, ◌++◌, length, slice_get, Option, None, Some, IfSome}
use Rattle.std.specs.Fmt.{decimal}
use Rattle.engine_testkit.specs.Descriptor.{Descriptor}
use Rattle.engine_testkit.specs.Event.{Event}
use Rattle.engine_testkit.specs.Emitted.{file_published, finished, registered, reported}
use Rattle.engine_testkit.specs.Emitted.{skipped, started}
use Rattle.engine_testkit.specs.Outcome.{Outcome}
use Rattle.engine_testkit.specs.Outcome.TheVariants.{Successful, Failed}
use Rattle.example_engine.specs.declared.cases.Case.{Case}

-- the message of a case that fails
abbrev pub failure_text : ℕ → ℕ → List ℕ
failure_text expected actual =
    codes "expected: <"
    ++ (decimal expected ++ (codes "> but was: <" ++ (decimal actual ++ codes ">")))

-- a success exactly where the function has the value that the case expects, and else a failure
-- with both values
abbrev pub outcome_of : (ℕ → ℕ) → Case → Outcome
outcome_of value c =
    if value c.argument == c.expected then Successful
    else Failed (Some (failure_text c.expected (value c.argument)))

-- The case with the number i is registered under a key, starts, and finishes as the function's
-- value says.
abbrev pub IsCaseRun : (ℕ → ℕ) → ℕ → Case → List Event → Type 0
IsCaseRun value i c es =
    (key : ℕ) × (d : Descriptor)
    × (es ≡ registered key i d ∷ started key i ∷ finished key i (outcome_of value c) ∷ [])

-- the first n cases run, one after another
abbrev pub AreCaseRuns : (ℕ → ℕ) → List Case → ℕ → List Event → Type 0
AreCaseRuns value cases zero es = es ≡ []
AreCaseRuns value cases (suc n) es =
    (xs : List Event) × (ys : List Event) × (es ≡ xs ++ ys) × AreCaseRuns value cases n xs
    × IfSome (slice_get cases n) (λ c. IsCaseRun value n c ys)

-- how many cases a table has, in an entry
abbrev pub entry_of : ℕ → List (List ℕ × List ℕ)
entry_of n = (codes "cases", decimal n) ∷ []

-- where the log of a table lies
abbrev pub path_of : List ℕ → List ℕ
path_of name = codes "out/" ++ name ++ codes ".txt"

-- what follows the cases of a table: an entry, a file, and the finish
abbrev pub last_events : List ℕ → ℕ → ℕ → List Event
last_events name n key =
    reported key n (entry_of n) ∷ file_published key n (path_of name)
    ∷ finished key n Successful ∷ []

-- A table is skipped for its reason. Or it starts, runs its cases, publishes an entry and a file,
-- and finishes. The stamp of its events is the number of its cases.
abbrev pub IsTableRun :
    (ℕ → ℕ) → List ℕ → List Case → Option (List ℕ) → ℕ → List Event → Type 0
IsTableRun value name cases (Some reason) key es = es ≡ skipped key (length cases) reason ∷ []
IsTableRun value name cases None key es =
    (runs : List Event) × AreCaseRuns value cases (length cases) runs
    × (es ≡ started key (length cases) ∷ (runs ++ last_events name (length cases) key))
