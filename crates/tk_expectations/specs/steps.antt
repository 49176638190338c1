-- What private clauses and proofs alone name.
use Rattle.std.specs.Prelude.{◌≡◌, ℕ, Bool, true, false, List, Result, Ok, Err}
use Rattle.tk_expectations.specs.declared.expectations.Expect.{Expect}
use Rattle.tk_expectations.specs.declared.failures.Failure.{Failure}
use Rattle.tk_expectations.specs.declared.failures.Failure.TheVariants as failures

-- the failure shows this answer, which is a no, or it is a fault
abbrev pub ShowsNo : Bool → List ℕ → Failure → Type 0
ShowsNo is_yes text (failures.Unmet unmet) =
    (is_yes ≡ false) × (unmet.explanation.bytes ≡ text)
ShowsNo is_yes text (failures.Fault fault) = Unit {0}
ShowsNo is_yes text _ = ⊥

-- the answer is a yes, or the failure shows it
abbrev pub IsJudgedBy : Expect → Bool → List ℕ → Result Expect Failure → Type 0
IsJudgedBy e is_yes text (Ok next) = (next ≡ e) × (is_yes ≡ true)
IsJudgedBy e is_yes text (Err failure) = ShowsNo is_yes text failure

-- the failure is no answer, and of no run
abbrev pub IsNoAnswer : Failure → Type 0
IsNoAnswer (failures.Unmet unmet) = ⊥
IsNoAnswer (failures.Run text) = ⊥
IsNoAnswer _ = Unit {0}

-- the failure is an answer or a fault, and of no text
abbrev pub IsAsked : Failure → Type 0
IsAsked (failures.Unmet unmet) = Unit {0}
IsAsked (failures.Fault fault) = Unit {0}
IsAsked _ = ⊥
