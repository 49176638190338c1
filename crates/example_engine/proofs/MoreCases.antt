-- The runs of cases, one case more.
use Rattle.std.proofs.Common.{ℕ, ◌+◌, ◌<◌, List, ◌++◌, length, get_or, refl, sym, subst, add-one}
use Rattle.std.proofs.lemmas.Option.{slice_get-get_or}
use Rattle.std.specs.Prelude.{Option, IfSome}
use Rattle.engine_testkit.specs.Event.{Event}
use Rattle.example_engine.specs.declared.cases.Case.{Case}
use Rattle.example_engine.specs.Running.{AreCaseRuns, IsCaseRun}

pub one_case_more : (value : ℕ → ℕ) (cases : List Case) (n : ℕ) (d : Case) (xs ys : List Event) → n < length cases
    → AreCaseRuns value cases n xs → IsCaseRun value n (get_or cases n d) ys → AreCaseRuns value cases (n + 1) (xs ++ ys)
one_case_more value cases n d xs ys below before run =
    rw (add-one n) (xs, ys, refl, before, subst (λ (o : Option Case). IfSome o (λ c. IsCaseRun value n c ys)) (sym (slice_get-get_or cases n d below)) run)
