-- What a failure of a test says.
use Rattle.tk_expectations.specs.declared.failures.Failure.{Failure}
use Rattle.tk_expectations.specs.declared.failures.Failure.TheVariants as failures

-- the failure is a fault of another call
abbrev pub IsFault : Failure → Type 0
IsFault (failures.Fault text) = Unit {0}
IsFault _ = ⊥
