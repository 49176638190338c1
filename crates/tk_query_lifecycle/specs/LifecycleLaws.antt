-- What follows from the definition of a record's lifecycle.
use Rattle.std.specs.Prelude.{◌≡◌, ◌↔◌, ℕ, ◌+◌, true, length, Some, slice_get, take}
use Rattle.tk_ids.specs.declared.descriptors.Descriptor.{Descriptor}
use Rattle.tk_record.specs.Recorded.{Recorded}
use Rattle.tk_ids.specs.Table.{AreDifferent}
use Rattle.tk_query_lifecycle.specs.KeepsLifecycle.{KeepsLifecycle}
use Rattle.tk_query_lifecycle.specs.NeverRan.{EachDueKeyRuns}
use Rattle.tk_query_lifecycle.specs.Lifecycle.{IsBrokenAt, IsInOrder, IsLifecycle, has_run}
use Rattle.tk_query_lifecycle.specs.declared.lifecycle_rules.Lifecycle.{Lifecycle}
use Rattle.tk_query_lifecycle.specs.declared.lifecycle_rules.Lifecycle.TheVariants.{Kept}
use Rattle.tk_query_lifecycle.specs.declared.lifecycle_rules.LifecycleRule.{LifecycleRule}

-- one record has one answer
abbrev pub LifecycleIsUnique : Type 0
LifecycleIsUnique = (r : Recorded) (a b : Lifecycle) → IsLifecycle r a → IsLifecycle r b → a ≡ b

-- Where event p of a record breaks a rule, no record over the same table that begins with the same
-- p + 1 events keeps the lifecycle.
abbrev pub BreakIsFinal : Type 0
BreakIsFinal =
    (r s : Recorded) (p : ℕ) (rule : LifecycleRule) →
    IsBrokenAt r p rule → s.table ≡ r.table →
    take (p + 1) s.entries ≡ take (p + 1) r.entries → ¬ IsLifecycle s Kept

-- No event breaks a rule, and no key runs at the end, exactly where the record keeps the lifecycle.
-- No two descriptors of a table have one id.
abbrev pub InOrderByItsEvents : Type 0
InOrderByItsEvents = (r : Recorded) → AreDifferent r.table → IsInOrder r ↔ KeepsLifecycle r

-- `Kept` is the answer exactly where the record keeps the lifecycle, and each static key that is
-- due starts or is skipped.
abbrev pub KeptByItsEvents : Type 0
KeptByItsEvents =
    (r : Recorded) → AreDifferent r.table
    → IsLifecycle r Kept ↔ (KeepsLifecycle r × EachDueKeyRuns r)

-- Where `Kept` is the answer, each static root starts or is skipped: so it is no answer of a record
-- without an event, whose table has a root.
abbrev pub KeptRootsRun : Type 0
KeptRootsRun =
    (r : Recorded) (key : ℕ) (root : Descriptor) →
    slice_get r.table key ≡ Some root → length root.id ≡ 1 →
    IsLifecycle r Kept → has_run key r.entries ≡ true
