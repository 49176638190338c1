-- The words of the lifecycle's rules and of what is said of a record.
use Rattle.std.specs.Prelude.{ℕ, List, ◌++◌, codes}
use Rattle.std.specs.Fmt.{decimal}
use Rattle.tk_query_lifecycle.specs.declared.lifecycle_rules.Lifecycle.{Lifecycle}
use Rattle.tk_query_lifecycle.specs.declared.lifecycle_rules.Lifecycle.TheVariants.{Kept, Broken}
use Rattle.tk_query_lifecycle.specs.declared.lifecycle_rules.Lifecycle.TheVariants.{Unfinished}
use Rattle.tk_query_lifecycle.specs.declared.lifecycle_rules.Lifecycle.TheVariants.{NeverRan}
use Rattle.tk_query_lifecycle.specs.declared.lifecycle_rules.LifecycleRule.{LifecycleRule}
use Rattle.tk_query_lifecycle.specs.declared.lifecycle_rules.LifecycleRule.TheVariants.{IdKnown}
use Rattle.tk_query_lifecycle.specs.declared.lifecycle_rules.LifecycleRule.TheVariants.{
  ParentUnknown,
}
use Rattle.tk_query_lifecycle.specs.declared.lifecycle_rules.LifecycleRule.TheVariants.{
  ParentNotRunning,
}
use Rattle.tk_query_lifecycle.specs.declared.lifecycle_rules.LifecycleRule.TheVariants.{RanAlready}
use Rattle.tk_query_lifecycle.specs.declared.lifecycle_rules.LifecycleRule.TheVariants.{NotRunning}
use Rattle.tk_query_lifecycle.specs.declared.lifecycle_rules.LifecycleRule.TheVariants.{
  ChildRunning,
}

abbrev pub rule_text : LifecycleRule → List ℕ
rule_text IdKnown = codes "id-known"
rule_text ParentUnknown = codes "parent-unknown"
rule_text ParentNotRunning = codes "parent-not-running"
rule_text RanAlready = codes "ran-already"
rule_text NotRunning = codes "not-running"
rule_text ChildRunning = codes "child-running"

abbrev pub lifecycle_text : Lifecycle → List ℕ
lifecycle_text Kept = codes "yes"
lifecycle_text (Broken position rule) =
    codes "no " ++ decimal position ++ codes " " ++ rule_text rule
lifecycle_text (Unfinished key) = codes "no end " ++ decimal key
lifecycle_text (NeverRan key) = codes "no start " ++ decimal key
