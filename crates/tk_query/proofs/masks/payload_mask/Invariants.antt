use Rattle.std.proofs.Common.{◌≡◌, take, map}
use Rattle.std.specs.Prelude.{if◌then◌else◌}
use Rattle.tk_query.specs.declared.rules.Rule.TheVariants.{Payload}
use Rattle.tk_query.specs.steps.Rules.{rule_holds}
use Rattle.tk_query.proofs.masks.payload_mask.Given as goal

abbrev pub invariant-loop-position : goal.invariant-loop-position
invariant-loop-position l = l.column.items ≡ map (λ e. if rule_holds (Payload l.test l.payload_test) l.«record» e then 1 else 0) (take l.position l.«record».entries)
