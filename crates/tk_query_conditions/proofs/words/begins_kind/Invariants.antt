use Rattle.std.proofs.Common.{◌≡◌, drop}
use Rattle.tk_query_conditions.specs.steps.Reading.{kinds, is_prefix}
use Rattle.tk_query_conditions.proofs.words.begins_kind.Given as goal

abbrev pub invariant-loop-kind : goal.invariant-loop-kind
invariant-loop-kind l = is_prefix kinds l.word ≡ is_prefix (drop l.kind-index kinds) l.word
