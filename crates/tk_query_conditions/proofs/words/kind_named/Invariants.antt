use Rattle.std.proofs.Common.{◌≡◌, drop}
use Rattle.tk_query_conditions.specs.steps.Reading.{kinds, look}
use Rattle.tk_query_conditions.proofs.words.kind_named.Given as goal

abbrev pub invariant-loop-kind : goal.invariant-loop-kind
invariant-loop-kind l = look kinds l.word ≡ look (drop l.kind-index kinds) l.word
