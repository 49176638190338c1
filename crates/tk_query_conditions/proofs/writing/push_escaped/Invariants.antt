use Rattle.std.proofs.Common.{◌≡◌, ◌++◌, string_bytes}
use Rattle.tk_query_conditions.specs.Cond.{escaped}
use Rattle.tk_query_conditions.proofs.writing.push_escaped.Given as goal

abbrev pub invariant-loop-character : goal.invariant-loop-character
invariant-loop-character l = string_bytes l.out ++ escaped l.character-iterator.rest.now ≡ string_bytes l.initial.out ++ escaped l.text
