use Rattle.std.proofs.Common.{◌≡◌, ◌++◌, string_bytes}
use Rattle.tk_ids.specs.IdText.{escaped}
use Rattle.tk_plan_nodes.proofs.node_ids.push_escaped.Given as goal

abbrev pub invariant-loop-character : goal.invariant-loop-character
invariant-loop-character l = string_bytes l.out ++ escaped l.character-iterator.rest.now ≡ string_bytes l.initial.out ++ escaped l.text
