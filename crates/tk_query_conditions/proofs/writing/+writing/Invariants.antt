use Rattle.std.proofs.Common.{◌≡◌, ◌++◌, ◌∷◌, [], string_bytes, take}
use Rattle.tk_query_conditions.specs.Cond.{Nothing, list_text}
use Rattle.tk_query_conditions.specs.steps.Reader.{conds_from}
use Rattle.tk_query_conditions.proofs.writing.+writing.Given as goal

abbrev pub invariant-push_members-loop-at : goal.invariant-push_members-loop-at
invariant-push_members-loop-at l = string_bytes l.out ≡ (string_bytes l.fn.out ++ 40 ∷ []) ++ list_text (conds_from Nothing (take l.at l.members))
