use Rattle.std.proofs.Common.{◌≡◌, ◌++◌, ◌∷◌, [], string_bytes, take}
use Rattle.tk_query_conditions.specs.Cond.{NoPairs, pairs_text}
use Rattle.tk_query_conditions.specs.CondOf.{pairs_from}
use Rattle.tk_query_conditions.proofs.writing.push_pairs.Given as goal

abbrev pub invariant-loop-at : goal.invariant-loop-at
invariant-loop-at l = string_bytes l.out ≡ (string_bytes l.fn.out ++ 40 ∷ []) ++ pairs_text (pairs_from NoPairs (take l.at l.pairs))
