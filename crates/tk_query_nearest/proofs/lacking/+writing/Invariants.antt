use Rattle.std.proofs.Common.{◌≡◌, take, string_bytes}
use Rattle.tk_record.specs.Record.{entry_of_view}
use Rattle.tk_query_conditions.specs.Cond.{All, Nothing}
use Rattle.tk_query_conditions.specs.steps.Reader.{conds_from}
use Rattle.tk_query_nearest.specs.Members.{lacking}
use Rattle.tk_query_nearest.specs.steps.{appended}
use Rattle.tk_query_nearest.proofs.lacking.+writing.Given as goal

abbrev pub invariant-push_lacking_of_all-loop-member : goal.invariant-push_lacking_of_all-loop-member
invariant-push_lacking_of_all-loop-member l = string_bytes l.out ≡ appended (string_bytes l.fn.out) (lacking l.«record» (All (conds_from Nothing (take l.member-index l.members))) (entry_of_view l.event))
