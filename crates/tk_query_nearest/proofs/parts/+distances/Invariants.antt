use Rattle.std.proofs.Common.{◌≡◌, take}
use Rattle.tk_record.specs.Record.{entry_of_view}
use Rattle.tk_query_conditions.specs.Cond.{Nothing}
use Rattle.tk_query_conditions.specs.steps.Reader.{conds_from}
use Rattle.tk_query_nearest.specs.steps.{lowered}
use Rattle.tk_query_nearest.proofs.TakenLemmas.{IsTotal}
use Rattle.tk_query_nearest.proofs.parts.+distances.Given as goal

abbrev pub invariant-distance_of_all-loop-member : goal.invariant-distance_of_all-loop-member
invariant-distance_of_all-loop-member l =
    IsTotal l.«record» (entry_of_view l.event) l.most
    (conds_from Nothing (take l.member-index l.members)) l.total

abbrev pub invariant-distance_of_any-loop-member : goal.invariant-distance_of_any-loop-member
invariant-distance_of_any-loop-member l =
    l.fewest ≡ lowered l.«record» l.most (conds_from Nothing (take l.member-index l.members))
    (entry_of_view l.event)
