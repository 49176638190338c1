use Rattle.std.proofs.Common.{◌≡◌, true, false, take}
use Rattle.std.specs.List.{list_all, list_any}
use Rattle.tk_record.specs.Record.{entry_of_view}
use Rattle.tk_query.specs.Holds.{holds}
use Rattle.tk_query.proofs.judging.+holds.Given as goal

abbrev pub invariant-all_hold-loop-member : goal.invariant-all_hold-loop-member
invariant-all_hold-loop-member l = list_all (λ member. holds l.«record» member (entry_of_view l.event)) (take l.member-index l.members) ≡ true

abbrev pub invariant-any_holds-loop-member : goal.invariant-any_holds-loop-member
invariant-any_holds-loop-member l = list_any (λ member. holds l.«record» member (entry_of_view l.event)) (take l.member-index l.members) ≡ false
