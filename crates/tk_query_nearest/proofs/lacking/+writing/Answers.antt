use Rattle.std.proofs.Common.{◌≡◌, string_bytes, subst, OnOk}
use Rattle.tk_record.specs.Record.{entry_of_view}
use Rattle.tk_query_nearest.specs.Members.{lacking}
use Rattle.tk_query_nearest.specs.steps.{appended}
use Rattle.tk_query_nearest.proofs.TakenLemmas.{all_is, lacking_taken}
use Rattle.tk_query_nearest.proofs.lacking.+writing.Goals as goal

pub push_lacking-returns-in-All : goal.push_lacking-returns-in-All
push_lacking-returns-in-All t c =
    subst (λ all. OnOk c.push_lacking_of_all.result (string_bytes c.push_lacking_of_all.new.out ≡ appended (string_bytes c.args.out.now) (lacking c.args.«record».now all (entry_of_view c.args.event.now))))
    (all_is c.args.condition.now c.in-All.members c.deref.result.now c.in-All.is c.deref.ensures.value) c.push_lacking_of_all.ensures

pub push_lacking_of_all-loop-member-preserved : goal.push_lacking_of_all-loop-member-preserved
push_lacking_of_all-loop-member-preserved t c =
    lacking_taken c.args.«record».now c.args.members.now c.loop-member.member-index c.member-item.result (entry_of_view c.args.event.now) (string_bytes c.args.out.now) (string_bytes c.loop-member.out) (string_bytes c.push_lacking.new.out)
    c.loop-member-test.true c.member-item.is c.loop-member.invariant c.in_ok-push_lacking.ensures
