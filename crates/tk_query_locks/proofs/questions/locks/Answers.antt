use Rattle.std.proofs.Common.{◌∙◌, sym, subst}
use Rattle.tk_query_locks.specs.steps.Holders.{IsCollision}
use Rattle.tk_query_locks.proofs.MeetingLemmas.{first_collision, no_pair_is, yes_is}
use Rattle.tk_query_locks.proofs.questions.locks.Goals as goal

pub returns-in-Some : goal.returns-in-Some
returns-in-Some c =
    let h = c.in_ok-holders.holders in
    let found = subst (IsCollision h) c.in-Some.is c.in_ok-first.ensures in
    first_collision c.args.events.now h c.in_ok-holders.ensures.conflicts c.in_ok-holders.ensures.ends
    c.in-Some.first c.in-Some.second c.in-Some.name found.0 found.1

pub returns-then-is_some : goal.returns-then-is_some
returns-then-is_some c =
    let h = c.in_ok-holders.holders in
    let n = c.forget_ends.new.self in
    let none = subst (IsCollision h) c.in_default.is c.in_ok-first.ensures in
    let same = c.forget_ends.ensures.conflicts ∙ c.in_ok-holders.ensures.conflicts in
    yes_is c.args.events.now h c.in_ok-holders.ensures.conflicts c.in_ok-holders.ensures.ends n same c.forget_ends.ensures.ends
    c.in_ok-meeting.meeting (sym c.is_some.ensures ∙ c.if-is_some.true) c.in_ok-meeting.ensures none

pub returns : goal.returns
returns c =
    let h = c.in_ok-holders.holders in
    let n = c.forget_ends.new.self in
    let same = c.forget_ends.ensures.conflicts ∙ c.in_ok-holders.ensures.conflicts in
    no_pair_is c.args.events.now h c.in_ok-holders.ensures.conflicts c.in_ok-holders.ensures.ends n same c.forget_ends.ensures.ends
    c.in_ok-meeting.meeting (sym c.is_some.ensures ∙ c.if-is_some.false) c.in_ok-meeting.ensures
