use Rattle.std.proofs.Common.{arith, length, refl, subst}
use Rattle.tk_record.specs.Record.{entry_of_view}
use Rattle.tk_query_lifecycle.specs.Lifecycle.{first_entries}
use Rattle.tk_query_lifecycle.specs.steps.Progress.{IsTaken, next_event}
use Rattle.tk_query_lifecycle.proofs.LoopLemmas.{followed_more, stands_at, unfinished, never_ran, kept, known_at_end, past_all}
use Rattle.tk_query_lifecycle.proofs.lifecycle_check.lifecycle.Goals as goal

pub overflow_add-position : goal.overflow_add-position
overflow_add-position c = let within = c.in-Some.ensures.there.0 refl in let short = c.shows_record.ensures.short in omega (arith, within, short)

pub events-preserved : goal.events-preserved
events-preserved c =
    let r = c.args.record.now in
    let p = c.events.position in
    let e = entry_of_view c.in-Some.event in
    let at = stands_at r p c.in-Some.event (c.in-Some.ensures.there.0 refl) c.in-Some.ensures.value in
    followed_more r p e c.events.progress.states c.take.new.self.states c.events.progress.ids c.take.new.self.ids c.events.invariant at
    (subst (IsTaken (next_event (first_entries p r) e) c.take.new.self.states c.take.new.self.ids) c.in_default-2.is c.in_ok-rule.ensures)

pub returns-in-Some-first_running : goal.returns-in-Some-first_running
returns-in-Some-first_running c =
    let r = c.args.record.now in
    let n = c.events.position in
    let states = c.events.progress.states in
    let ids = c.events.progress.ids in
    let all = past_all c.entry.result n (length r.entries) c.in_default.is c.entry.ensures.there.1 in
    unfinished r n states ids c.events.invariant all c.first_running.result c.in-Some-first_running.key
    (c.first_running.ensures r (known_at_end r n states ids c.events.invariant all)) c.in-Some-first_running.is

pub first_never_run-requires : goal.first_never_run-requires
first_never_run-requires c =
    let r = c.args.record.now in
    let n = c.events.position in
    known_at_end r n c.events.progress.states c.events.progress.ids c.events.invariant (past_all c.entry.result n (length r.entries) c.in_default.is c.entry.ensures.there.1)

pub returns-in-Some-never_ran : goal.returns-in-Some-never_ran
returns-in-Some-never_ran c =
    let r = c.args.record.now in
    let n = c.events.position in
    let states = c.events.progress.states in
    let ids = c.events.progress.ids in
    let all = past_all c.entry.result n (length r.entries) c.in_default.is c.entry.ensures.there.1 in
    never_ran r n states ids c.events.invariant all c.first_running.result c.in_ok-never_ran.never_ran c.in-Some-never_ran.key
    (c.first_running.ensures r (known_at_end r n states ids c.events.invariant all)) c.in_default-first_running.is c.in_ok-never_ran.ensures c.in-Some-never_ran.is

pub returns : goal.returns
returns c =
    let r = c.args.record.now in
    let n = c.events.position in
    let states = c.events.progress.states in
    let ids = c.events.progress.ids in
    let all = past_all c.entry.result n (length r.entries) c.in_default.is c.entry.ensures.there.1 in
    kept r n states ids c.events.invariant all c.first_running.result c.in_ok-never_ran.never_ran
    (c.first_running.ensures r (known_at_end r n states ids c.events.invariant all)) c.in_default-first_running.is c.in_ok-never_ran.ensures c.in-None.is
