use Rattle.std.proofs.Common.{◌<◌, sym, ◌∙◌, length, arith}
use Rattle.std.proofs.lemmas.Bool.{false≢true}
use Rattle.tk_query_locks.specs.steps.Holders.{end_of}
use Rattle.tk_query_locks.proofs.HolderLemmas.{again_listed, again_meets_none, lasting_more, listed_past, no_end, no_start, none_met, none_more, none_past}
use Rattle.tk_query_locks.proofs.holders.Holders.first_meeting.Goals as goal

pub loop-second-preserved-then-not-runs_at : goal.loop-second-preserved-then-not-runs_at
loop-second-preserved-then-not-runs_at c =
    let h = c.args.self.now in
    let q = c.loop-second.second in
    let within : q < length h.ends.items = let lt = c.loop-second-test.true in let size = c.len-second-end.ensures in omega (arith, lt, size) in
    let none = no_end (end_of h q) (λ some. false≢true (sym c.if-not-runs_at.true ∙ c.runs_at.ensures.1 some)) in
    record {
      listed = listed_past h q c.loop-second.running c.loop-second.invariant.listed within none;
      before = none_more h q c.loop-second.invariant.before (no_start h q none);
      lasting = lasting_more h q c.loop-second.lasting c.loop-second.invariant.lasting;
    }

pub loop-second-preserved-then-repeats : goal.loop-second-preserved-then-repeats
loop-second-preserved-then-repeats c =
    let h = c.args.self.now in
    let q = c.loop-second.second in
    let within : q < length h.ends.items = let lt = c.loop-second-test.true in let size = c.len-second-end.ensures in omega (arith, lt, size) in
    let again = c.repeats.ensures c.if-repeats.true in
    record {
      listed = again_listed h q within again c.loop-second.running c.loop-second.invariant.listed;
      before = none_more h q c.loop-second.invariant.before (again_meets_none h q within again c.loop-second.invariant.before);
      lasting = lasting_more h q c.loop-second.lasting c.loop-second.invariant.lasting;
    }

pub loop-second-preserved : goal.loop-second-preserved
loop-second-preserved c =
    let h = c.args.self.now in
    let q = c.loop-second.second in
    record {
      listed = c.in_ok-start.ensures;
      before = none_more h q c.loop-second.invariant.before (none_met h q c.met_at.result c.in_default.is c.met_at.ensures);
      lasting = c.in_ok-note.ensures;
    }

pub returns : goal.returns
returns c =
    let past = c.loop-second-test.false in
    let size = c.len-second-end.ensures in
    none_past c.args.self.now c.loop-second.second (omega (arith, past, size)) c.loop-second.invariant.before
