use Rattle.std.proofs.Common.{inr}
use Rattle.tk_streams.specs.Stream.{AppendsPrefix}
use Rattle.testkit_program.specs.Jobs.{transfer}
use Rattle.testkit_program.proofs.Recovers.{is_read, recovered}
use Rattle.testkit_program.proofs.jobs.do_recover.Goals as goal

pub returns-in-Err-write_whole_record-clause-refused : goal.returns-in-Err-write_whole_record-clause-refused
returns-in-Err-write_whole_record-clause-refused g c =
    let old = g.T.Target.contents c.args.target.now in
    let new = g.T.Target.contents c.write_whole_record.new.target in
    let t = transfer (g.S.Source.remaining c.args.source.now) old new in
    let read = c.in-Ok.ensures.answer (λ e. absurd (is_read _ _ e)) in
    inr (_, recovered t _ _ (AppendsPrefix old new) read c.in-Err-write_whole_record.ensures.err)
