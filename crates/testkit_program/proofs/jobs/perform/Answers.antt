use Rattle.std.specs.Prelude.{map, string_bytes}
use Rattle.testkit_program.specs.Jobs.{transfer}
use Rattle.testkit_program.proofs.Wanted.{not_performed, performed}
use Rattle.testkit_program.proofs.jobs.perform.Goals as goal

pub returns-clause-done : goal.returns-clause-done
returns-clause-done g c =
    performed (map string_bytes c.args.words.now)
    (transfer (g.S.Source.remaining c.args.source.now) (g.T.Target.contents c.args.target.now) (g.T.Target.contents c.do_wanted.new.target))
    c.job_of-job.result c.do_wanted.result c.job_of-job.ensures.job c.do_wanted.ensures.no_job c.do_wanted.ensures.done

pub returns-clause-refused : goal.returns-clause-refused
returns-clause-refused g c =
    not_performed (map string_bytes c.args.words.now)
    (transfer (g.S.Source.remaining c.args.source.now) (g.T.Target.contents c.args.target.now) (g.T.Target.contents c.do_wanted.new.target))
    c.job_of-job.result c.do_wanted.result c.job_of-job.ensures.job c.job_of-job.ensures.refused c.do_wanted.ensures.no_job c.do_wanted.ensures.refused
