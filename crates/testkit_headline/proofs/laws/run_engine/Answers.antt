use Rattle.std.proofs.Common.{IfOk}
use Rattle.testkit_headline.proofs.Runs.{sent_of_run}
use Rattle.testkit_headline.proofs.laws.run_engine.Goals as goal

pub returns : goal.returns
returns g c =
    sent_of_run c.each_worker_has_its_list.ensures _ _ _ _ _ _ c.execute.result
    c.execute.ensures.run c.execute.ensures.tally
