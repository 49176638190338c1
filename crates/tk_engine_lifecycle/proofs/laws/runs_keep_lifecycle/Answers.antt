use Rattle.std.proofs.Common.{subst}
use Rattle.tk_record.specs.Record.{IsRecord}
use Rattle.tk_engine_lifecycle.proofs.WholeRuns.{runs_keep}
use Rattle.tk_engine_lifecycle.proofs.laws.runs_keep_lifecycle.Goals as goal

pub returns : goal.returns
returns g c = λ owner units. runs_keep _ (g.E.Engine.may c.args.engine.now) c.requires.0 c.args.results.now.recorded units c.requires.1 (subst IsRecord c.recorded.ensures c.shows_record.ensures)
