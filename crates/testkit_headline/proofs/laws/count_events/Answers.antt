use Rattle.std.proofs.Common.{sym, subst, All}
use Rattle.tk_record.specs.Statistics.{statistic_rows}
use Rattle.testkit_headline.specs.Counting.{IsCount}
use Rattle.testkit_headline.proofs.Records.{counts}
use Rattle.testkit_headline.proofs.laws.count_events.Goals as goal

pub returns : goal.returns
returns c =
    subst (λ s. All (IsCount c.args.events.now) (statistic_rows s)) (sym c.statistics.ensures)
    (counts c.args.events.now)
