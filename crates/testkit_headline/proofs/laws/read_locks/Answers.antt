use Rattle.std.proofs.Common.{◌∷◌}
use Rattle.testkit_headline.proofs.laws.read_locks.Goals as goal

pub returns : goal.returns
returns c =
    let found = c.look.ensures.together in
    let own = c.args.seat.now.holds in (
      found.others,
      found.count,
      found.sum,
      (c.writers_are_alone.ensures (own ∷ found.others)).0 found.compatible,
    )
