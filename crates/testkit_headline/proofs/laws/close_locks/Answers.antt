use Rattle.std.specs.Prelude.{map}
use Rattle.tk_locks.specs.Books.{BookSeatView}
use Rattle.testkit_headline.proofs.laws.close_locks.Goals as goal

pub returns-clause-alone : goal.returns-clause-alone
returns-clause-alone c =
    (c.writers_are_alone.ensures (map (λ (seat : BookSeatView). seat.holds) c.args.seats.items)).0
    c.into_word.ensures.compatible
