use Rattle.tk_locks.proofs.Masks.{masked}
use Rattle.tk_locks.proofs.needs.Need.of.Goals as goal

pub returns : goal.returns
returns c = λ r lt. masked c.args.reads c.args.writes r lt c.ranges.writes.fits
