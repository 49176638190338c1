use Rattle.std.proofs.Common.{arith}
use Rattle.tk_run_laws.proofs.Stamps.{stamp_at}
use Rattle.tk_run_laws.proofs.laws.stamps_are_positions.Goals as goal

pub returns : goal.returns
returns c = λ root i s e. let h = stamp_at 0 _ i s e in omega (arith, h)
