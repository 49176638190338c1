use Rattle.std.proofs.Common.{arith}
use Rattle.tk_query_conditions.proofs.ReaderLemmas.{depth_is}
use Rattle.tk_query_conditions.proofs.readers.Reader.depth.Goals as goal

pub returns : goal.returns
returns c = let s = c.args.self.now in let d = depth_is s.stack.items s.position in omega (arith, s.stack.ok.0)
