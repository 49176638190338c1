use Rattle.tk_lanes.proofs.Tallies.{IsTallied}
use Rattle.tk_lanes.proofs.flags.Flags.tally.Given as goal

abbrev pub invariant-loop-block : goal.invariant-loop-block
invariant-loop-block l = IsTallied l.self l.column l.block 0 l.counts

abbrev pub invariant-loop-code : goal.invariant-loop-code
invariant-loop-code l = IsTallied l.self l.column l.block l.code l.counts
