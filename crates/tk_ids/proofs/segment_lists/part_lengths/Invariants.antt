use Rattle.std.proofs.Common.{length, ◌-◌}
use Rattle.tk_ids.proofs.SplitLemmas.{IsMeasured}
use Rattle.tk_ids.proofs.segment_lists.part_lengths.Given as goal

abbrev pub invariant-bytes : goal.invariant-bytes
invariant-bytes l = IsMeasured l.text l.stop l.escaped l.plain

abbrev pub decreases-bytes : goal.decreases-bytes
decreases-bytes l = length l.text - l.escaped
