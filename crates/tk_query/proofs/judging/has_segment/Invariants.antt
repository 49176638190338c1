use Rattle.std.proofs.Common.{◌≡◌}
use Rattle.tk_query.specs.Holds.{has_segment}
use Rattle.tk_query.proofs.judging.has_segment.Given as goal

abbrev pub invariant-loop-segment : goal.invariant-loop-segment
invariant-loop-segment l =
    has_segment l.tag l.value l.segment-iterator ≡ has_segment l.tag l.value l.id
