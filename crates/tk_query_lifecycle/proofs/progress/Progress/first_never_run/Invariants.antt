use Rattle.std.proofs.Common.{◌-◌, length}
use Rattle.tk_query_lifecycle.proofs.NeverRanLemmas.{EachRunsBelow}
use Rattle.tk_query_lifecycle.proofs.progress.Progress.first_never_run.Given as goal

abbrev pub invariant-statics : goal.invariant-statics
invariant-statics l = EachRunsBelow l.«record» l.key

abbrev pub decreases-statics : goal.decreases-statics
decreases-statics l = length l.«record».table - l.key
