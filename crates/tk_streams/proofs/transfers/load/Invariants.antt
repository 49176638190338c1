use Rattle.std.proofs.Common.{◌≤◌, ◌-◌}
use Rattle.std.specs.Io.KnownBytes.{Consumes}
use Rattle.tk_streams.proofs.transfers.load.Given as goal

abbrev pub invariant-loop-count : goal.invariant-loop-count
invariant-loop-count g l =
    let remaining = g.S.Source.remaining in
    record {
      taken : Consumes (remaining l.fn.source) (remaining l.source) l.bytes.items;
      within : l.bytes.len ≤ l.limit;
    }

abbrev pub decreases-loop-count : goal.decreases-loop-count
decreases-loop-count g l = l.limit - l.bytes.len
