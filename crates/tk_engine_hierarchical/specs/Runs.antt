-- Which records are runs of an engine of tests by this many workers.
use Rattle.std.specs.Prelude.{ℕ}
use Rattle.tk_record.specs.Recorded.{Recorded}
use Rattle.tk_claims.specs.Run.{IsRun}
use Rattle.tk_engine_hierarchical.specs.Laws.{may_of}
use Rattle.tk_engine_hierarchical.specs.TreeRuns.{TestRules}
use Rattle.tk_engine_unit_events.specs.Shapes.{ShapeView, frame}

-- The record is that of a run of the engine of a plan by this many workers, in which each unit
-- emits what it may.
abbrev pub IsRunBy : ShapeView → TestRules → ℕ → Recorded → Type 0
IsRunBy shape rules workers r =
    let f = frame shape in
    IsRun (may_of shape rules) f.table f.before f.after f.units workers r
