use Rattle.std.proofs.Common.{◌∙◌, ℕ, List, ap, ap₂}
use Rattle.std.specs.Prelude.{count_by, slice_get}
use Rattle.tk_record.specs.Recorded.{Recorded}
use Rattle.tk_record.specs.Selections.{positions_of}
use Rattle.tk_explanations.specs.LockCollisions.{holds_lock}
use Rattle.tk_explanations.proofs.lock_collisions.count_executions.Goals as goal

pub returns : goal.returns
returns c =
    c.count_holding.ensures
    ∙ ap₂ (λ (r : Recorded) (ps : List ℕ). count_by (λ p. holds_lock r (slice_get r.entries p)) ps)
    c.«record».ensures
    (c.as_slice.ensures.value ∙ c.in_ok-starts.ensures.value ∙ ap positions_of c.in_ok-started.ensures)
