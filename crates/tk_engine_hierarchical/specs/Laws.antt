-- What the record of a run of a hierarchical engine says.
use Rattle.std.specs.Prelude.{◌≡◌, ◌⊎◌, ℕ, ◌<◌, List, [], ◌∷◌, ◌++◌, All, length}
use Rattle.tk_plan.specs.Cutting.{units_of}
use Rattle.tk_plan.specs.Planned.{Outline}
use Rattle.tk_plan.specs.Trees.{forest}
use Rattle.tk_claims.specs.Run.{IsRun}
use Rattle.tk_events.specs.declared.events.Event.{Event}
use Rattle.tk_events.specs.declared.kinds.Kind.TheVariants.{Finished, Skipped, Started}
use Rattle.tk_events.specs.declared.outcomes.Outcome.{Outcome}
use Rattle.tk_record.specs.Mixing.{of_worker}
use Rattle.tk_record.specs.Recorded.{Recorded}
use Rattle.tk_query_lifecycle.specs.KeepsLifecycle.{steps_of}
use Rattle.tk_queue_session.specs.Emission.{registrations}
use Rattle.tk_engine_unit_events.specs.Covered.{IsBelowSkipped}
use Rattle.tk_engine_unit_events.specs.Endings.{EndsAsItMay}
use Rattle.tk_engine_unit_events.specs.Nesting.{EventsNest}
use Rattle.tk_engine_unit_events.specs.Shapes.{ShapeView, frame, may_emit}
use Rattle.tk_engine_hierarchical.specs.StaticSteps.{FitsPlan}
use Rattle.tk_engine_unit_events.specs.Units.{StepsAs}
use Rattle.tk_engine_hierarchical.specs.TreeRuns.{IsOfUnitTree, TestRules, UnitWorker}

-- Which events a unit of the engine of a plan may emit for a worker, by the engine's shape, which
-- has the plan, and by what its tests promise.
abbrev pub may_of : ShapeView → TestRules → ℕ → ℕ → ℕ → List Event → Type 0
may_of shape rules unit worker earlier events =
    may_emit shape (FitsPlan shape.plan rules.may_end) unit worker earlier events
    × IsOfUnitTree shape.plan rules unit
    (record { worker = worker; earlier = earlier }) events

-- The record is that of a run of the engine of a plan by some workers, in which each unit emits
-- what it may.
abbrev pub IsRunOf : ShapeView → TestRules → Recorded → Type 0
IsRunOf shape rules r =
    (workers : ℕ)
    × IsRun (may_of shape rules) (frame shape).table (frame shape).before (frame shape).after
    (frame shape).units workers r

-- each finish of a static test has an outcome that the test may have, where a unit emitted it;
-- worker 0 emits the events around the units, which are the plan's
abbrev pub HasOutcomes : (ℕ → Outcome → Type 0) → Recorded → Type 0
HasOutcomes may_end r =
    All (λ x. 0 < x.worker → EndsAsItMay r.table may_end x.event) r.entries

-- each start, skip and finish of a static key that a unit emitted is what the plan says of it
abbrev pub FollowsPlan : Outline → (ℕ → Outcome → Type 0) → Recorded → Type 0
FollowsPlan plan may_end r =
    All (λ x. 0 < x.worker → StepsAs r.table (FitsPlan plan may_end) x.event) r.entries

-- the key has one start and then one finish, or one skip, or stands below a key that was skipped
abbrev pub HasTurn : Recorded → ℕ → Type 0
HasTurn r key =
    (steps_of key r.entries ≡ Started ∷ Finished ∷ [])
    ⊎ ((steps_of key r.entries ≡ Skipped ∷ []) ⊎ IsBelowSkipped r.table r.entries key)

-- each static key starts and finishes once, or is skipped once, or stands below a skipped key
abbrev pub HaveTurns : Recorded → Type 0
HaveTurns r = (key : ℕ) → key < length r.table → HasTurn r key

-- each key that a unit starts has its own events until it finishes
abbrev pub UnitsNest : Recorded → Type 0
UnitsNest r = (worker : ℕ) → 0 < worker → EventsNest r (of_worker worker r.entries)

-- a worker emitted in a row what a run of the unit's tree emits
pub record RanTree (plan : Outline) (rules : TestRules) (unit : ℕ) (r : Recorded) : Type 0 where
  pub by : UnitWorker
  pub is_worker : 0 < by.worker
  pub before : List Event
  pub events : List Event
  pub after : List Event
  pub emitted : of_worker by.worker r.entries ≡ before ++ events ++ after
  pub registered : registrations before ≡ by.earlier
  pub of_tree : IsOfUnitTree plan rules unit by events

-- of each unit a worker emitted in a row what a run of the unit's tree emits
abbrev pub UnitsRanTrees : Outline → TestRules → Recorded → Type 0
UnitsRanTrees plan rules r =
    (unit : ℕ) → unit < length (units_of (forest plan.nodes)) → RanTree plan rules unit r
