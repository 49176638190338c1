-- How a unit runs the tree of its nodes.
use Rattle.std.specs.Prelude.{◌≡◌, ℕ, ◌+◌, ◌-◌, ◌^◌, min, Bool, true, false, List, [], ◌∷◌, ◌++◌}
use Rattle.std.specs.Prelude.{Option, Some, None, slice_get, unwrap_or}
use Rattle.tk_ids.specs.declared.descriptors.Descriptor.{Descriptor}
use Rattle.tk_events.specs.declared.events.Event.{Event}
use Rattle.tk_events.specs.declared.kinds.Kind.{Kind}
use Rattle.tk_events.specs.declared.kinds.Kind.TheVariants.{File, Finished, Reporting}
use Rattle.tk_events.specs.declared.kinds.Kind.TheVariants.{Skipped, Started}
use Rattle.tk_events.specs.declared.outcomes.Outcome.{Outcome}
use Rattle.tk_events.specs.declared.payloads.Payload.{Payload}
use Rattle.tk_events.specs.declared.payloads.Payload.TheVariants as payloads
use Rattle.tk_plan.specs.declared.trees.nodes.Node.{Node}
use Rattle.tk_plan.specs.Cutting.{Piece, pieces_of}
use Rattle.tk_plan.specs.Planned.{Outline}
use Rattle.tk_plan.specs.Trees.{Forest, Tree, forest, more, no_trees, tree}
use Rattle.tk_queue_session.specs.Emission.{registrations}
use Rattle.tk_queue_session.specs.Senders.{SenderView}
use Rattle.tk_engine_execute.specs.Engines.{Extends}
use Rattle.tk_engine_unit_events.specs.Endings.{IsStaticTest}
use Rattle.tk_engine_unit_events.specs.UnitSteps.{BodyRuns, ChildView, HasFinished, HasSkipped}
use Rattle.tk_engine_unit_events.specs.UnitSteps.{HasStarted, UnitView, after_event, after_start}
use Rattle.tk_engine_unit_events.specs.UnitSteps.{begun, child, child_request, event}
use Rattle.tk_engine_hierarchical.specs.declared.planned_units.TestEnd.{TestEnd}

-- how the body of each static test may run, by the test's key
abbrev pub TestRuns : Type 1
TestRuns = ℕ → BodyRuns

-- The rules of an engine of tests: whether a clock gives the stamps; and what the tests promise, by
-- their keys: with which outcomes each may end, and how its body may run.
pub record TestRules : Type 1 where
  pub is_timed : Bool
  pub may_end : ℕ → Outcome → Type 0
  pub may_run : TestRuns

abbrev pub test_rules : Bool → (ℕ → Outcome → Type 0) → TestRuns → TestRules
test_rules is_timed may_end may_run =
    record { is_timed = is_timed; may_end = may_end; may_run = may_run }

-- where a unit stands, the position of its next event in the root's script, and whether a clock
-- gives the stamps
pub record PlanState : Type 0 where
  pub unit : UnitView
  pub next : ℕ
  pub is_timed : Bool

abbrev pub plan_state : UnitView → ℕ → Bool → PlanState
plan_state unit next is_timed = record { unit = unit; next = next; is_timed = is_timed }

-- positions count up; the greatest one is followed by itself
abbrev pub position_after : ℕ → ℕ
position_after position = min (position + 1) (2 ^ 64 - 1)

-- one event more has its position
abbrev pub after_position : PlanState → PlanState
after_position p = record p { next = position_after p.next }

-- the unit stands there, after the next event
abbrev pub after_next : PlanState → UnitView → PlanState
after_next p u = after_position (record p { unit = u })

-- the stamp of the next event is its position, where no clock gives it
abbrev pub IsNextStamp : PlanState → ℕ → Type 0
IsNextStamp p stamp = p.is_timed ≡ false → stamp ≡ p.next

-- A body publishes at the stamp of its test's start, until it sets its own. Where a clock gives the
-- stamps, it publishes at what the clock reads.
abbrev pub body_stamp : Bool → ℕ → Option ℕ
body_stamp true stamp = None
body_stamp false stamp = Some stamp

-- a test begins that started at this stamp
abbrev pub before_body : PlanState → ℕ → UnitView
before_body p stamp = record p.unit { stamp = body_stamp p.is_timed stamp; own_stamp = None }

-- the key's event was emitted next, and nothing else happened
abbrev pub EmitsNext : Kind → ℕ → Payload → PlanState → PlanState → Type 0
EmitsNext kind key payload old new =
    (stamp : ℕ) × IsNextStamp old stamp
    × (new ≡ after_next old (after_event old.unit (event kind key stamp payload)))

-- the items led from one state to another, in their order, where `step` says what one of them does
abbrev pub EmitsEach :
    {A : Type 0} → (A → PlanState → PlanState → Type 0) → List A → PlanState → PlanState → Type 0
EmitsEach step [] old new = new ≡ old
EmitsEach step (x ∷ xs) old new = (mid : PlanState) × step x old mid × EmitsEach step xs mid new

-- the entries were published
abbrev pub PublishesEntries : List (List (List ℕ × List ℕ)) → ℕ → PlanState → PlanState → Type 0
PublishesEntries entries key =
    EmitsEach (λ pairs. EmitsNext Reporting key (payloads.Report pairs)) entries

-- the files were published
abbrev pub PublishesFiles : List (List ℕ) → ℕ → PlanState → PlanState → Type 0
PublishesFiles files key = EmitsEach (λ path. EmitsNext File key (payloads.Path path)) files

-- the node's entries were published, and then its files
abbrev pub Publishes : Node → ℕ → PlanState → PlanState → Type 0
Publishes n key old new =
    (mid : PlanState) × PublishesEntries n.entries key old mid × PublishesFiles n.files key mid new

-- what is registered for a dynamic node
abbrev pub child_of_node : Node → ChildView
child_of_node n = child n.dtype n.segment n.name

-- A dynamic node was registered at one stamp, and started at the next.
pub record StartsDynamic (n : Node) (key : ℕ) (old new : PlanState) : Type 0 where
  pub registered : ℕ
  pub first : IsNextStamp old registered
  pub stamp : ℕ
  pub second : IsNextStamp (after_position old) stamp
  pub above : ℕ
  pub start : HasStarted (before_body old stamp) new.unit
      (child_request (child_of_node n) above registered)
      (event Started key stamp payloads.Nothing)
  pub next : new ≡ after_position (after_next old new.unit)

-- A dynamic node was registered at one stamp, and skipped at the next.
pub record SkipsDynamic (n : Node) (reason : List ℕ) (old new : PlanState) : Type 0 where
  pub registered : ℕ
  pub first : IsNextStamp old registered
  pub stamp : ℕ
  pub second : IsNextStamp (after_position old) stamp
  pub above : ℕ
  pub key : ℕ
  pub skip : HasSkipped old.unit new.unit
      (child_request (child_of_node n) above registered)
      (event Skipped key stamp (payloads.Reason reason))
  pub next : new ≡ after_position (after_next old new.unit)

-- a static node starts under its number; any other is registered first
abbrev pub StartsNode : Bool → Node → ℕ → ℕ → PlanState → PlanState → Type 0
StartsNode true n number key old new =
    (key ≡ number)
    × (stamp : ℕ) × IsNextStamp old stamp
    × (new ≡ after_next old
    (after_start (before_body old stamp) (event Started number stamp payloads.Nothing)))
StartsNode false n number key old new = StartsDynamic n key old new

-- a static node is skipped under its number; any other is registered first
abbrev pub SkipsNode : Bool → Node → ℕ → List ℕ → PlanState → PlanState → Type 0
SkipsNode true n number reason old new =
    EmitsNext Skipped number (payloads.Reason reason) old new
SkipsNode false n number reason old new = SkipsDynamic n reason old new

-- the key finished next, with this outcome, at the stamp that its body set, where it set one
pub record FinishesNext (key : ℕ) (own : Option ℕ) (outcome : Outcome) (old new : PlanState) :
    Type 0 where
  pub stamp : ℕ
  pub stamped : IsNextStamp old stamp
  pub finish : HasFinished old.unit new.unit
      (event Finished key (unwrap_or own stamp) (payloads.Outcome outcome))
  pub next : new ≡ after_next old new.unit

-- a test with a body finishes with its outcome, at the stamp that it set, or else at the next one;
-- any other node finishes as the plan says
abbrev pub FinishesNode : Node → ℕ → Option TestEnd → PlanState → PlanState → Type 0
FinishesNode n key (Some end) old new = FinishesNext key end.stamp end.outcome old new
FinishesNode n key None old new = FinishesNext key None n.outcome old new

module _ (table : List Descriptor) (may_run : TestRuns) where
  -- the static test with this key ran its body once, which ended so and published after what was
  -- there
  pub record RunsTest (key : ℕ) (old new : UnitView) (end : TestEnd) : Type 0 where
    pub test : IsStaticTest table key
    pub later : Extends old.sink new.sink
    pub ran : may_run key old new end.outcome
    pub stamp : end.stamp ≡ new.own_stamp

  -- a static test ran its body; any other node did nothing
  abbrev pub RunsBody : ℕ → UnitView → UnitView → Option TestEnd → Type 0
  RunsBody key old new (Some end) = RunsTest key old new end
  RunsBody key old new None = (¬ IsStaticTest table key) × (new ≡ old)

  -- A node that isn't skipped starts, runs its body where it is a static test, publishes its
  -- entries and files, runs the nodes below it, and finishes: in this order, and nothing else.
  -- So each static node has its turn once, and what stands between is of the nodes below
  -- (`HaveTurns`, `UnitsNest`).
  pub record RunsNode (n : Node) (number : ℕ) (below : PlanState → PlanState → Type 0)
      (old new : PlanState) : Type 0 where
    pub key : ℕ
    pub started : PlanState
    pub start : StartsNode n.is_static n number key old started
    pub ran : UnitView
    pub end : Option TestEnd
    pub body : RunsBody key started.unit ran end
    pub published : PlanState
    pub publish : Publishes n key (record started { unit = ran }) published
    pub left : PlanState
    pub children : below published left
    pub finish : FinishesNode n key end left new

  -- a node with a reason is skipped, and nothing below it runs; any other node runs
  abbrev pub RunsOrSkips :
      Option (List ℕ) → Node → ℕ → (PlanState → PlanState → Type 0) → PlanState → PlanState
      → Type 0
  RunsOrSkips (Some reason) n number below old new =
      SkipsNode n.is_static n number reason old new
  RunsOrSkips None n number below old new = RunsNode n number below old new

  -- a tree runs from its top node on, and the trees of a forest run one after another
  abbrev mutual
    pub RunsTree : Tree → PlanState → PlanState → Type 0
    RunsTree (tree n number below) old new =
        RunsOrSkips n.skip n number (λ a b. RunsForest below a b) old new

    pub RunsForest : Forest → PlanState → PlanState → Type 0
    RunsForest no_trees old new = new ≡ old
    RunsForest (more t others) old new =
        (mid : PlanState) × RunsTree t old mid × RunsForest others mid new

-- The unit of this number ran its tree, from one sink to another, and from the position that its
-- first event has in the root's script.
pub record RunsUnitTree (plan : Outline) (rules : TestRules) (unit : ℕ) (start now : SenderView) :
    Type 0 where
  pub piece : Piece
  pub its : slice_get (pieces_of (forest plan.nodes)) unit ≡ Some piece
  pub left : PlanState
  pub ran : RunsTree plan.table rules.may_run piece.tree
      (plan_state (begun start) piece.first rules.is_timed) left
  pub sink : left.unit.sink ≡ now

-- a worker, and how many descriptors it had registered before
pub record UnitWorker : Type 0 where
  pub worker : ℕ
  pub earlier : ℕ

-- the events are those that a worker emits which runs the tree of the unit
pub record IsOfUnitTree (plan : Outline) (rules : TestRules) (unit : ℕ) (w : UnitWorker)
    (events : List Event) : Type 0 where
  pub start : SenderView
  pub now : SenderView
  pub ran : RunsUnitTree plan rules unit start now
  pub table : start.table ≡ plan.table
  pub by : start.worker ≡ w.worker
  pub earlier : registrations start.sent ≡ w.earlier
  pub sent : now.sent ≡ start.sent ++ events
