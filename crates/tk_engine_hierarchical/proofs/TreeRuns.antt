-- How a unit runs its tree, step by step.
use Rattle.std.proofs.Common.{◌≡◌, ◌+◌, ◌<◌, ◌≤◌, ℕ, List, [], ◌∷◌, take, drop}
use Rattle.std.proofs.Common.{get_or}
use Rattle.std.proofs.Common.{length, Option, None, Some, slice_get, refl, sym, ap₂, ◌∙◌, subst}
use Rattle.std.proofs.Common.{arith}
use Rattle.std.specs.Prelude.{IfNone, OnOk, Result, Ok, Err}
use Rattle.std.proofs.lemmas.List.{take_all}
use Rattle.tk_ids.specs.declared.descriptors.Descriptor.{Descriptor}
use Rattle.tk_events.specs.declared.events.Event.{Event}
use Rattle.tk_events.specs.declared.kinds.Kind.TheVariants.{Finished}
use Rattle.tk_events.specs.declared.outcomes.Outcome.{Outcome}
use Rattle.tk_events.specs.declared.payloads.Payload.TheVariants as payloads
use Rattle.tk_plan.specs.declared.trees.nodes.Node.{Node}
use Rattle.tk_plan.specs.declared.trees.nodes.NumberedNode.{NumberedNode}
use Rattle.tk_plan.specs.Cutting.{Piece, pieces_of}
use Rattle.tk_plan.specs.Planned.{Outline}
use Rattle.tk_plan.specs.Trees.{IsSplit, forest, grow, no_trees, tree_of}
use Rattle.tk_queue_session.specs.Senders.{SenderView}
use Rattle.tk_record.specs.Recorded.{Recorded}
use Rattle.tk_claims.specs.Run.{IsRun}
use Rattle.tk_engine_execute.specs.Engines.{ExtendsAs}
use Rattle.tk_engine_lifecycle.specs.Units.{KeepsAround, UnitsKeepLifecycle}
use Rattle.tk_engine_unit_events.specs.Endings.{IsStaticTest}
use Rattle.tk_engine_unit_events.specs.Events.{HasRun}
use Rattle.tk_engine_hierarchical.specs.Laws.{RanTree, may_of}
use Rattle.tk_engine_unit_events.specs.UnitSteps.{UnitView, event, begun}
use Rattle.tk_engine_unit_events.specs.Shapes.{ShapeView, frame, keys_in, may_emit}
use Rattle.tk_engine_hierarchical.specs.StaticSteps.{FitsPlan}
use Rattle.tk_engine_hierarchical.specs.steps.{MayStepAs}
use Rattle.tk_engine_unit_events.specs.Units.{RunsUnit}
use Rattle.tk_engine_hierarchical.specs.TreeRuns.{FinishesNode, PlanState, Publishes}
use Rattle.tk_engine_hierarchical.specs.TreeRuns.{RunsBody, RunsForest, RunsNode, RunsTree}
use Rattle.tk_engine_hierarchical.specs.TreeRuns.{RunsUnitTree, StartsNode, TestRules, TestRuns}
use Rattle.tk_engine_hierarchical.specs.TreeRuns.{plan_state}
use Rattle.tk_engine_hierarchical.specs.declared.planned_units.TestEnd.{TestEnd}
use Rattle.tk_engine_hierarchical.proofs.Nested.{of_worker_mid}
use Rattle.tk_engine_hierarchical.proofs.Recorded.{run_more, unit_ran}
use Rattle.tk_engine_unit_events.proofs.UnitSteps.{on_ok}

-- ---- a node

if_none : {X A B : Type 0} (o : Option X) → IfNone o A → (A → B) → IfNone o B
if_none None a f = f a
if_none (Some x) a f = tt

-- a node that is no test with a body may finish as the plan says
pub may_finish : (table : List Descriptor) (may_end : ℕ → Outcome → Type 0)
    (may_step : Event → Type 0) (p : NumberedNode) (key : ℕ) (end : Option TestEnd)
    → MayStepAs table may_end may_step p → p.node.skip ≡ None
    → (key < length table → key ≡ p.number) → IfNone end (¬ IsStaticTest table key)
    → IfNone end (key < length table → (stamp : ℕ)
    → may_step (event Finished key stamp (payloads.Outcome p.node.outcome)))
may_finish table may_end may_step p key end may runs own other =
    if_none end other
    (λ none low stamp. may
    (event Finished key stamp (payloads.Outcome p.node.outcome)) (own low)
    (record {
      starts = λ kind. runs;
      skipped = λ kind. absurd cc;
      ended = λ kind test. absurd (none test);
      planned = λ kind test. refl;
    }))

pub ran_node : {F : Type 0} (r : Result (Unit {0}) F) (table : List Descriptor) (may_run : TestRuns)
    (n : Node) (number key : ℕ) (below : PlanState → PlanState → Type 0)
    (old started : PlanState) (ran : UnitView) (end : Option TestEnd)
    (stood published left new : PlanState) → StartsNode n.is_static n number key old started
    → RunsBody table may_run key started.unit ran end
    → stood ≡ record started { unit = ran } → Publishes n key stood published
    → below published left
    → OnOk r (FinishesNode n key end left new)
    → OnOk r (RunsNode table may_run n number below old new)
ran_node r table may_run n number key below old started ran end stood published left new start body
    is publish children finish =
    on_ok r finish
    (λ f. record {
      key = key;
      started = started;
      start = start;
      ran = ran;
      end = end;
      body = body;
      published = published;
      publish = subst (λ s. Publishes n key s published) is publish;
      left = left;
      children = children;
      finish = f;
    })

-- ---- trees

first_of_rest : (p : NumberedNode) (m : ℕ) (rest : List NumberedNode) → p ≡ get_or rest 0 p
    → 1 ≤ length rest → length rest ≤ m + 1 → rest ≡ p ∷ take m (drop 1 rest)
first_of_rest p m [] is some few = absurd (omega (arith, some))
first_of_rest p m (x ∷ xs) is some few = ap₂ (λ a b. a ∷ b) (sym is)
    (sym (take_all m xs (omega (arith, few))))

none_left : (rest : List NumberedNode) → length rest < 1 → forest rest ≡ no_trees
unfolding forest grow
none_left [] few = refl
none_left (x ∷ xs) few = absurd (omega (arith, few))

module _ (table : List Descriptor) (may_run : TestRuns) where
  pub nothing_ran : (rest : List NumberedNode) (s : PlanState) → length rest < 1
      → RunsForest table may_run (forest rest) s s
  nothing_ran rest s few = subst (λ f. RunsForest table may_run f s s)
      (sym (none_left rest few)) refl

  -- the first tree ran, and then the others
  pub first_ran : (p : NumberedNode) (m : ℕ) (rest below others : List NumberedNode)
      (old mid new : PlanState) → p ≡ get_or rest 0 p → 1 ≤ length rest → length rest ≤ m + 1
      → IsSplit p (take m (drop 1 rest)) below others
      → RunsTree table may_run (tree_of p below) old mid
      → RunsForest table may_run (forest others) mid new
      → RunsForest table may_run (forest rest) old new
  first_ran p m rest below others old mid new is some few s first then =
      subst (λ ps. RunsForest table may_run (forest ps) old new)
      (sym (first_of_rest p m rest is some few))
      (subst (λ f. RunsForest table may_run f old new) (sym s.trees) (mid, first, then))

-- ---- a unit

-- what holds where the first call was well, which it was where the second one was
pub also_ok : {F : Type 0} (P : Type 0) (first second : Result (Unit {0}) F) → OnOk first P
    → ((why : F) → first ≡ Err why → second ≡ Err why) → OnOk second P
also_ok P (Ok _) (Ok _) h f = h
also_ok P (Ok _) (Err _) h f = tt
also_ok P (Err why) second h f = subst (λ r. OnOk r P) (sym (f why refl)) tt

-- a unit that was begun ran its tree
pub tree_ran : {F : Type 0} (played ended : Result (Unit {0}) F) (plan : Outline)
    (table : List Descriptor) (rules : TestRules) (unit : ℕ) (piece : Piece)
    (start now : SenderView)
    (old : UnitView) (left : PlanState) → plan.table ≡ table
    → slice_get (pieces_of (forest plan.nodes)) unit ≡ Some piece → old ≡ begun start
    → now ≡ left.unit.sink
    → OnOk played (RunsTree table rules.may_run piece.tree
    (plan_state old piece.first rules.is_timed) left)
    → ((why : F) → played ≡ Err why → ended ≡ Err why)
    → OnOk ended (RunsUnitTree plan rules unit start now)
tree_ran played ended plan table rules unit piece start now old left same its first last ran
    fault =
    also_ok (RunsUnitTree plan rules unit start now) played ended
    (on_ok played ran
    (λ r. record {
      piece = piece;
      its = its;
      left = left;
      ran = subst (λ t. RunsTree t rules.may_run piece.tree
          (plan_state (begun start) piece.first rules.is_timed) left) (sym same)
          (subst (λ u. RunsTree table rules.may_run piece.tree
          (plan_state u piece.first rules.is_timed) left) first r);
      sink = sym last;
    }))
    fault

-- what a unit emitted that ran its tree by one plan it emitted by another that is the same
pub ran_unit : {F : Type 0} (r : Result (Unit {0}) F) (p : Outline) (s : ShapeView)
    (rules : TestRules) (unit : ℕ) (old new : SenderView) → p ≡ s.plan → old.table ≡ s.plan.table
    → OnOk r (HasRun (frame s) (FitsPlan p rules.may_end) (keys_in s unit) old new)
    → OnOk r (RunsUnitTree p rules unit old new)
    → OnOk r (ExtendsAs (may_of s rules unit) old new)
ran_unit (Ok _) p s rules unit old new same over h t = (
  h.0,
  h.1,
  (
    subst (λ (o : Outline). RunsUnit (frame s) (FitsPlan o rules.may_end) (keys_in s unit)
        (record { worker = old.worker; events = h.0 })) same h.2,
    record {
      start = old;
      now = new;
      ran = subst (λ (o : Outline). RunsUnitTree o rules unit old new) same t;
      table = over;
      by = refl;
      earlier = refl;
      sent = h.1;
    },
  ),
)
ran_unit (Err _) p s rules unit old new same over h t = tt

-- ---- the record of a run

module _ (s : ShapeView) (rules : TestRules) where
  -- a run of the engine is one in which each unit emits what its shape allows
  pub run_by_shape : (workers : ℕ) (r : Recorded)
      → IsRun (may_of s rules) (frame s).table (frame s).before (frame s).after
      (frame s).units workers r
      → IsRun (may_emit s (FitsPlan s.plan rules.may_end)) (frame s).table (frame s).before
      (frame s).after (frame s).units workers r
  run_by_shape workers r run =
      run_more (may_of s rules) (may_emit s (FitsPlan s.plan rules.may_end)) (λ u w k l m. m.0)
      (frame s).table (frame s).before (frame s).after (frame s).units workers r run

  pub kept_trees : KeepsAround (frame s) → UnitsKeepLifecycle (frame s) (may_of s rules)
  kept_trees around = record
      { around = around; each = λ unit worker earlier events low runs. runs.0.keeps }

  -- in the record of a run each unit's tree was run
  pub ran_trees : (workers : ℕ) (r : Recorded)
      → IsRun (may_of s rules) (frame s).table (frame s).before (frame s).after
      (frame s).units workers r
      → (unit : ℕ) → unit < (frame s).units → RanTree s.plan rules unit r
  ran_trees workers r run unit low =
      let ran = unit_ran (may_of s rules) (frame s).units workers run.mid run.shared unit low in
      record {
        by = record { worker = ran.worker; earlier = ran.k };
        is_worker = ran.is_worker;
        before = ran.earlier;
        events = ran.list;
        after = ran.later;
        emitted = of_worker_mid (may_of s rules) (frame s).table (frame s).before (frame s).after
            (frame s).units workers r run ran.worker ran.is_worker ∙ ran.whole;
        registered = ran.counted;
        of_tree = ran.may_be.1;
      }
