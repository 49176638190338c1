-- How a dynamic node starts, and how it is skipped.
use Rattle.std.proofs.Common.{◌≡◌, ℕ, Bool, false, List, Option, sym, ap, ◌∙◌, subst}
use Rattle.std.specs.Prelude.{IfOk, OnOk, Result, Ok, Err, None}
use Rattle.tk_events.specs.declared.kinds.Kind.TheVariants.{Skipped, Started}
use Rattle.tk_events.specs.declared.payloads.Payload.TheVariants as payloads
use Rattle.tk_plan.specs.declared.trees.nodes.Node.{Node}
use Rattle.tk_engine_unit_events.specs.UnitSteps.{ChildView, HasSkipped, HasStarted, UnitView}
use Rattle.tk_engine_unit_events.specs.UnitSteps.{child_request, event}
use Rattle.tk_engine_unit_events.proofs.UnitSteps.{on_ok}
use Rattle.tk_engine_hierarchical.specs.TreeRuns.{IsNextStamp, PlanState, SkipsNode, StartsNode}
use Rattle.tk_engine_hierarchical.specs.TreeRuns.{after_next, after_position, before_body}
use Rattle.tk_engine_hierarchical.specs.TreeRuns.{body_stamp, child_of_node, plan_state}

if_ok : {T F : Type 0} (P Q : T → Type 0) (r : Result T F) → IfOk r P → ((x : T) → P x → Q x)
    → IfOk r Q
if_ok P Q (Ok x) a f = f x a
if_ok P Q (Err why) a f = tt

-- a test begins that started at this stamp
begins : (p : PlanState) (events before : UnitView) (published : Option ℕ) (stamp : ℕ)
    → events ≡ p.unit → published ≡ body_stamp p.is_timed stamp
    → before ≡ record events { stamp = published; own_stamp = None }
    → before ≡ before_body p stamp
begins p events before published stamp same was set =
    set ∙ ap (λ (u : UnitView). record u { stamp = published; own_stamp = None }) same
    ∙ ap (λ o. record p.unit { stamp = o; own_stamp = None }) was

module _ (is_static : Bool) (n : Node) (number : ℕ) (old first second : PlanState)
    (events after : UnitView) (next : ℕ) (timed : Bool) (registered stamp : ℕ) (c : ChildView)
    (dynamic : is_static ≡ false) (stamped : IsNextStamp old registered)
    (one : first ≡ after_position old) (then : IsNextStamp first stamp)
    (two : second ≡ after_position first)
    (now : plan_state events next timed ≡ second) (its : c ≡ child_of_node n) where
  was_second : second ≡ after_position (after_position old)
  was_second = two ∙ ap after_position one

  state_is : plan_state events next timed ≡ after_position (after_position old)
  state_is = now ∙ was_second

  unit_is : events ≡ old.unit
  unit_is = ap (λ (p : PlanState). p.unit) state_is

  second_stamp : IsNextStamp (after_position old) stamp
  second_stamp = subst (λ p. IsNextStamp p stamp) one then

  next_is : plan_state after next timed ≡ after_position (after_next old after)
  next_is = ap (λ (p : PlanState). record p { unit = after }) state_is

  pub starts_dynamic : {F : Type 0} (r : Result ℕ F) (before : UnitView) (published : Option ℕ)
      → published ≡ body_stamp second.is_timed stamp
      → before ≡ record events { stamp = published; own_stamp = None }
      → IfOk r (λ key. (above : ℕ)
      × HasStarted before after (child_request c above registered)
      (event Started key stamp payloads.Nothing))
      → IfOk r (λ key. StartsNode is_static n number key old (plan_state after next timed))
  starts_dynamic r before published was set started =
      let begun = begins old events before published stamp unit_is
      (was ∙ ap (λ (p : PlanState). body_stamp p.is_timed stamp) was_second) set in
      if_ok (λ key. (above : ℕ)
      × HasStarted before after (child_request c above registered)
      (event Started key stamp payloads.Nothing))
      (λ key. StartsNode is_static n number key old (plan_state after next timed)) r started
      (λ key s.
      subst (λ b. StartsNode b n number key old (plan_state after next timed)) (sym dynamic)
      (record {
        registered = registered;
        first = stamped;
        stamp = stamp;
        second = second_stamp;
        above = s.0;
        start = subst (λ u. HasStarted u after (child_request (child_of_node n) s.0 registered)
            (event Started key stamp payloads.Nothing)) begun
            (subst (λ d. HasStarted before after (child_request d s.0 registered)
            (event Started key stamp payloads.Nothing)) its s.1);
        next = next_is;
      }))

  pub skips_dynamic : {F : Type 0} (r : Result (Unit {0}) F) (text reason : List ℕ) → text ≡ reason
      → OnOk r ((above : ℕ) × (key : ℕ)
      × HasSkipped events after (child_request c above registered)
      (event Skipped key stamp (payloads.Reason text)))
      → OnOk r (SkipsNode is_static n number reason old (plan_state after next timed))
  skips_dynamic r text reason same skipped =
      on_ok r skipped
      (λ s.
      subst (λ b. SkipsNode b n number reason old (plan_state after next timed)) (sym dynamic)
      (record {
        registered = registered;
        first = stamped;
        stamp = stamp;
        second = second_stamp;
        above = s.0;
        key = s.1;
        skip = subst (λ u. HasSkipped u after (child_request (child_of_node n) s.0 registered)
            (event Skipped s.1 stamp (payloads.Reason reason))) unit_is
            (subst (λ d. HasSkipped events after (child_request d s.0 registered)
            (event Skipped s.1 stamp (payloads.Reason reason))) its
            (subst (λ t. HasSkipped events after (child_request c s.0 registered)
            (event Skipped s.1 stamp (payloads.Reason t))) same s.2));
        next = next_is;
      }))
