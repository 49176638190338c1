-- What clauses cite of plans and their reports.
pub use Rattle.tk_plan.specs.Cutting.{after_of, before_of, pieces_of, root_script, script_of}
pub use Rattle.tk_plan.specs.Cutting.{spine_of, units_of}
pub use Rattle.tk_plan.specs.Events.{AreStatic}
pub use Rattle.tk_plan.specs.Keys.{lock_keys}
pub use Rattle.tk_plan.specs.Known.{IsKnown}
pub use Rattle.tk_plan.specs.Masks.{need_of}
pub use Rattle.tk_plan.specs.Numbers.{IsNumbered, entry_of, in_order, numbered, path_of}
pub use Rattle.tk_plan.specs.Parents.{AreParents, parents_below}
pub use Rattle.tk_plan.specs.Planned.{IsNeedOf, IsPlanned, IsWithin, need_word}
pub use Rattle.tk_plan.specs.Script.{moves_below}
pub use Rattle.tk_plan.specs.StepEvents.{payload_of}
pub use Rattle.tk_plan.specs.Trees.{IsForest, contents, forest}
pub use Rattle.tk_plan_nodes.specs.Bodies.{bodies_of, body_at}
pub use Rattle.tk_plan_nodes.specs.BodyCalls.{AreCalled, IsBodiesFault, calls_of}
pub use Rattle.tk_plan_nodes.specs.NodeJson.{plan_data}
pub use Rattle.tk_plan_nodes.specs.NodeViews.{node_view, plain}
pub use Rattle.tk_plan_reading.specs.FaultyNodes.{HasNode, faulty_id}
pub use Rattle.tk_plan_reading.specs.PlanAnswers.{Answered, without_node}
pub use Rattle.tk_plan_reading.specs.PlanOf.{PlanOf}
pub use Rattle.tk_plan_runs.specs.Answers.{IsRunReport}
