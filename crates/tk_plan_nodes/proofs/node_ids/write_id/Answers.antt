use Rattle.std.proofs.Common.{[], sym, ◌∙◌}
use Rattle.tk_plan_nodes.specs.NodeIds.{ids_after}
use Rattle.tk_plan_nodes.proofs.NodeSearches.{get_found, get_nothing}
use Rattle.tk_plan_nodes.proofs.node_ids.write_id.Goals as goal

pub returns-in-Found : goal.returns-in-Found
returns-in-Found c = sym (get_found (ids_after c.args.root.now []) c.args.number c.in-Found.id (sym c.in-Found.is ∙ c.in_ok-id.ensures))

pub returns-in-Left : goal.returns-in-Left
returns-in-Left c = sym (get_nothing (ids_after c.args.root.now []) c.args.number c.in-Left.field-0 (sym c.in-Left.is ∙ c.in_ok-id.ensures))
