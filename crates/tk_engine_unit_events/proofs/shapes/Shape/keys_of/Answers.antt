use Rattle.std.proofs.Common.{refl, ap}
use Rattle.tk_engine_unit_events.specs.Shapes.{ShapeView}
use Rattle.tk_engine_unit_events.proofs.UnitsOfKeys.{end_exact}
use Rattle.tk_engine_unit_events.proofs.Shaped.{keys_are}
use Rattle.tk_engine_unit_events.proofs.shapes.Shape.keys_of.Goals as goal

pub returns : goal.returns
returns c =
    let plan = c.self.inside.plan in
    let its = c.unit_tree-tree.ensures.piece in
    let planned = c.table-table.ensures.planned in
    let places = c.spine.ensures.places plan.nodes plan.table planned c.table-table.ensures.numbered
    in
    keys_are c.args.self.now plan c.args.unit c.unit_tree-tree.result.top.now.number
    c.end_of_keys.result _ (ap (λ (v : ShapeView). v.plan) c.self.view_is) its refl
    (end_exact plan c.args.unit c.end_of_keys.result _ planned places its c.end_of_keys.ensures)
