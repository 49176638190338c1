use Rattle.std.proofs.Common.{◌≡◌, arith, ap, length, refl, subst}
use Rattle.tk_plan.specs.Trees.{tree_of}
use Rattle.tk_engine_unit_events.proofs.UnitsOfKeys.{OwnedSoFar, all_owned, count_units_of}
use Rattle.tk_engine_unit_events.proofs.UnitsOfKeys.{end_exact, first_before_end, next_owned}
use Rattle.tk_engine_unit_events.proofs.shapes.owners_of.Goals as goal

pub set_owner-requires-clause-order : goal.set_owner-requires-clause-order
set_owner-requires-clause-order c =
    let plan = c.args.plan.now in
    let t = tree_of c.unit_tree-tree.result.top.now c.unit_tree-tree.result.below.now in
    let places = c.spine.ensures.places plan.nodes plan.table c.table.ensures.planned
    c.table.ensures.numbered in
    let exact = end_exact plan c.loop-unit.unit c.end_of_keys.result _ c.table.ensures.planned
    places c.unit_tree-tree.ensures.piece c.end_of_keys.ensures in
    let before = first_before_end t in
    omega (arith, exact, before)

pub set_owner-requires-clause-within : goal.set_owner-requires-clause-within
set_owner-requires-clause-within c =
    let plan = c.args.plan.now in
    let places = c.spine.ensures.places plan.nodes plan.table c.table.ensures.planned
    c.table.ensures.numbered in
    let exact = end_exact plan c.loop-unit.unit c.end_of_keys.result _ c.table.ensures.planned
    places c.unit_tree-tree.ensures.piece c.end_of_keys.ensures in
    let within = places.within c.loop-unit.unit _ c.unit_tree-tree.ensures.piece in
    let count = c.loop-unit.invariant.count in
    omega (arith, exact, within, count)

pub loop-unit-preserved : goal.loop-unit-preserved
loop-unit-preserved c =
    let plan = c.args.plan.now in
    let places = c.spine.ensures.places plan.nodes plan.table c.table.ensures.planned
    c.table.ensures.numbered in
    let its = c.unit_tree-tree.ensures.piece in
    next_owned plan c.loop-unit.unit c.loop-unit.owners.items c.set_owner.new.owners.items _
    c.unit_tree-tree.result.top.now.number c.end_of_keys.result c.loop-unit.invariant its refl
    (end_exact plan c.loop-unit.unit c.end_of_keys.result _ c.table.ensures.planned places its
    c.end_of_keys.ensures)
    (record {
      count = c.set_owner.ensures.count;
      own = c.set_owner.ensures.own;
      before = c.set_owner.ensures.before;
      after = c.set_owner.ensures.after;
    })

pub returns : goal.returns
returns c =
    let plan = c.args.plan.now in
    let places = c.spine.ensures.places plan.nodes plan.table c.table.ensures.planned
    c.table.ensures.numbered in
    let units : length c.units.result.now ≡ count_units_of plan = ap length c.units.ensures.units in
    let few = c.units.ensures.few in
    let past = c.loop-unit-test.false in
    let end = c.loop-unit.auto.unit-end in
    let all : c.loop-unit.unit ≡ count_units_of plan = omega (arith, units, few, past, end) in
    all_owned plan c.loop-unit.owners.items places
    (subst (λ n. OwnedSoFar plan n c.loop-unit.owners.items) all c.loop-unit.invariant)
