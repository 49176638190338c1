use Rattle.std.proofs.Common.{◌-◌, ◌+◌, ◌*◌, map}
use Rattle.serde_json.specs.View.{view}
use Rattle.tk_plan_json.specs.steps.CodeValues.{array_at}
use Rattle.tk_plan_json.specs.NodeInputs.{node_inputs_in}
use Rattle.tk_plan_json.proofs.NodeSteps.{Goes, Met}
use Rattle.tk_plan_json.proofs.node_reading.+reading.Given as goal

abbrev pub decreases-read_all : goal.decreases-read_all
decreases-read_all l = 3 * (60 - l.parent.level) + 1

abbrev pub decreases-read_node : goal.decreases-read_node
decreases-read_node l = 3 * (61 - l.place.level)

abbrev pub decreases-read_below : goal.decreases-read_below
decreases-read_below l = 3 * (60 - l.place.level) + 2

abbrev pub invariant-read_all-loop-index : goal.invariant-read_all-loop-index
invariant-read_all-loop-index l =
    Goes (60 - l.parent.level) l.id l.initial.read l.read
    (node_inputs_in (array_at l.parent l.member l.id) 0 l.initial.siblings (map view l.fn.values.items))
    (node_inputs_in (array_at l.parent l.member l.id) l.index-iterator.count l.siblings (map view l.index-iterator.iter.rest.items))
    × Met l.initial.siblings l.siblings (map view l.fn.values.items) (map view l.index-iterator.iter.rest.items)
