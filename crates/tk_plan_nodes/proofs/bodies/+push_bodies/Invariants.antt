use Rattle.std.proofs.Common.{◌≡◌, ◌++◌, drop}
use Rattle.std.specs.List.{flat_map}
use Rattle.tk_plan_nodes.specs.Bodies.{bodies_of}
use Rattle.tk_plan_nodes.proofs.bodies.+push_bodies.Given as goal

abbrev pub invariant-loop-child : goal.invariant-loop-child
invariant-loop-child l = l.numbers.items ++ flat_map bodies_of (drop l.child-index l.child-items) ≡ l.fn.numbers.items ++ bodies_of l.node
