-- What a step requires of its node.
use Rattle.std.specs.Prelude.{◌≡◌, ℕ, ◌<◌, List, Some, IsSome, false, length, slice_get}
use Rattle.tk_plan.specs.declared.trees.nodes.Node.{Node}
use Rattle.tk_plan.specs.declared.trees.nodes.NumberedNode.{NumberedNode}
use Rattle.tk_plan.specs.declared.scripts.steps.Act.{Act}
use Rattle.tk_plan.specs.declared.scripts.steps.Act.TheVariants.{Register, Skip, Start}
use Rattle.tk_plan.specs.declared.scripts.steps.Act.TheVariants.{Report, File}
use Rattle.tk_plan.specs.declared.scripts.steps.Act.TheVariants.{Finish}
use Rattle.tk_plan.specs.Numbers.{in_order}

-- Only a dynamic node is registered, below a node that there is; what is skipped has a reason; a
-- report is one of the node's entries, a file one of its files.
abbrev pub Does : List NumberedNode → Node → Act → Type 0
Does nodes n (Register parent) = (n.is_static ≡ false) × (parent < length nodes)
Does nodes n Skip = IsSome n.skip
Does nodes n Start = Unit {0}
Does nodes n (Report i) = IsSome (slice_get n.entries i)
Does nodes n (File i) = IsSome (slice_get n.files i)
Does nodes n Finish = Unit {0}

-- there is a node of that number, and it may do that
pub record IsKnown (nodes : List NumberedNode) (number : ℕ) (act : Act) : Type 0 where
  pub node : Node
  pub is : slice_get (in_order nodes) number ≡ Some node
  pub within : number < length nodes
  pub does : Does nodes node act
