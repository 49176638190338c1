-- What a tree does.
use Rattle.std.specs.Prelude.{ℕ, ◌+◌, List, [], ◌∷◌, ◌++◌, is_some, if◌then◌else◌}
use Rattle.tk_plan.specs.declared.trees.nodes.Node.{Node}
use Rattle.tk_plan.specs.declared.scripts.steps.Act.{Act}
use Rattle.tk_plan.specs.declared.scripts.steps.Act.TheVariants.{Register, Skip, Start}
use Rattle.tk_plan.specs.declared.scripts.steps.Act.TheVariants.{Report, File}
use Rattle.tk_plan.specs.declared.scripts.steps.Act.TheVariants.{Finish}
use Rattle.tk_plan.specs.declared.scripts.steps.Move.{Move}
use Rattle.tk_plan.specs.declared.scripts.steps.Step.{Step}
use Rattle.tk_plan.specs.Trees.{Tree, tree, Forest, no_trees, more}

abbrev pub move : ℕ → Act → Move
move k a = record { node = k; act = a }

-- an act for each of some things, by their numbers from a first one on
abbrev pub each_act : {A : Type 0} → (ℕ → Act) → ℕ → ℕ → List A → List Move
each_act act k i [] = []
each_act act k i (x ∷ xs) = move k (act i) ∷ each_act act k (i + 1) xs

-- a node's start, then its entries in order, then its files in order
abbrev pub opening : Node → ℕ → List Move
opening n k = move k Start ∷ (each_act Report k 0 n.entries ++ each_act File k 0 n.files)

-- a dynamic child is registered first
abbrev pub registration : ℕ → Tree → List Move
registration parent (tree n k f) = if n.is_static then [] else move k (Register parent) ∷ []

-- A skipped node gives one skip; any other its start, its entries, its files, what its children
-- give, and its finish.
abbrev mutual
  pub moves : Tree → List Move
  moves (tree n k f) =
      if is_some n.skip then move k Skip ∷ []
      else opening n k ++ (moves_below k f ++ move k Finish ∷ [])

  pub moves_below : ℕ → Forest → List Move
  moves_below parent no_trees = []
  moves_below parent (more t f) = registration parent t ++ (moves t ++ moves_below parent f)

-- moves with their positions, from a first one on
abbrev pub stamped : ℕ → List Move → List Step
stamped i [] = []
stamped i (m ∷ ms) = record { node = m.node; stamp = i; act = m.act } ∷ stamped (i + 1) ms
