-- The labels that a plan's moves give.
use Rattle.std.proofs.Common.{◌≡◌, ℕ, ◌+◌, ◌⊎◌, Bool, List, [], ◌∷◌, ◌++◌, map, filter, flat_map, slice_get, refl, sym, ap, ◌∙◌, subst, append_assoc, append-nil, if◌then◌else◌}
use Rattle.std.proofs.lemmas.List.{map-append}
use Rattle.std.proofs.lemmas.List.Elements.{filter-append}
use Rattle.tk_plan.specs.Cutting.{script_of}
use Rattle.tk_plan.specs.Numbers.{in_order}
use Rattle.tk_plan.specs.Script.{each_act, move, moves, moves_below, registration, stamped}
use Rattle.tk_plan.specs.StepEvents.{kind_of}
use Rattle.tk_plan.specs.Trees.{Forest, Tree, flat, flats, forest, more, no_trees, tree}
use Rattle.tk_plan.specs.declared.trees.nodes.Node.{Node}
use Rattle.tk_plan.specs.declared.trees.nodes.NumberedNode.{NumberedNode}
use Rattle.tk_plan.specs.declared.scripts.steps.Act.{Act}
use Rattle.tk_plan.specs.declared.scripts.steps.Act.TheVariants.{File, Report}
use Rattle.tk_plan.specs.declared.scripts.steps.Step.{Step}
use Rattle.tk_ids.specs.IdText.{SegmentView}
use Rattle.tk_report_text.specs.Labels.{Label}
use Rattle.tk_run_laws.proofs.Lists.{count}
use Rattle.tk_run_laws.specs.Scripts.{id_at, is_registration, payload_of_node}

abbrev ElementOf : {A : Type 0} → List A → Type 0
ElementOf {A} xs = A

-- what a plan's tree does, of a type that tk_plan keeps to itself
abbrev pub Move : Type 0
Move = ElementOf (moves_below 0 no_trees)

-- the label of what the node of a number does
abbrev pub act_label : List NumberedNode → ℕ → Act → Label
act_label all k a = record { id = id_at all k; kind = kind_of a; payload = payload_of_node (slice_get (in_order all) k) (id_at all k) a }

abbrev pub move_label : List NumberedNode → Move → Label
move_label all m = act_label all m.node m.act

abbrev pub step_label : List NumberedNode → Step → Label
step_label all s = act_label all s.node s.act

-- the labels of the root's script
abbrev pub plan_labels : List NumberedNode → List Label
plan_labels all = map (move_label all) (moves_below 0 (forest all))

pub labels_stamped : (all : List NumberedNode) (p : ℕ) (ms : List Move) → map (step_label all) (stamped p ms) ≡ map (move_label all) ms
labels_stamped all p [] = refl
labels_stamped all p (m ∷ ms) = ap (λ l. move_label all m ∷ l) (labels_stamped all (p + 1) ms)

-- the labels of the ids that pass
abbrev pub about : (List SegmentView → Bool) → List Label → List Label
about q ls = filter (λ l. q l.id) ls

-- the labels that moves of those ids give
abbrev pub shown : List NumberedNode → (List SegmentView → Bool) → List Move → List Label
shown all q ms = about q (map (move_label all) ms)

pub shown-append : (all : List NumberedNode) (q : List SegmentView → Bool) (xs ys : List Move) → shown all q (xs ++ ys) ≡ shown all q xs ++ shown all q ys
shown-append all q xs ys = ap (about q) (map-append (move_label all) xs ys) ∙ filter-append (λ l. q l.id) (map (move_label all) xs) (map (move_label all) ys)

-- what a tree does, after its registration
abbrev pub moves_in : ℕ → Tree → List Move
moves_in parent t = registration parent t ++ moves t

-- what some trees do is what the first does and then what the others do
pub shown_more : (all : List NumberedNode) (q : List SegmentView → Bool) (parent : ℕ) (t : Tree) (f : Forest)
    → shown all q (moves_below parent (more t f)) ≡ shown all q (moves_in parent t) ++ shown all q (moves_below parent f)
shown_more all q parent t f =
    ap (shown all q) (sym (append_assoc (registration parent t) (moves t) (moves_below parent f))) ∙ shown-append all q (moves_in parent t) (moves_below parent f)

-- ---- what a node publishes

abbrev pub publications : Node → ℕ → List Move
publications n k = each_act Report k 0 n.entries ++ each_act File k 0 n.files

acts_first : {A : Type 0} (P : List Move → Type 0) (act : ℕ → Act) (k : ℕ) → ((i : ℕ) (ms : List Move) → P ms → P (move k (act i) ∷ ms)) → (i : ℕ) (xs : List A) (ms : List Move) → P ms → P (each_act act k i xs ++ ms)
acts_first P act k next i [] ms h = h
acts_first P act k next i (x ∷ xs) ms h = next i (each_act act k (i + 1) xs ++ ms) (acts_first P act k next (i + 1) xs ms h)

-- what holds of some moves, and of each list with one entry or file of the node more, holds of those after all that it publishes
pub of_publications : (P : List Move → Type 0) (n : Node) (k : ℕ) → ((i : ℕ) (ms : List Move) → P ms → P (move k (Report i) ∷ ms)) → ((i : ℕ) (ms : List Move) → P ms → P (move k (File i) ∷ ms)) → P [] → P (publications n k)
of_publications P n k entry file none =
    acts_first P Report k entry 0 n.entries (each_act File k 0 n.files)
    (subst P (append-nil (each_act File k 0 n.files)) (acts_first P File k file 0 n.files [] none))

-- ---- nodes by their ids

-- how many of the nodes have an id that passes
abbrev pub count_ids : List NumberedNode → (List SegmentView → Bool) → List NumberedNode → ℕ
count_ids all q ps = count (λ p. q (id_at all p.number)) ps

-- none of the nodes has such an id
abbrev pub HasNone : List NumberedNode → (List SegmentView → Bool) → List NumberedNode → Type 0
HasNone all q ps = count_ids all q ps ≡ 0

-- of each node's children at most one has such an id in its tree
abbrev mutual
  pub IsChain : List NumberedNode → (List SegmentView → Bool) → Tree → Type 0
  IsChain all q (tree n k f) = IsChainBelow all q f

  pub IsChainBelow : List NumberedNode → (List SegmentView → Bool) → Forest → Type 0
  IsChainBelow all q no_trees = Unit {0}
  IsChainBelow all q (more t f) = (HasNone all q (flat t) × IsChainBelow all q f) ⊎ (IsChain all q t × HasNone all q (flats f))

-- each node's id is that of the node above it with its segment more
abbrev mutual
  pub IsBuilt : List NumberedNode → List SegmentView → Tree → Type 0
  IsBuilt all above (tree n k f) = (id_at all k ≡ above ++ n.segment ∷ []) × AreBuilt all (id_at all k) f

  pub AreBuilt : List NumberedNode → List SegmentView → Forest → Type 0
  AreBuilt all above no_trees = Unit {0}
  AreBuilt all above (more t f) = IsBuilt all above t × AreBuilt all above f

-- ---- registrations

-- the numbers of the nodes that are registered, in order
abbrev pub ids_emitted : List Step → List ℕ
ids_emitted ss = flat_map (λ s. if is_registration s.act then s.node ∷ [] else []) ss

-- those of some units
abbrev pub drawn_ids : List NumberedNode → List ℕ → List ℕ
drawn_ids all us = flat_map (λ u. ids_emitted (script_of (forest all) u)) us
