-- What a plan is made of, once its nodes have their numbers.
use Rattle.std.proofs.Common.{◌≡◌, ℕ, ◌*◌, ◌≤◌, List, ◌++◌, true, ◌&&◌, length, take, drop, sym, ap, ap₂, ◌∙◌, subst, arith, append-nil}
use Rattle.std.proofs.lemmas.List.{drop_all, take_all}
use Rattle.tk_base.specs.declared.limits.TheConstants.{MAX_EVENTS}
use Rattle.tk_ids.specs.declared.tables.TheConstants.{MAX_DESCRIPTORS}
use Rattle.tk_ids.specs.declared.descriptors.Descriptor.{Descriptor}
use Rattle.tk_plan.specs.declared.trees.nodes.NumberedNode.{NumberedNode}
use Rattle.tk_plan.specs.Trees.{Forest, no_trees, more, tree, forest, IsForest}
use Rattle.tk_plan.specs.Weights.{weights}
use Rattle.tk_plan.specs.Cutting.{all_static}
use Rattle.tk_plan.specs.Numbers.{numbered_from, numbered}
use Rattle.tk_plan.specs.Planned.{IsPlanned, is_rooted}
use Rattle.tk_plan.proofs.TreeMoves.{below-length}
use Rattle.tk_plan.proofs.TableDescriptors.{statics_length, few_nodes}
use Rattle.tk_plan.proofs.Numberings.{renumbered, numbered-length}

pub with_numbers : (items passed new : List NumberedNode) (table : List Descriptor) (n k : ℕ) → IsPlanned items table → n ≡ length items → k ≡ length table → passed ≡ items
    → new ≡ numbered_from 0 k passed → take n (new ++ drop (length new) items) ≡ numbered items
with_numbers items passed new table n k p size statics same e =
    let is : new ≡ numbered items = e ∙ ap₂ (λ s ps. numbered_from 0 s ps) (statics ∙ statics_length items table p) same in
    let long : length new ≡ length items = ap length is ∙ numbered-length items in
    ap (λ l. take n (new ++ l)) (drop_all (length new) items (omega (arith, long))) ∙ ap (take n) (append-nil new) ∙ take_all n new (omega (arith, long, size)) ∙ is

pub rooted_static : (f : Forest) → is_rooted f ≡ true → all_static f ≡ true
rooted_static no_trees e = absurd (grind arith)
rooted_static (more (tree n k g) no_trees) e = ap (λ b. b && true) e
rooted_static (more (tree n k g) (more t f)) e = absurd (grind arith)

-- what cutting asks of the nodes
pub record Ready (now : List NumberedNode) : Type 0 where
  pub trees : IsForest now
  pub statics : all_static (forest now) ≡ true
  pub few : length now ≤ 2 * MAX_DESCRIPTORS
  pub events : weights (forest now) ≤ MAX_EVENTS

pub ready : (items now : List NumberedNode) (table : List Descriptor) → IsPlanned items table → now ≡ numbered items → Ready now
ready items now table p e =
    let q = renumbered items table p in
    subst Ready (sym e) (record {
      trees = q.trees;
      statics = rooted_static (forest (numbered items)) q.root;
      few = few_nodes (numbered items) table q;
      events = omega (arith, q.few_events, below-length 0 (forest (numbered items)));
    })
