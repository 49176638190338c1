-- Verdicts of some nodes after others.
use Rattle.std.proofs.Common.{◌≡◌, ℕ, zero, suc, List, [], ◌∷◌, ◌++◌, map, flat_map, length, Option, Some, None, option_map, refl, sym, ap, ap₂, ◌∙◌, append_assoc, append-nil}
use Rattle.std.proofs.lemmas.List.{map-append}
use Rattle.std.specs.Option.{option_or}
use Rattle.tk_base.proofs.Options.{option_or-assoc}
use Rattle.tk_ids.specs.IdText.{SegmentView}
use Rattle.tk_plan.specs.declared.trees.nodes.Node.{Node}
use Rattle.tk_plan.specs.Trees.{Tree, flat, flats, contents}
use Rattle.tk_plan.specs.Ids.{descriptors, descriptors_below}
use Rattle.tk_plan_json.specs.Checks.{first}
use Rattle.tk_plan_json.specs.NodeInputs.{NodeInput, node_of, below, node_inputs, forest_of, grown}
use Rattle.tk_plan_json.specs.Verdicts.{checks, joined, verdict, located, at_node}
use Rattle.tk_plan_json.specs.declared.faults.PlanFault.{PlanFault}
use Rattle.tk_plan_json.specs.declared.node_faults.NodeFault.{NodeFault}

first-append : {A : Type 0} (xs ys : List (Option A)) → first (xs ++ ys) ≡ option_or (first xs) (first ys)
first-append [] ys = refl
first-append (x ∷ xs) ys = ap (option_or x) (first-append xs ys) ∙ sym (option_or-assoc x (first xs) (first ys))

joined-append : (before : List Node) (xs ys : List NodeInput) → joined before (xs ++ ys) ≡ joined before xs ++ joined (before ++ map node_of xs) ys
unfolding joined
joined-append before [] ys = ap (λ b. joined b ys) (sym (append-nil before))
joined-append before (x ∷ xs) ys =
    ap (λ l. checks before x ++ l) (joined-append (before ++ node_of x ∷ []) xs ys ∙ ap (λ b. joined (before ++ node_of x ∷ []) xs ++ joined b ys) (append_assoc before (node_of x ∷ []) (map node_of xs)))
    ∙ sym (append_assoc (checks before x) _ _)

pub verdict-append : (before : List Node) (xs ys : List NodeInput) → verdict before (xs ++ ys) ≡ option_or (verdict before xs) (verdict (before ++ map node_of xs) ys)
verdict-append before xs ys = ap first (joined-append before xs ys) ∙ first-append (joined before xs) _

-- the first node, and those after it
pub verdict-cons : (before : List Node) (x : NodeInput) (ys : List NodeInput) → verdict before (x ∷ ys) ≡ option_or (first (checks before x)) (verdict (before ++ node_of x ∷ []) ys)
unfolding joined
verdict-cons before x ys = first-append (checks before x) _

-- ---- the verdict with its node

pub located-append : (before : List Node) (xs ys : List NodeInput) → located before (xs ++ ys) ≡ option_or (located before xs) (located (before ++ map node_of xs) ys)
unfolding located
located-append before [] ys = ap (λ b. located b ys) (sym (append-nil before))
located-append before (x ∷ xs) ys =
    let here = option_map (at_node (length before)) (first (checks before x)) in
    ap (option_or here) (located-append (before ++ node_of x ∷ []) xs ys ∙ ap (λ b. option_or (located (before ++ node_of x ∷ []) xs) (located b ys)) (append_assoc before (node_of x ∷ []) (map node_of xs)))
    ∙ sym (option_or-assoc here (located (before ++ node_of x ∷ []) xs) _)

pub located-cons : (before : List Node) (x : NodeInput) (ys : List NodeInput)
    → located before (x ∷ ys) ≡ option_or (option_map (at_node (length before)) (first (checks before x))) (located (before ++ node_of x ∷ []) ys)
unfolding located
located-cons before x ys = refl

fault_first : (n : ℕ) (o : Option PlanFault) (rest : Option NodeFault) → option_map (λ l. l.fault) (option_or (option_map (at_node n) o) rest) ≡ option_or o (option_map (λ l. l.fault) rest)
fault_first n None rest = refl
fault_first n (Some f) rest = refl

pub verdict-located : (before : List Node) (ss : List NodeInput) → verdict before ss ≡ option_map (λ l. l.fault) (located before ss)
unfolding located joined
verdict-located before [] = refl
verdict-located before (s ∷ ss) =
    verdict-cons before s ss
    ∙ ap (option_or (first (checks before s))) (verdict-located (before ++ node_of s ∷ []) ss)
    ∙ sym (fault_first (length before) (first (checks before s)) (located (before ++ node_of s ∷ []) ss))

-- ---- what the nodes are

pub flats-forest : (ts : List Tree) → flats (forest_of ts) ≡ flat_map flat ts
flats-forest [] = refl
flats-forest (t ∷ ts) = ap (λ l. flat t ++ l) (flats-forest ts)

pub descriptors-forest : (above : List SegmentView) (ts : List Tree) → descriptors_below above (forest_of ts) ≡ flat_map (descriptors above) ts
descriptors-forest above [] = refl
descriptors-forest above (t ∷ ts) = ap (λ l. descriptors above t ++ l) (descriptors-forest above ts)

pub nodes-all : (g : NodeInput → Tree) (h : NodeInput → List NodeInput) → ((s : NodeInput) → contents (flat (g s)) ≡ map node_of (h s))
    → (ss : List NodeInput) → contents (flat_map flat (map g ss)) ≡ map node_of (flat_map h ss)
nodes-all g h each [] = refl
nodes-all g h each (s ∷ ss) = map-append _ (flat (g s)) _ ∙ ap₂ (λ a b. a ++ b) (each s) (nodes-all g h each ss) ∙ sym (map-append node_of (h s) _)

pub nodes-grown : (n : ℕ) (s : NodeInput) → contents (flat (grown n s)) ≡ map node_of (node_inputs n s)
unfolding grown node_inputs
nodes-grown zero s = refl
nodes-grown (suc n) s = ap (λ l. node_of s ∷ l) (ap contents (flats-forest (map (grown n) (below s))) ∙ nodes-all (grown n) (node_inputs n) (nodes-grown n) (below s))
