-- No worker registers more than the dynamic nodes of the plan.
use Rattle.std.proofs.Common.{◌≡◌, ◌≢◌, ◌≤◌, ℕ, zero, suc, ◌+◌, Bool, true, false, List, [], ◌∷◌, ◌++◌, map, length, flat_map, slice_get, is_some, refl, ap, ap₂, ◌∙◌, arith, tests, if◌then◌else◌, ⊎_elim, ◌==◌, length-append}
use Rattle.std.proofs.lemmas.Bool.{cases_Bool}
use Rattle.tk_plan.specs.Cutting.{Part, Piece, all_static, from_each, moves_of, parts_below, piece, pieces_of, script_of, spine_begins, spine_ends, whole_unit}
use Rattle.tk_plan.specs.Cutting as cut
use Rattle.tk_plan.specs.Script.{move, moves, moves_below, opening, registration, stamped}
use Rattle.tk_plan.specs.Trees.{Forest, Tree, flat, flats, forest, more, no_trees, tree}
use Rattle.tk_plan.specs.declared.trees.nodes.Node.{Node}
use Rattle.tk_plan.specs.declared.trees.nodes.NumberedNode.{NumberedNode}
use Rattle.tk_plan.specs.declared.scripts.steps.Act.TheVariants.{Finish, Register, Skip}
use Rattle.tk_plan.proofs.Cuts.{parts_below-moves}
use Rattle.tk_run_laws.proofs.Lists.{at_most_tail, count, count-append, none_left, none_tail, not_none, times}
use Rattle.tk_run_laws.proofs.MoveLabels.{Move, drawn_ids, ids_emitted, of_publications}
use Rattle.tk_run_laws.specs.Scripts.{is_registration}

abbrev pub is_dynamic_node : NumberedNode → Bool
is_dynamic_node p = if p.node.is_static then false else true

-- how many of the moves are registrations
abbrev pub registrations_in : List Move → ℕ
registrations_in ms = count (λ m. is_registration m.act) ms

in_both : (xs ys : List Move) → registrations_in (xs ++ ys) ≡ registrations_in xs + registrations_in ys
in_both xs ys = count-append (λ m. is_registration m.act) xs ys

none_in_opening : (n : Node) (k : ℕ) → registrations_in (opening n k) ≡ 0
none_in_opening n k = of_publications (λ ms. registrations_in ms ≡ 0) n k (λ i ms h. h) (λ i ms h. h) refl

few_sum : (whole first last middle m : ℕ) → whole ≡ first + last → last ≡ middle + 0 → first ≡ 0 → middle ≤ m → whole ≤ m
few_sum whole first last middle m a b c d = omega (arith, a, b, c, d)

few_moves : (n : Node) (k m : ℕ) (below : List Move) → registrations_in below ≤ m → registrations_in (if is_some n.skip then move k Skip ∷ [] else opening n k ++ (below ++ move k Finish ∷ [])) ≤ m
few_moves n k m below h =
    let rest = below ++ move k Finish ∷ [] in
    let few = few_sum (registrations_in (opening n k ++ rest)) (registrations_in (opening n k)) (registrations_in rest) (registrations_in below) m
    (in_both (opening n k) rest) (in_both below (move k Finish ∷ [])) (none_in_opening n k) h in
    elim (is_some n.skip) as (λ b. registrations_in (if b then move k Skip ∷ [] else opening n k ++ (below ++ move k Finish ∷ [])) ≤ m) [ true ↦ omega arith | false ↦ few ]

few_more : (whole own rest first last own_few rest_few all : ℕ) → whole ≡ own + first → first ≡ last + rest → own + last ≤ own_few → rest ≤ rest_few → all ≡ own_few + rest_few → whole ≤ all
few_more whole own rest first last own_few rest_few all a b c d e = omega (arith, a, b, c, d, e)

mutual
  few : (parent : ℕ) (t : Tree) → registrations_in (registration parent t) + registrations_in (moves t) ≤ count is_dynamic_node (flat t)
  few parent (tree n k f) =
      let own = few_moves n k (count is_dynamic_node (flats f)) (moves_below k f) (few_below k f) in
      elim n.is_static as (λ b. registrations_in (if b then [] else move k (Register parent) ∷ []) + registrations_in (moves (tree n k f))
      ≤ (if (if b then false else true) then 1 + count is_dynamic_node (flats f) else count is_dynamic_node (flats f)))
      [ true ↦ omega (arith, own) | false ↦ omega (arith, own) ]

  few_below : (parent : ℕ) (f : Forest) → registrations_in (moves_below parent f) ≤ count is_dynamic_node (flats f)
  few_below parent no_trees = omega arith
  few_below parent (more t f) =
      few_more (registrations_in (moves_below parent (more t f))) (registrations_in (registration parent t)) (registrations_in (moves_below parent f)) (registrations_in (moves t ++ moves_below parent f)) (registrations_in (moves t))
      (count is_dynamic_node (flat t)) (count is_dynamic_node (flats f)) (count is_dynamic_node (flats (more t f)))
      (in_both (registration parent t) (moves t ++ moves_below parent f)) (in_both (moves t) (moves_below parent f)) (few parent t) (few_below parent f)
      (count-append is_dynamic_node (flat t) (flats f))

-- ---- the units together

abbrev total : List ℕ → ℕ
total [] = 0
total (x ∷ xs) = x + total xs

abbrev weight : Piece → ℕ
weight x = registrations_in (moves x.tree)

few_pieces : (i : ℕ) (ps : List Part) → total (map weight (from_each piece i ps)) ≤ registrations_in (flat_map moves_of ps)
few_pieces i [] = omega arith
few_pieces i (spine_begins n k ∷ ps) =
    let h = few_pieces (i + length (opening n k)) ps in let a = in_both (opening n k) (flat_map moves_of ps) in omega (arith, h, a)
few_pieces i (whole_unit t ∷ ps) = let h = few_pieces (i + length (moves t)) ps in let a = in_both (moves t) (flat_map moves_of ps) in omega (arith, h, a)
few_pieces i (spine_ends n k ∷ ps) = few_pieces (i + 1) ps

-- ---- a list of numbers, none twice, weighs no more than all

abbrev weight_at : List ℕ → ℕ → ℕ
weight_at [] u = 0
weight_at (w ∷ ws) zero = w
weight_at (w ∷ ws) (suc u) = weight_at ws u

abbrev without : List ℕ → ℕ → List ℕ
without [] u = []
without (w ∷ ws) zero = 0 ∷ ws
without (w ∷ ws) (suc u) = w ∷ without ws u

total-without : (ws : List ℕ) (u : ℕ) → total (without ws u) + weight_at ws u ≡ total ws
total-without [] u = omega arith
total-without (w ∷ ws) zero = omega arith
total-without (w ∷ ws) (suc u) = let h = total-without ws u in omega (arith, h)

without_other : (ws : List ℕ) (u v : ℕ) → v ≢ u → weight_at (without ws u) v ≡ weight_at ws v
without_other [] u v n = refl
without_other (w ∷ ws) zero zero n = absurd (n refl)
without_other (w ∷ ws) zero (suc v) n = refl
without_other (w ∷ ws) (suc u) zero n = refl
without_other (w ∷ ws) (suc u) (suc v) n = without_other ws u v (λ e. n (ap suc e))

abbrev weigh : List ℕ → List ℕ → ℕ
weigh ws [] = 0
weigh ws (u ∷ us) = weight_at ws u + weigh ws us

weigh_without : (ws : List ℕ) (u : ℕ) (us : List ℕ) → times u us ≡ 0 → weigh (without ws u) us ≡ weigh ws us
weigh_without ws u [] h = refl
weigh_without ws u (v ∷ us) h = ⊎_elim
    (λ e. let no : ⊥ = not_none (v == u) (times u us) e h in absurd no)
    (λ e.
    let n : v ≢ u = grind (arith, tests, e) in
    ap₂ (λ a b. a + b) (without_other ws u v n) (weigh_without ws u us (none_tail (v == u) (times u us) h)))
    (cases_Bool (v == u))

once : (u : ℕ) (us : List ℕ) → times u (u ∷ us) ≤ 1 → times u us ≡ 0
once u us h = let same : (u == u) ≡ true = grind (arith, tests) in none_left (u == u) (times u us) same h

weighed : (a b c d e : ℕ) → a ≤ c → a ≡ b → c + d ≡ e → d + b ≤ e
weighed a b c d e h g k = omega (arith, h, g, k)

weigh_at_most : (ws us : List ℕ) → ((u : ℕ) → times u us ≤ 1) → weigh ws us ≤ total ws
weigh_at_most ws [] h = omega arith
weigh_at_most ws (u ∷ us) h =
    let rest = weigh_at_most (without ws u) us (λ v. at_most_tail (u == v) (times v us) (h v)) in
    let same = weigh_without ws u us (once u us (h u)) in
    let all = total-without ws u in
    weighed _ _ _ _ _ rest same all

emitted_count : (p : ℕ) (ms : List Move) → length (ids_emitted (stamped p ms)) ≡ registrations_in ms
emitted_count p [] = refl
emitted_count p (m ∷ ms) =
    let h = emitted_count (p + 1) ms in
    elim (is_registration m.act) as (λ b. length ((if b then m.node ∷ [] else []) ++ ids_emitted (stamped (p + 1) ms)) ≡ (if b then 1 + registrations_in ms else registrations_in ms)) [ true ↦ omega (arith, h) | false ↦ h ]

weight_is : (xs : List Piece) (u : ℕ) → length (ids_emitted (cut.steps_of (slice_get xs u))) ≡ weight_at (map weight xs) u
weight_is [] u = refl
weight_is (x ∷ xs) zero = emitted_count x.first (moves x.tree)
weight_is (x ∷ xs) (suc u) = weight_is xs u

drawn_weight : (all : List NumberedNode) (us : List ℕ) → length (drawn_ids all us) ≡ weigh (map weight (pieces_of (forest all))) us
drawn_weight all [] = refl
drawn_weight all (u ∷ us) = length-append (ids_emitted (script_of (forest all) u)) (drawn_ids all us) ∙ ap₂ (λ a b. a + b) (weight_is (pieces_of (forest all)) u) (drawn_weight all us)

few_end : (a b c d e : ℕ) → a ≡ b → b ≤ c → c ≤ d → d ≤ e → a ≤ e
few_end a b c d e f g h i = omega (arith, f, g, h, i)

pub few_drawn : (all : List NumberedNode) → all_static (forest all) ≡ true → (us : List ℕ) → ((u : ℕ) → times u us ≤ 1) → length (drawn_ids all us) ≤ count is_dynamic_node (flats (forest all))
few_drawn all statics us h =
    let root = forest all in
    few_end (length (drawn_ids all us)) (weigh (map weight (pieces_of root)) us) (total (map weight (pieces_of root))) (registrations_in (flat_map moves_of (parts_below true root))) (count is_dynamic_node (flats root))
    (drawn_weight all us) (weigh_at_most (map weight (pieces_of root)) us h) (few_pieces 0 (parts_below true root))
    (rw (parts_below-moves true 0 root statics) (few_below 0 root))
