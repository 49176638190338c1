-- In a run each static key that is due starts or is skipped.
use Rattle.std.proofs.Common.{◌≡◌, ◌≢◌, ℕ, suc, ◌+◌, ◌⊎◌, Bool, true, false, ◌&&◌, ◌||◌, List, [], ◌∷◌, ◌++◌, map, filter, length, is_some, Some, slice_get, if◌then◌else◌, refl, sym, ap, ◌∙◌, subst, inl, inr, ⊎_elim, arith, append_assoc}
use Rattle.std.specs.List.{list_any}
use Rattle.std.proofs.lemmas.Bool.{true≢false, and_parts, and_from, or_cases, or_left, or_right}
use Rattle.std.proofs.lemmas.List.{length-append, map-append}
use Rattle.std.proofs.lemmas.List.Folds.{list_any-append}
use Rattle.tk_ids.specs.IdText.{IsBelow, SegmentView, parent_of}
use Rattle.tk_ids.specs.Table.{ids_of}
use Rattle.tk_ids.specs.declared.descriptors.Descriptor.{Descriptor}
use Rattle.tk_events.specs.declared.kinds.Kind.TheVariants.{Finished, Skipped, Started}
use Rattle.tk_record.specs.Recorded.{Recorded}
use Rattle.tk_query_lifecycle.proofs.IdMapLemmas.{static_desc}
use Rattle.tk_query_lifecycle.specs.Lifecycle.{HasId}
use Rattle.tk_query_lifecycle.specs.NeverRan.{EachDueKeyRuns, NeverRuns, ParentSucceeds}
use Rattle.tk_plan.specs.declared.trees.nodes.NumberedNode.{NumberedNode}
use Rattle.tk_plan.specs.Script.{move, moves, moves_below, opening, registration}
use Rattle.tk_plan.specs.Trees.{Forest, Tree, flat, flats, forest, more, no_trees, tree}
use Rattle.tk_plan.specs.declared.trees.nodes.Node.{Node}
use Rattle.tk_plan.specs.declared.scripts.steps.Act.TheVariants.{Finish, Skip, Start}
use Rattle.tk_report_text.specs.Labels.{Label, id_in, label, labels, name, same_id, same_kind}
use Rattle.tk_report_text.proofs.Ids.{same_decides}
use Rattle.tk_run_laws.specs.Listening.{finishes, is_of, skips, starts}
use Rattle.tk_run_laws.specs.Scripts.{IsRunOf, id_at}
use Rattle.tk_run_laws.proofs.RecordIds.{label_at, labelled, last_segment, ran_of}
use Rattle.tk_run_laws.proofs.NodeLifecycle.{are_described, only_key, relied_on}
use Rattle.tk_run_laws.proofs.NodeLabels.{ShowsNodes, run_shows, same_one}
use Rattle.tk_run_laws.proofs.LifecycleToListener.{finish_or_skip, finish_ran, skip_ran, skipped_alone}
use Rattle.tk_run_laws.proofs.Lists.{Each, each-append, each_at, each_weaker}
use Rattle.tk_run_laws.proofs.MoveLabels.{AreBuilt, IsBuilt, Move, act_label, move_label, moves_in, plan_labels, publications}
use Rattle.tk_run_laws.proofs.PlanTrees.{IsPlanTree}
use Rattle.tk_run_laws.proofs.Orders.{Only, any_kept}
use Rattle.tk_run_laws.proofs.Positions.{any_at, any_from, map_get}
use Rattle.tk_run_laws.proofs.Scripts.{snoc_same, snoc_some}
use Rattle.tk_run_laws.proofs.Turns.{finish_of}

-- ---- labels that start or skip an id, or skip one above it

abbrev begins : List SegmentView → Label → Bool
begins i l = starts i l || skips i l

record IsUnderSkip (ls : List Label) (i : List SegmentView) : Type 0 where
  above : List SegmentView
  some : above ≢ []
  skipped : list_any (skips above) ls ≡ true
  below : IsBelow above i

abbrev IsCovered : List Label → List SegmentView → Type 0
IsCovered ls i = (list_any (begins i) ls ≡ true) ⊎ IsUnderSkip ls i

any_left : (p : Label → Bool) (xs ys : List Label) → list_any p xs ≡ true → list_any p (xs ++ ys) ≡ true
any_left p xs ys h = list_any-append p xs ys ∙ or_left (list_any p xs) (list_any p ys) h

any_right : (p : Label → Bool) (xs ys : List Label) → list_any p ys ≡ true → list_any p (xs ++ ys) ≡ true
any_right p xs ys h = list_any-append p xs ys ∙ or_right (list_any p xs) (list_any p ys) h

covered_left : (xs ys : List Label) (i : List SegmentView) → IsCovered xs i → IsCovered (xs ++ ys) i
covered_left xs ys i (inl h) = inl (any_left (begins i) xs ys h)
covered_left xs ys i (inr u) = inr (record { above = u.above; some = u.some; skipped = any_left (skips u.above) xs ys u.skipped; below = u.below })

covered_right : (xs ys : List Label) (i : List SegmentView) → IsCovered ys i → IsCovered (xs ++ ys) i
covered_right xs ys i (inl h) = inl (any_right (begins i) xs ys h)
covered_right xs ys i (inr u) = inr (record { above = u.above; some = u.some; skipped = any_right (skips u.above) xs ys u.skipped; below = u.below })

-- ---- the nodes of a tree stand below what is above it

deeper : (a i j : List SegmentView) (s : SegmentView) → i ≡ a ++ s ∷ [] → IsBelow i j → IsBelow a j
deeper a i j s e b = (s, b.0 ∷ b.1, b.2 ∙ ap (λ l. l ++ b.0 ∷ b.1) e ∙ append_assoc a (s ∷ []) (b.0 ∷ b.1))

-- ---- a plan's script covers each of its nodes

module _ (all : List NumberedNode) where
  abbrev StandsBelow : List SegmentView → NumberedNode → Type 0
  StandsBelow a p = IsBelow a (id_at all p.number)

  mutual
    below_tree : (a : List SegmentView) (t : Tree) → IsBuilt all a t → Each (StandsBelow a) (flat t)
    below_tree a (tree n k f) b = (
      (n.segment, [], b.0),
      each_weaker (StandsBelow (id_at all k)) (StandsBelow a) (λ p h. deeper a (id_at all k) (id_at all p.number) n.segment b.0 h) (flats f) (below_forest (id_at all k) f b.1),
    )

    below_forest : (a : List SegmentView) (f : Forest) → AreBuilt all a f → Each (StandsBelow a) (flats f)
    below_forest a no_trees b = tt
    below_forest a (more t f) b = each-append (StandsBelow a) (flat t) (flats f) (below_tree a t b.0) (below_forest a f b.1)

  own_skip : (k : ℕ) → list_any (begins (id_at all k)) (act_label all k Skip ∷ []) ≡ true
  own_skip k = ap (λ b. ((b && false) || (b && true)) || false) ((same_decides (id_at all k) (id_at all k)).1 refl)

  skip_here : (k : ℕ) → list_any (skips (id_at all k)) (act_label all k Skip ∷ []) ≡ true
  skip_here k = ap (λ b. (b && true) || false) ((same_decides (id_at all k) (id_at all k)).1 refl)

  own_start : (k : ℕ) (ls : List Label) → list_any (begins (id_at all k)) (act_label all k Start ∷ ls) ≡ true
  own_start k ls = ap (λ b. ((b && true) || (b && false)) || list_any (begins (id_at all k)) ls) ((same_decides (id_at all k) (id_at all k)).1 refl)

  abbrev IsCoveredIn : List Move → NumberedNode → Type 0
  IsCoveredIn ms p = IsCovered (map (move_label all) ms) (id_at all p.number)

  in_front : (xs ys : List Move) (p : NumberedNode) → IsCoveredIn xs p → IsCoveredIn (xs ++ ys) p
  in_front xs ys p h =
      subst (λ l. IsCovered l (id_at all p.number)) (sym (map-append (move_label all) xs ys)) (covered_left (map (move_label all) xs) (map (move_label all) ys) (id_at all p.number) h)

  in_back : (xs ys : List Move) (p : NumberedNode) → IsCoveredIn ys p → IsCoveredIn (xs ++ ys) p
  in_back xs ys p h =
      subst (λ l. IsCovered l (id_at all p.number)) (sym (map-append (move_label all) xs ys)) (covered_right (map (move_label all) xs) (map (move_label all) ys) (id_at all p.number) h)

  moves_cover : (n : Node) (k : ℕ) (below : List Move) (p : NumberedNode) (ps : List NumberedNode) → p.number ≡ k → id_at all k ≢ [] → Each (StandsBelow (id_at all k)) ps → Each (IsCoveredIn below) ps
      → Each (IsCoveredIn (if is_some n.skip then move k Skip ∷ [] else opening n k ++ (below ++ move k Finish ∷ []))) (p ∷ ps)
  moves_cover n k below p ps same some under covers =
      let last = move k Finish ∷ [] in
      let own : (ms : List Move) → list_any (begins (id_at all k)) (map (move_label all) ms) ≡ true → IsCoveredIn ms p
      = λ ms h. subst (λ j. IsCovered (map (move_label all) ms) (id_at all j)) (sym same) (inl h) in
      let skipped : Each (IsCoveredIn (move k Skip ∷ [])) (p ∷ ps) = (
        own (move k Skip ∷ []) (own_skip k),
        each_weaker (StandsBelow (id_at all k)) (IsCoveredIn (move k Skip ∷ [])) (λ m h. inr (record { above = id_at all k; some = some; skipped = skip_here k; below = h })) ps under,
      ) in
      let ran : Each (IsCoveredIn (opening n k ++ (below ++ last))) (p ∷ ps) = (
        own (opening n k ++ (below ++ last)) (own_start k (map (move_label all) (publications n k ++ (below ++ last)))),
        each_weaker (IsCoveredIn below) (IsCoveredIn (opening n k ++ (below ++ last))) (λ m h. in_back (opening n k) (below ++ last) m (in_front below last m h)) ps covers,
      ) in
      elim (is_some n.skip) as (λ b. Each (IsCoveredIn (if b then move k Skip ∷ [] else opening n k ++ (below ++ last))) (p ∷ ps)) [ true ↦ skipped | false ↦ ran ]

  mutual
    tree_covers : (above : List SegmentView) (parent : ℕ) (t : Tree) → IsBuilt all above t → Each (IsCoveredIn (moves_in parent t)) (flat t)
    tree_covers above parent (tree n k f) b =
        let own = moves_cover n k (moves_below k f) (record { node = n; number = k; span = suc (length (flats f)) }) (flats f) refl
        (λ e. snoc_some above n.segment (sym b.0 ∙ e)) (below_forest (id_at all k) f b.1) (forest_covers (id_at all k) k f b.1) in
        each_weaker (IsCoveredIn (moves (tree n k f))) (IsCoveredIn (moves_in parent (tree n k f))) (λ p h. in_back (registration parent (tree n k f)) (moves (tree n k f)) p h) (flat (tree n k f)) own

    forest_covers : (above : List SegmentView) (parent : ℕ) (f : Forest) → AreBuilt all above f → Each (IsCoveredIn (moves_below parent f)) (flats f)
    forest_covers above parent no_trees b = tt
    forest_covers above parent (more t f) b =
        let rest = moves_below parent f in
        subst (λ ms. Each (IsCoveredIn ms) (flat t ++ flats f)) (append_assoc (registration parent t) (moves t) rest)
        (each-append (IsCoveredIn (moves_in parent t ++ rest)) (flat t) (flats f)
        (each_weaker (IsCoveredIn (moves_in parent t)) (IsCoveredIn (moves_in parent t ++ rest)) (λ m h. in_front (moves_in parent t) rest m h) (flat t) (tree_covers above parent t b.0))
        (each_weaker (IsCoveredIn rest) (IsCoveredIn (moves_in parent t ++ rest)) (λ m h. in_back (moves_in parent t) rest m h) (flats f) (forest_covers above parent f b.1)))

-- ---- parents

-- what stands below an id has it as its parent, or a parent below it
record IsParentBelow (a i : List SegmentView) : Type 0 where
  s : SegmentView
  more : List SegmentView
  id_is : i ≡ a ++ s ∷ more

above_parent : (a p : List SegmentView) (s t : SegmentView) (more : List SegmentView) → a ++ s ∷ more ≡ p ++ t ∷ [] → (p ≡ a) ⊎ IsParentBelow a p
above_parent a p s t [] e = inl (sym (snoc_same a p s t e))
above_parent a p s t (m ∷ ms) e =
    let l = last_segment (m ∷ ms) (omega arith) in
    let longer : a ++ s ∷ (m ∷ ms) ≡ (a ++ s ∷ parent_of (m ∷ ms)) ++ l.0 ∷ []
    = ap (λ k. a ++ s ∷ k) l.1 ∙ sym (append_assoc a (s ∷ parent_of (m ∷ ms)) (l.0 ∷ [])) in
    inr (record { s = s; more = parent_of (m ∷ ms); id_is = sym (snoc_same (a ++ s ∷ parent_of (m ∷ ms)) p l.0 t (sym longer ∙ e)) })

-- an id of one segment stands below none
root_alone :
    (a : List SegmentView) → a ≢ [] → (s : SegmentView) (rest : List SegmentView) →
    length (a ++ s ∷ rest) ≡ 1 → ⊥
root_alone [] some s rest one = some refl
root_alone (x ∷ a) some s rest one =
    let long : length (a ++ s ∷ rest) ≡ length a + suc (length rest) = length-append a (s ∷ rest) in
    absurd (omega (arith, one, long))

-- ---- runs

module _ (all : List NumberedNode) (table : List Descriptor) (workers : ℕ) (r : Recorded) (plan : IsPlanTree all table) (run : IsRunOf all table workers r) where
  shows : ShowsNodes all table r
  shows = run_shows all table workers r plan run

  same_any : (i : List SegmentView) (p : Label → Bool) → Only p (is_of i) → list_any p (labels r) ≡ list_any p (plan_labels all)
  same_any i p only = any_kept (is_of i) p only (labels r) ∙ ap (list_any p) (same_one all table workers r plan run i) ∙ sym (any_kept (is_of i) p only (plan_labels all))

  skip_of : (i : List SegmentView) → Only (skips i) (is_of i)
  skip_of i l h = (and_parts (is_of i l) (same_kind l.kind Skipped) h).0

  begin_of : (i : List SegmentView) → Only (begins i) (is_of i)
  begin_of i l h = ⊎_elim {C = is_of i l ≡ true}
      (λ (a : starts i l ≡ true). (and_parts (is_of i l) (same_kind l.kind Started) a).0)
      (λ (b : skips i l ≡ true). (and_parts (is_of i l) (same_kind l.kind Skipped) b).0)
      (or_cases (starts i l) (skips i l) h)

  module _ (key : ℕ) (h : NeverRuns r key) where
    abbrev own : List SegmentView
    own = h.descriptor.id

    its : slice_get (ids_of table) key ≡ Some own
    its = subst (λ t. slice_get (ids_of t) key ≡ Some own) run.over (map_get (λ (d : Descriptor). d.id) r.table key h.descriptor h.static)

    -- the key itself starts, or is skipped
    not_begun : list_any (begins own) (labels r) ≡ true → ⊥
    not_begun any =
        let found = any_at (begins own) (labels r) any in
        let x = labelled r found.position found.element found.stands in
        let e = x.entry in
        let begun : begins own (label (name r) e.event) ≡ true = ap (begins own) x.label_is ∙ found.passes in
        let named : name r e.event.key ≡ own = (same_decides (name r e.event.key) own).0 (begin_of own (label (name r) e.event) begun) in
        let its_id = subst (HasId r e.event.key) named (are_described all table r plan shows found.position e x.stands) in
        let same = only_key all table r plan shows own e.event.key key its_id (let k : HasId r key own = record { descriptor = h.descriptor; described = static_desc r key h.descriptor h.static; id_is = refl } in k) in
        ⊎_elim {C = ⊥}
        (λ (a : starts own (label (name r) e.event) ≡ true).
        h.no_turn.unstarted found.position e x.stands same (and_parts (is_of own (label (name r) e.event)) _ a).1)
        (λ (b : skips own (label (name r) e.event) ≡ true).
        h.no_turn.unskipped found.position e x.stands same (and_parts (is_of own (label (name r) e.event)) _ b).1)
        (or_cases (starts own (label (name r) e.event)) (skips own (label (name r) e.event)) begun)

    -- the parent finishes
    module _ (s : ParentSucceeds r own) where
      parent_name : name r s.succeeds.event.event.key ≡ parent_of own
      parent_name = ap (name r) s.succeeds.of_key ∙ ap id_in s.described ∙ s.is_parent

      parent_finish : (i : List SegmentView) → i ≡ parent_of own → list_any (finishes i) (labels r) ≡ true
      parent_finish i is =
          let e = s.succeeds.event in
          any_from (finishes i) (labels r) s.succeeds.position (label (name r) e.event) (label_at r s.succeeds.position e s.succeeds.stands)
          (and_from (same_id (name r e.event.key) i) (same_kind e.event.kind Finished) ((same_decides (name r e.event.key) i).1 (parent_name ∙ sym is)) (finish_of e.event.kind e.event.payload s.succeeds.successful))

      child_not_under : IsUnderSkip (labels r) own → ⊥
      child_not_under u =
          let l = last_segment own (let b = s.below in omega (arith, b)) in
          ⊎_elim {C = ⊥}
          (λ (same : parent_of own ≡ u.above).
          let ran = filter (ran_of u.above) (labels r) in
          skipped_alone Finished finish_or_skip u.above ran ((relied_on all table r plan shows).once u.above)
          (sym (any_kept (ran_of u.above) (finishes u.above) (finish_ran u.above) (labels r)) ∙ parent_finish u.above (sym same))
          (sym (any_kept (ran_of u.above) (skips u.above) (skip_ran u.above) (labels r)) ∙ u.skipped))
          (λ (b : IsParentBelow u.above (parent_of own)).
          let none = (relied_on all table r plan shows).skipped u.above b.s b.more u.some u.skipped in
          let e = s.succeeds.event in
          true≢false (sym (any_from (is_of (u.above ++ b.s ∷ b.more)) (labels r) s.succeeds.position (label (name r) e.event) (label_at r s.succeeds.position e s.succeeds.stands)
          ((same_decides (name r e.event.key) (u.above ++ b.s ∷ b.more)).1 (parent_name ∙ b.id_is))) ∙ none))
          (above_parent u.above (parent_of own) u.below.0 l.0 u.below.1 (sym u.below.2 ∙ l.1))

    not_under : IsUnderSkip (labels r) own → ⊥
    not_under u = ⊎_elim {C = ⊥}
        (λ (root : length own ≡ 1).
        root_alone u.above u.some u.below.0 u.below.1 (sym (ap (λ (i : List SegmentView). length i) u.below.2) ∙ root))
        (λ (s : ParentSucceeds r own). child_not_under s u)
        h.due

    not_covered : IsCovered (plan_labels all) own → ⊥
    not_covered (inl any) = not_begun (same_any own (begins own) (begin_of own) ∙ any)
    not_covered (inr u) = not_under (record { above = u.above; some = u.some; skipped = same_any u.above (skips u.above) (skip_of u.above) ∙ u.skipped; below = u.below })

  pub due_keys_run : ((key : ℕ) (id : List SegmentView) → slice_get (ids_of table) key ≡ Some id → (i : ℕ) × (p : NumberedNode) × (slice_get (flats (forest all)) i ≡ Some p) × (id_at all p.number ≡ id)) → EachDueKeyRuns r
  due_keys_run node key h =
      let at = node key h.descriptor.id (its key h) in
      not_covered key h (subst (IsCovered (plan_labels all)) at.3
      (each_at (IsCoveredIn all (moves_below 0 (forest all))) (flats (forest all)) at.0 at.1 (forest_covers all [] 0 (forest all) plan.built) at.2))
