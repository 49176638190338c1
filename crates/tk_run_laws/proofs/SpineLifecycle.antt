-- The events around the units keep the lifecycle by themselves.
use Rattle.std.proofs.Common.{◌≡◌, ◌≢◌, ◌≤◌, ℕ, ⊎_elim, inl, inr, Bool, true, false, ◌||◌, List, [], ◌∷◌, ◌++◌, map, filter, flat_map, length, suc, Some, slice_get, if◌then◌else◌, refl, sym, ap, ap₂, ◌∙◌, subst, append-nil}
use Rattle.std.proofs.lemmas.Bool.{and_parts, cases_Bool, or_left}
use Rattle.std.proofs.lemmas.List.{map-append}
use Rattle.std.proofs.lemmas.List.Elements.{filter-append}
use Rattle.std.proofs.lemmas.List.Folds.{list_any-append}
use Rattle.std.specs.List.{list_any}
use Rattle.tk_ids.specs.IdText.{SegmentView}
use Rattle.tk_ids.specs.Table.{ids_of}
use Rattle.tk_ids.specs.declared.descriptors.Descriptor.{Descriptor}
use Rattle.tk_record.specs.Recorded.{Recorded}
use Rattle.tk_record.specs.Entries.{desc, desc_in}
use Rattle.tk_query_lifecycle.specs.KeepsLifecycle.{KeepsLifecycle}
use Rattle.tk_queue_session.specs.Emission.{entries_by}
use Rattle.tk_plan.specs.declared.trees.nodes.NumberedNode.{NumberedNode}
use Rattle.tk_plan.specs.declared.scripts.steps.Act.TheVariants.{Finish, Register, Skip}
use Rattle.tk_plan.specs.Script.{move, opening}
use Rattle.tk_plan.specs.Trees.{Forest, Tree, flat, flats, forest, more, no_trees, tree}
use Rattle.tk_plan.specs.Cutting.{Part, after_of, all_static, before_of, on_spine, parts, parts_below, spine_begins, spine_ends, whole_unit}
use Rattle.tk_plan.proofs.Cuts.{spine_facts}
use Rattle.tk_report_text.specs.Labels.{Label, label, labels, name, same_id}
use Rattle.tk_run_laws.specs.Listening.{is_of}
use Rattle.tk_run_laws.specs.Scripts.{id_at}
use Rattle.tk_run_laws.proofs.ChainCuts.{around_first, around_none, around_none_below, around_open, around_second, around_units, begin_moves, end_moves, shown_not, shown_opening}
use Rattle.tk_run_laws.proofs.Lists.{Each, at_most_tail, each_split, none_left, zero_or}
use Rattle.tk_run_laws.proofs.MoveLabels.{AreBuilt, IsBuilt, act_label, move_label, shown}
use Rattle.tk_run_laws.proofs.NodeLabels.{ShowsNodes}
use Rattle.tk_run_laws.proofs.NodeLifecycle.{keeps}
use Rattle.tk_run_laws.proofs.PlanTrees.{IsKeyed, IsPlanTree}
use Rattle.tk_run_laws.proofs.PlayedLabels.{labels_begin, labels_end}
use Rattle.tk_run_laws.proofs.PlayedScripts.{parts_known}
use Rattle.tk_run_laws.proofs.RegisteredIds.{id_is, in_table}
use Rattle.tk_run_laws.proofs.SameReports.{first_one, rest_one, rest_zero}
use Rattle.tk_run_laws.proofs.Scripts.{IsOwn, both_ids, either, eq_not, none_nil, not_eq, own_opening, pair_none, parent_in, parent_in_below, same_any, shown_yes, snoc_same, with_id}
use Rattle.tk_run_laws.proofs.WorkerEvents.{events-append, events_by}

-- ---- what the spine says of an id and of a child of it

abbrev top_static : Tree → Bool
top_static (tree n k f) = n.is_static

module _ (all : List NumberedNode) (P : NumberedNode → Type 0) (p : List SegmentView) (s : SegmentView) where
  abbrev pair : List SegmentView → Bool
  pair = either p (p ++ s ∷ [])

  abbrev Own : List Part → Type 0
  Own ps = IsOwn all P p s (around_units all pair ps)

  none_own : (f : Forest) → with_id all p (flats f) ≡ 0 → list_any (is_of p) (around_units all pair (parts_below false f)) ≡ false
  none_own f z =
      let begins = flat_map begin_moves (parts_below false f) in
      let ends = flat_map end_moves (parts_below false f) in
      list_any-append (is_of p) (shown all pair begins) (shown all pair ends)
      ∙ (ap₂ (λ x y. x || y) (same_any all P p s begins) (same_any all P p s ends)
      ∙ (sym (list_any-append (is_of p) (shown all (λ j. same_id j p) begins) (shown all (λ j. same_id j p) ends)) ∙ ap (list_any (is_of p)) (around_none_below all (λ j. same_id j p) false f z)))

  mutual
    own_parts : (above : List SegmentView) (b : Bool) (t : Tree) → top_static t ≡ true → IsBuilt all above t → above ≢ p → Each P (flat t) → with_id all p (flat t) ≤ 1 → Own (parts b t)
    own_parts above b (tree n k f) static built d a h =
        let below = around_units all pair (parts_below false f) in
        ⊎_elim {C = Own (parts b (tree n k f))}
        (λ (on : on_spine b n f ≡ true).
        let facts = spine_facts b n f on in
        subst (λ x. Own (if x then spine_begins n k ∷ (parts_below false f ++ spine_ends n k ∷ []) else whole_unit (tree n k f) ∷ [])) (sym on)
        (subst (IsOwn all P p s) (sym (around_open all pair n k (parts_below false f))) (⊎_elim {C = IsOwn all P p s (shown all pair (opening n k) ++ (below ++ shown all pair (move k Finish ∷ [])))}
        (λ (y : same_id (id_at all k) p ≡ true).
        let yes : pair (id_at all k) ≡ true = or_left (same_id (id_at all k) p) _ y in
        let run = map (move_label all) (opening n k) ++ (below ++ act_label all k Finish ∷ []) in
        inr (record {
          numbered_node = record { node = n; number = k; span = suc (length (flats f)) };
          parent = 0;
          below = below;
          is = y;
          apart = none_own f (none_left (same_id (id_at all k) p) (with_id all p (flats f)) y h);
          labels = ap₂ (λ u v. u ++ (below ++ v)) (own_opening all pair n k yes) (shown_yes all pair k Finish [] [] yes refl)
              ∙ sym (ap₂ (λ u v. if u then (if v then act_label all k Skip ∷ [] else run) else act_label all k (Register 0) ∷ (if v then act_label all k Skip ∷ [] else run)) static facts.0);
          holds = a.0;
        }))
        (λ (x : same_id (id_at all k) p ≡ false).
        let no : pair (id_at all k) ≡ false = ap₂ (λ u v. u || v) x (not_eq (id_at all k) (p ++ s ∷ []) (λ e. d (snoc_same above p n.segment s (sym built.0 ∙ e)))) in
        subst (IsOwn all P p s) (sym (ap₂ (λ u v. u ++ (below ++ v)) (shown_opening all pair n k no) (shown_not all pair k Finish [] no refl) ∙ append-nil below))
        (own_below (id_at all k) false f facts.1 built.1 (eq_not (id_at all k) p x) a.1 (at_most_tail (same_id (id_at all k) p) (with_id all p (flats f)) h)))
        (cases_Bool (same_id (id_at all k) p)))))
        (λ (off : on_spine b n f ≡ false).
        subst (λ x. Own (if x then spine_begins n k ∷ (parts_below false f ++ spine_ends n k ∷ []) else whole_unit (tree n k f) ∷ [])) (sym off) (inl refl))
        (cases_Bool (on_spine b n f))

    own_below : (above : List SegmentView) (b : Bool) (f : Forest) → all_static f ≡ true → AreBuilt all above f → above ≢ p → Each P (flats f) → with_id all p (flats f) ≤ 1 → Own (parts_below b f)
    own_below above b no_trees static built d a h = inl refl
    own_below above b (more (tree n k g) f) static built d a h =
        let t = tree n k g in
        let statics = and_parts n.is_static (all_static f) static in
        let both = each_split P (flat t) (flats f) a in
        let e = both_ids all p (flat t) (flats f) in
        ⊎_elim {C = Own (parts_below b (more t f))}
        (λ z. subst (IsOwn all P p s)
        (sym (around_second all pair (parts b t) (parts_below b f) (around_none all pair b t (pair_none all p (p ++ s ∷ []) (flat t) z (parent_in all p s above t built.0 d z)))))
        (own_below above b f statics.1 built.1 d both.1 (rest_one _ _ _ e h)))
        (λ z.
        let y = rest_zero _ _ _ e h z in
        subst (IsOwn all P p s)
        (sym (around_first all pair (parts b t) (parts_below b f) (around_none_below all pair b f (pair_none all p (p ++ s ∷ []) (flats f) y (parent_in_below all p s above f built.1 d y)))))
        (own_parts above b (tree n k g) statics.0 built.0 d both.0 (first_one _ _ _ e h)))
        (zero_or (with_id all p (flat t)))

-- ---- the record of the events around the units

module _ (nodes : List NumberedNode) (table : List Descriptor) (plan : IsPlanTree nodes table) where
  abbrev spine_parts : List Part
  spine_parts = parts_below true (forest nodes)

  abbrev spine_record : Recorded
  spine_record = record { table = table; entries = entries_by 0 (before_of (forest nodes)) ++ entries_by 0 (after_of (forest nodes)) }

  abbrev begins : List Label
  begins = map (move_label nodes) (flat_map begin_moves spine_parts)

  abbrev ends : List Label
  ends = map (move_label nodes) (flat_map end_moves spine_parts)

  spine_labels : labels spine_record ≡ begins ++ ends
  spine_labels =
      let names = name spine_record in
      let known = parts_known nodes table plan in
      let by_table : (k : ℕ) (x : List SegmentView) → slice_get (ids_of table) k ≡ Some x → names k ≡ x
      = λ k x e. id_is (desc spine_record k) x (in_table table k x (desc_in spine_record.entries k) e) in
      ap (map (label names)) (events-append (entries_by 0 (before_of (forest nodes))) (entries_by 0 (after_of (forest nodes))) ∙ ap₂ (λ a b. a ++ b) (events_by 0 (before_of (forest nodes))) (events_by 0 (after_of (forest nodes))))
      ∙ (map-append (label names) (before_of (forest nodes)) (after_of (forest nodes))
      ∙ ap₂ (λ a b. a ++ b) (labels_begin nodes table names by_table 0 spine_parts known) (labels_end nodes table names by_table 0 spine_parts known))

  says : (q : List SegmentView → Bool) → filter (λ l. q l.id) (labels spine_record) ≡ around_units nodes q spine_parts
  says q = ap (filter (λ (l : Label). q l.id)) spine_labels ∙ filter-append (λ (l : Label). q l.id) begins ends

  spine_shows : ShowsNodes nodes table spine_record
  spine_shows = record {
    over = refl;
    nameless = says (λ j. same_id j []) ∙ around_none_below nodes (λ j. same_id j []) true (forest nodes) (none_nil nodes [] (forest nodes) plan.built);
    own = λ i s some.
        subst (IsOwn nodes (λ p. IsKeyed nodes table p.node p.number) i s) (sym (says (either i (i ++ s ∷ []))))
        (own_below nodes (λ p. IsKeyed nodes table p.node p.number) i s [] true (forest nodes) plan.statics plan.built (λ e. some (sym e)) plan.keyed (plan.distinct i));
  }

  pub spine_keeps : KeepsLifecycle spine_record
  spine_keeps = keeps nodes table spine_record plan spine_shows
