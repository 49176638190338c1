-- What a record says of an id and of a child of it that shows a plan's nodes, as that of a run does.
use Rattle.std.proofs.Common.{◌≡◌, ◌≢◌, ◌<◌, ℕ, Bool, true, false, not, cond, ◌&&◌, ◌||◌, List, [], ◌∷◌, ◌++◌, map, filter, take, drop, is_some, Some, slice_get, refl, sym, ap, ap₂, ◌∙◌, subst, if◌then◌else◌, ⊎_elim}
use Rattle.std.specs.List.{list_any}
use Rattle.std.proofs.lemmas.Bool.{true≢false, and_parts, cases_Bool, or_left, or_parts, or_right}
use Rattle.std.proofs.lemmas.List.Elements.{filter-append}
use Rattle.std.proofs.lemmas.List.Folds.{list_any-append}
use Rattle.tk_ids.specs.IdText.{SegmentView}
use Rattle.tk_ids.specs.Table.{ids_of}
use Rattle.tk_ids.specs.declared.descriptors.Descriptor.{Descriptor}
use Rattle.tk_events.specs.declared.kinds.Kind.TheVariants.{Dynamic, Finished, Started}
use Rattle.tk_record.specs.Recorded.{Recorded}
use Rattle.tk_query_lifecycle.specs.KeepsLifecycle.{IsWhole}
use Rattle.tk_plan.specs.Script.{opening}
use Rattle.tk_plan.specs.Trees.{forest}
use Rattle.tk_plan.specs.declared.trees.nodes.Node.{Node}
use Rattle.tk_plan.specs.declared.trees.nodes.NumberedNode.{NumberedNode}
use Rattle.tk_plan.specs.declared.scripts.steps.Act.TheVariants.{File, Finish, Register, Report, Skip, Start}
use Rattle.tk_report_text.specs.Labels.{Label, labels, same_id, same_kind}
use Rattle.tk_report_text.proofs.Ids.{same_decides}
use Rattle.tk_run_laws.specs.Listening.{finishes, is_of, is_ran, registers, starts}
use Rattle.tk_run_laws.specs.Scripts.{IsRunOf, id_at}
use Rattle.tk_run_laws.proofs.ChainCuts.{shown_none_below}
use Rattle.tk_run_laws.proofs.MoveLabels.{act_label, move_label, of_publications, plan_labels, publications}
use Rattle.tk_run_laws.proofs.Orders.{Only, any_kept, encloses, encloses_kept, filter_kept, none_passes}
use Rattle.tk_run_laws.proofs.PlanTrees.{IsKeyed, IsPlanTree}
use Rattle.tk_run_laws.proofs.Positions.{any_dropped, enclosed_at, past_first}
use Rattle.tk_run_laws.proofs.RecordIds.{ran_of}
use Rattle.tk_run_laws.proofs.RunChains.{chain_law}
use Rattle.tk_run_laws.proofs.SameReports.{chain_one_below}
use Rattle.tk_run_laws.proofs.Scripts.{IsOwn, around, chain_pair_below, either, no_child_of_itself, none_nil, not_eq, own_law_below, run_around}

-- ---- what a node does, around labels of a child of it

left_out : (b : Bool) (l : Label) (ls : List Label) → ls ≡ [] → cond (b && false) (l ∷ ls) ls ≡ []
left_out true l ls h = h
left_out false l ls h = h

not_this : (b c : Bool) → c ≡ false → ((b && false) || c) ≡ false
not_this true c h = h
not_this false c h = h

-- the starts, skips and finishes of an id are whole
abbrev pub StepsAreWhole : List SegmentView → List Label → Type 0
StepsAreWhole i ls = IsWhole (map (λ (l : Label). l.kind) (filter (ran_of i) ls))

register_only : (i : List SegmentView) → Only (registers i) (is_of i)
register_only i l h = (and_parts (is_of i l) (same_kind l.kind Dynamic) h).0

ran_only : (i : List SegmentView) → Only (ran_of i) (is_of i)
ran_only i l h = (and_parts (is_of i l) (is_ran l.kind) h).0

module _ (all : List NumberedNode) (i : List SegmentView) (n : Node) (k : ℕ) (is : same_id (id_at all k) i ≡ true) (below : List Label) (apart : list_any (is_of i) below ≡ false) where
  abbrev own : Bool
  own = same_id (id_at all k) i

  abbrev published : List Label
  published = map (move_label all) (publications n k)

  abbrev last : Label
  last = act_label all k Finish

  whole_run : StepsAreWhole i (run_around all n k below)
  whole_run =
      let first = act_label all k Start in
      let skip = act_label all k Skip in
      let quiet : filter (ran_of i) published ≡ []
      = of_publications (λ ms. filter (ran_of i) (map (move_label all) ms) ≡ []) n k (λ j ms h. left_out own (act_label all k (Report j)) _ h) (λ j ms h. left_out own (act_label all k (File j)) _ h) refl in
      let others : filter (ran_of i) below ≡ [] = filter_kept (is_of i) (ran_of i) (ran_only i) below ∙ ap (filter (ran_of i)) (none_passes (is_of i) below apart) in
      let rest : filter (ran_of i) (published ++ (below ++ last ∷ [])) ≡ last ∷ []
      = filter-append (ran_of i) published (below ++ last ∷ [])
      ∙ ap₂ (λ a b. a ++ b) quiet (filter-append (ran_of i) below (last ∷ []) ∙ ap₂ (λ a b. a ++ b) others (ap (λ b. cond (b && true) (last ∷ []) []) is)) in
      let ran : StepsAreWhole i (map (move_label all) (opening n k) ++ (below ++ last ∷ []))
      = subst (λ ls. IsWhole (map (λ (l : Label). l.kind) ls)) (sym (ap₂ (λ b l. cond (b && true) (first ∷ l) l) is rest)) tt in
      let skipped : StepsAreWhole i (skip ∷ []) = subst (λ b. IsWhole (map (λ (l : Label). l.kind) (cond (b && true) (skip ∷ []) []))) (sym is) tt in
      elim (is_some n.skip) as (λ b. StepsAreWhole i (if b then skip ∷ [] else map (move_label all) (opening n k) ++ (below ++ last ∷ []))) [ true ↦ skipped | false ↦ ran ]

  whole_around : (parent : ℕ) → StepsAreWhole i (around all parent n k below)
  whole_around parent =
      let run = run_around all n k below in
      let first = act_label all k (Register parent) in
      let later : StepsAreWhole i (first ∷ run)
      = subst (λ b. IsWhole (map (λ (l : Label). l.kind) (cond (b && false) (first ∷ filter (ran_of i) run) (filter (ran_of i) run)))) (sym is) whole_run in
      elim n.is_static as (λ b. StepsAreWhole i (if b then run else first ∷ run)) [ true ↦ whole_run | false ↦ later ]

  not_registered : list_any (registers i) (run_around all n k below) ≡ false
  not_registered =
      let rest : list_any (registers i) (published ++ (below ++ last ∷ [])) ≡ false
      = list_any-append (registers i) published (below ++ last ∷ []) ∙ ap₂ (λ b c. b || c)
      (of_publications (λ ms. list_any (registers i) (map (move_label all) ms) ≡ false) n k (λ j ms h. not_this own _ h) (λ j ms h. not_this own _ h) refl)
      (list_any-append (registers i) below (last ∷ []) ∙ ap₂ (λ b c. b || c)
      (any_kept (is_of i) (registers i) (register_only i) below ∙ ap (list_any (registers i)) (none_passes (is_of i) below apart))
      (not_this own false refl)) in
      elim (is_some n.skip) as (λ b. list_any (registers i) (if b then act_label all k Skip ∷ [] else map (move_label all) (opening n k) ++ (below ++ last ∷ [])) ≡ false)
      [ true ↦ not_this own false refl | false ↦ not_this own _ rest ]

  -- only the first label registers it
  registered_first : (parent : ℕ) → list_any (registers i) (drop 1 (around all parent n k below)) ≡ false
  registered_first parent =
      let run = run_around all n k below in
      let none : list_any (registers i) (drop 1 run) ≡ false
      = ⊎_elim (λ t. absurd (true≢false (sym (any_dropped (registers i) run t) ∙ not_registered))) (λ f. f) (cases_Bool (list_any (registers i) (drop 1 run))) in
      elim n.is_static as (λ b. list_any (registers i) (drop 1 (if b then run else act_label all k (Register parent) ∷ run)) ≡ false) [ true ↦ none | false ↦ not_registered ]

  static_unregistered : (parent : ℕ) → (n.is_static ≡ false → ⊥) → list_any (registers i) (around all parent n k below) ≡ false
  static_unregistered parent =
      let run = run_around all n k below in
      elim n.is_static as (λ b. (b ≡ false → ⊥) → list_any (registers i) (if b then run else act_label all k (Register parent) ∷ run) ≡ false)
      [ true ↦ (λ no. not_registered) | false ↦ (λ no. absurd (no refl)) ]

  -- the child's labels stand between the start and the finish
  module _ (c : List SegmentView) (other : same_id (id_at all k) c ≡ false) where
    abbrev is_enclosed : Bool → Bool → List Label → Bool
    is_enclosed a b ls = encloses (starts i) (finishes i) (is_of c) a b ls

    goes_on : (ls : List Label) → is_enclosed true false ls ≡ true → ((not (same_id (id_at all k) c) || true) && is_enclosed true (own && false) ls) ≡ true
    goes_on ls h = ap₂ (λ x y. (not x || true) && is_enclosed true (y && false) ls) other is ∙ h

    below_goes_on : (xs ls : List Label) → list_any (is_of i) xs ≡ false → is_enclosed true false ls ≡ true → is_enclosed true false (xs ++ ls) ≡ true
    below_goes_on [] ls none h = h
    below_goes_on (x ∷ xs) ls none h =
        let both = or_parts (is_of i x) (list_any (is_of i) xs) none in
        ap (λ y. (not (is_of c x) || true) && is_enclosed true (y && same_kind x.kind Finished) (xs ++ ls)) both.0
        ∙ (ap (λ d. d && is_enclosed true false (xs ++ ls)) (or_right (not (is_of c x)) true refl) ∙ below_goes_on xs ls both.1 h)

    enclosed_run : is_enclosed false false (run_around all n k below) ≡ true
    enclosed_run =
        let rest = published ++ (below ++ last ∷ []) in
        let after : is_enclosed true false rest ≡ true
        = of_publications (λ ms. is_enclosed true false (map (move_label all) ms ++ (below ++ last ∷ [])) ≡ true) n k (λ j ms h. goes_on _ h) (λ j ms h. goes_on _ h)
        (below_goes_on below (last ∷ []) apart (ap (λ x. (not x || true) && true) other)) in
        elim (is_some n.skip) as (λ b. is_enclosed false false (if b then act_label all k Skip ∷ [] else map (move_label all) (opening n k) ++ (below ++ last ∷ [])) ≡ true) [
          | true ↦ ap (λ x. (not x || false) && true) other
          | false ↦ ap₂ (λ x y. (not x || false) && is_enclosed (y && true) (y && false) rest) other is ∙ after
        ]

    enclosed_around : (parent : ℕ) → is_enclosed false false (around all parent n k below) ≡ true
    enclosed_around parent =
        let run = run_around all n k below in
        elim n.is_static as (λ b. is_enclosed false false (if b then run else act_label all k (Register parent) ∷ run) ≡ true)
        [ true ↦ enclosed_run | false ↦ ap₂ (λ x y. (not x || false) && is_enclosed (y && false) (y && false) run) other is ∙ enclosed_run ]

-- ---- records that show nodes

-- of an id and a child of it the record has no labels, or those of a node with that id around the child's
pub record ShowsNodes (all : List NumberedNode) (table : List Descriptor) (r : Recorded) : Type 0 where
  pub over : r.table ≡ table
  pub nameless : filter (is_of []) (labels r) ≡ []
  pub own : (i : List SegmentView) (s : SegmentView) → i ≢ [] → IsOwn all (λ p. IsKeyed all table p.node p.number) i s (filter (λ l. either i (i ++ s ∷ []) l.id) (labels r))

-- a segment, for what holds of an id alone
abbrev some_segment : SegmentView
some_segment = record { tag = []; value = [] }

module _ (all : List NumberedNode) (table : List Descriptor) (r : Recorded) (shows : ShowsNodes all table r) where
  -- each event has an id
  pub not_nil : list_any (is_of []) (labels r) ≡ true → ⊥
  not_nil any = true≢false (sym any ∙ (any_kept (is_of []) (is_of []) (λ l h. h) (labels r) ∙ ap (list_any (is_of [])) shows.nameless))

  module _ (i : List SegmentView) (s : SegmentView) (some : i ≢ []) where
    abbrev is_either : Label → Bool
    is_either l = either i (i ++ s ∷ []) l.id

    -- what holds of no labels and of what a node with that id does, holds of the id's and the child's
    of_own : (F : List Label → Type 0) → F []
        → ((n : Node) (k : ℕ) (parent : ℕ) (below : List Label) → same_id (id_at all k) i ≡ true → list_any (is_of i) below ≡ false → IsKeyed all table n k → F (around all parent n k below))
        → F (filter is_either (labels r))
    of_own F none one = ⊎_elim
        (λ e. subst F (sym e) none)
        (λ o. subst F (sym o.labels) (one o.numbered_node.node o.numbered_node.number o.parent o.below o.is o.apart o.holds))
        (shows.own i s some)

    in_either : (p : Label → Bool) → Only p (is_of i) → Only p is_either
    in_either p only l h = or_left (is_of i l) (is_of (i ++ s ∷ []) l) (only l h)

    steps_whole : StepsAreWhole i (labels r)
    steps_whole =
        subst (λ ls. IsWhole (map (λ (l : Label). l.kind) ls)) (sym (filter_kept is_either (ran_of i) (in_either (ran_of i) (ran_only i)) (labels r)))
        (of_own (StepsAreWhole i) tt (λ n k parent below is apart holds. whole_around all i n k is below apart parent))

    registered_early : (p q : ℕ) (a b : Label) → p < q → slice_get (labels r) p ≡ Some a → slice_get (labels r) q ≡ Some b → is_of i a ≡ true → registers i b ≡ true → ⊥
    registered_early p q a b lt at bt is later =
        true≢false (sym (past_first is_either (registers i) (in_either (registers i) (register_only i)) (labels r) p q a b lt at bt (or_left (is_of i a) (is_of (i ++ s ∷ []) a) is) later)
        ∙ of_own (λ ls. list_any (registers i) (drop 1 ls) ≡ false) refl (λ n k parent below is apart holds. registered_first all i n k is below apart parent))

    table_unregistered : (key : ℕ) → slice_get (ids_of table) key ≡ Some i → list_any (registers i) (labels r) ≡ false
    table_unregistered key at =
        any_kept is_either (registers i) (in_either (registers i) (register_only i)) (labels r)
        ∙ of_own (λ ls. list_any (registers i) ls ≡ false) refl (λ n k parent below is apart holds.
        static_unregistered all i n k is below apart parent (λ f. holds.apart f key (at ∙ ap Some (sym ((same_decides (id_at all k) i).0 is)))))

    -- before an event of the child the id has a start and no finish
    pub enclosed : (p : ℕ) (l : Label) → slice_get (labels r) p ≡ Some l → is_of (i ++ s ∷ []) l ≡ true → (list_any (starts i) (take p (labels r)) && not (list_any (finishes i) (take p (labels r)))) ≡ true
    enclosed p l at child =
        enclosed_at (starts i) (finishes i) (is_of (i ++ s ∷ [])) false false (labels r) p l
        (encloses_kept (starts i) (finishes i) (is_of (i ++ s ∷ [])) is_either
        (in_either (starts i) (λ x h. (and_parts (is_of i x) (same_kind x.kind Started) h).0)) (in_either (finishes i) (λ x h. (and_parts (is_of i x) (same_kind x.kind Finished) h).0))
        (λ x h. or_right (is_of i x) (is_of (i ++ s ∷ []) x) h) false false (labels r)
        ∙ of_own (λ ls. encloses (starts i) (finishes i) (is_of (i ++ s ∷ [])) false false ls ≡ true) refl (λ n k parent below is apart holds.
        enclosed_around all i n k is below apart (i ++ s ∷ []) (not_eq (id_at all k) (i ++ s ∷ []) (λ e. no_child_of_itself i s (sym ((same_decides (id_at all k) i).0 is) ∙ e))) parent))
        at child

  -- the id's starts, skips and finishes are whole
  pub whole : (i : List SegmentView) → i ≢ [] → StepsAreWhole i (labels r)
  whole i some = steps_whole i some_segment some

  -- none registers it after an event of it
  pub not_later : (i : List SegmentView) → i ≢ [] → (p q : ℕ) (a b : Label) → p < q → slice_get (labels r) p ≡ Some a → slice_get (labels r) q ≡ Some b → is_of i a ≡ true → registers i b ≡ true → ⊥
  not_later i some = registered_early i some_segment some

  -- an id of the table is never registered
  pub not_of_table : (i : List SegmentView) → i ≢ [] → (key : ℕ) → slice_get (ids_of table) key ≡ Some i → list_any (registers i) (labels r) ≡ false
  not_of_table i some = table_unregistered i some_segment some

-- ---- runs

module _ (all : List NumberedNode) (table : List Descriptor) (workers : ℕ) (r : Recorded) (plan : IsPlanTree all table) (run : IsRunOf all table workers r) where
  pub same_one : (i : List SegmentView) → filter (is_of i) (labels r) ≡ filter (is_of i) (plan_labels all)
  same_one i = chain_law all table workers r plan run (λ j. same_id j i) (chain_one_below all (λ j. same_id j i) (forest all) (plan.distinct i))

  pub run_shows : ShowsNodes all table r
  run_shows = record {
    over = run.over;
    nameless = same_one [] ∙ shown_none_below all (λ j. same_id j []) 0 (forest all) (none_nil all [] (forest all) plan.built);
    own = λ i s some.
        subst (IsOwn all (λ p. IsKeyed all table p.node p.number) i s)
        (sym (chain_law all table workers r plan run (either i (i ++ s ∷ [])) (chain_pair_below all i s [] (forest all) plan.built (λ e. some (sym e)) (plan.distinct i) (plan.distinct (i ++ s ∷ [])))))
        (own_law_below all (λ p. IsKeyed all table p.node p.number) i s [] 0 (forest all) plan.built (λ e. some (sym e)) plan.keyed (plan.distinct i));
  }
