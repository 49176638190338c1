-- The record of a run says of each id what the script says, so it has the plan's report.
use Rattle.std.proofs.Common.{◌≡◌, ◌≤◌, ◌<◌, ℕ, ◌+◌, Bool, true, List, [], ◌∷◌, map, length, bytes_eq, Some, slice_get, refl, sym, ap}
use Rattle.std.proofs.Common.{◌∙◌, arith, inl, inr, ⊎_elim}
use Rattle.std.specs.Option.{option_or}
use Rattle.std.proofs.lemmas.Bool.{cases_Bool}
use Rattle.std.proofs.lemmas.Option.{slice_get_past}
use Rattle.std.specs.Cmp.Lexicographic.{bytes_decides}
use Rattle.tk_report_text.proofs.SameReports.{report_same}
use Rattle.tk_record.specs.Entries.{desc_in}
use Rattle.tk_record.specs.Recorded.{Recorded}
use Rattle.tk_plan.specs.Cutting.{root_script}
use Rattle.tk_plan.specs.Script.{moves_below}
use Rattle.tk_plan.specs.Trees.{Forest, Tree, flat, flats, forest, more, no_trees, tree}
use Rattle.tk_plan.specs.declared.trees.nodes.NumberedNode.{NumberedNode}
use Rattle.tk_ids.specs.IdText.{SegmentView, id_text}
use Rattle.tk_ids.specs.declared.descriptors.Descriptor.{Descriptor}
use Rattle.tk_report_text.proofs.Ids.{text_is_unique, same_decides}
use Rattle.tk_run_laws.proofs.PlayedLabels.{labels_played}
use Rattle.tk_run_laws.proofs.PlayedScripts.{root_plays}
use Rattle.tk_run_laws.proofs.WorkerEvents.{events_by}
use Rattle.tk_run_laws.proofs.MoveLabels.{IsChain, IsChainBelow, about, count_ids, ids_emitted, labels_stamped, plan_labels}
use Rattle.tk_run_laws.proofs.PlanTrees.{IsPlanTree}
use Rattle.tk_run_laws.proofs.RegisteredIds.{emitted_played, first, found_in, hit_at, id_is, ids_under, in_table}
use Rattle.tk_run_laws.proofs.RunChains.{chain_law}
use Rattle.tk_report_text.specs.Labels.{id_in, label, labels, name, same_id}
use Rattle.tk_report_text.specs.Reports.{report_of_record}
use Rattle.tk_queue_session.specs.Emission.{entries_by}
use Rattle.tk_run_laws.specs.Scripts.{IsRunOf, id_at, played, script_record}
use Rattle.tk_run_laws.proofs.Lists.{at_most_tail, count-append, none_left, none_tail, not_none, zero_or}

-- ---- one id is a chain

pub rest_one : (a b c : ℕ) → a ≡ b + c → a ≤ 1 → c ≤ 1
rest_one a b c e h = omega (arith, e, h)

pub first_one : (a b c : ℕ) → a ≡ b + c → a ≤ 1 → b ≤ 1
first_one a b c e h = omega (arith, e, h)

pub rest_zero : (a b c : ℕ) → a ≡ b + c → a ≤ 1 → 0 < b → c ≡ 0
rest_zero a b c e h z = omega (arith, e, h, z)

mutual
  chain_one : (all : List NumberedNode) (q : List SegmentView → Bool) (t : Tree) → count_ids all q (flat t) ≤ 1 → IsChain all q t
  chain_one all q (tree n k f) h = chain_one_below all q f (at_most_tail (q (id_at all k)) (count_ids all q (flats f)) h)

  pub chain_one_below : (all : List NumberedNode) (q : List SegmentView → Bool) (f : Forest) → count_ids all q (flats f) ≤ 1 → IsChainBelow all q f
  chain_one_below all q no_trees h = tt
  chain_one_below all q (more t f) h =
      let e = count-append (λ p. q (id_at all p.number)) (flat t) (flats f) in
      ⊎_elim
      (λ z. inl (z, chain_one_below all q f (rest_one _ _ _ e h)))
      (λ z. inr (chain_one all q t (first_one _ _ _ e h), rest_zero _ _ _ e h z))
      (zero_or (count_ids all q (flat t)))

-- ---- the law

one_plus : (n : ℕ) → n ≡ 0 → 1 + n ≤ 1
one_plus n e = omega (arith, e)

module _ (text : List SegmentView → List ℕ) (text_is_unique : (i j : List SegmentView) → text i ≡ text j → i ≡ j) (all : List NumberedNode) where
  no_others : (i : List SegmentView) (x : List ℕ) (ps : List NumberedNode) → bytes_eq (text i) x ≡ true → count_ids all (λ j. same_id j i) ps ≡ 0 → count_ids all (λ j. bytes_eq (text j) x) ps ≡ 0
  no_others i x [] t h = refl
  no_others i x (p ∷ ps) t h = ⊎_elim
      (λ s.
      let own = id_at all p.number in
      let same : own ≡ i = text_is_unique own i ((bytes_decides (text own) x).0 s ∙ sym ((bytes_decides (text i) x).0 t)) in
      let no : ⊥ = not_none (same_id own i) (count_ids all (λ j. same_id j i) ps) ((same_decides own i).1 same) h in absurd no)
      (λ f. rw f (no_others i x ps t (none_tail (same_id (id_at all p.number) i) (count_ids all (λ j. same_id j i) ps) h)))
      (cases_Bool (bytes_eq (text (id_at all p.number)) x))

  -- at most one node has an id that is written so
  written_once : (ps : List NumberedNode) → ((id : List SegmentView) → count_ids all (λ j. same_id j id) ps ≤ 1) → (x : List ℕ) → count_ids all (λ j. bytes_eq (text j) x) ps ≤ 1
  written_once [] h x = omega arith
  written_once (p ∷ ps) h x = ⊎_elim
      (λ t.
      let own = id_at all p.number in
      let no_more = none_left (same_id own own) (count_ids all (λ j. same_id j own) ps) ((same_decides own own).1 refl) (h own) in
      rw t (one_plus _ (no_others own x ps t no_more)))
      (λ f. rw f (written_once ps (λ id. at_most_tail (same_id (id_at all p.number) id) (count_ids all (λ j. same_id j id) ps) (h id)) x))
      (cases_Bool (bytes_eq (text (id_at all p.number)) x))

module _ (all : List NumberedNode) (table : List Descriptor) (plan : IsPlanTree all table) where
  -- the script's record names each node by its id
  script_name : (j : ℕ) (x : ℕ) → slice_get (ids_emitted (root_script (forest all))) j ≡ Some x → name (script_record all table) (65536 + j) ≡ id_at all x
  script_name j x s =
      let k = 65536 + j in
      let script = root_script (forest all) in
      let es = entries_by 1 (played all (length table) 65536 [] script) in
      let above : length table ≤ k = omega (arith, plan.few_static) in
      ap (λ o. id_in (option_or o (desc_in es k))) (slice_get_past table k above)
      ∙ id_is (desc_in es k) (id_at all x) (found_in k es
      ∙ (ap first (ap (ids_under k) (events_by 1 (played all (length table) 65536 [] script)) ∙ emitted_played all table k 65536 [] script (root_plays all table plan))
      ∙ hit_at (id_at all) k (65536 + 0) j (ids_emitted script) x (omega arith) s))

  script_labels : labels (script_record all table) ≡ plan_labels all
  script_labels =
      let names = name (script_record all table) in
      let script = root_script (forest all) in
      ap (map (label names)) (events_by 1 (played all (length table) 65536 [] script))
      ∙ (labels_played all table names (λ k x e. id_is _ x (in_table table k x _ e)) 65536 [] script (root_plays all table plan) script_name
      ∙ labels_stamped all 0 (moves_below 0 (forest all)))

  pub report_law : (workers : ℕ) (r : Recorded) → IsRunOf all table workers r → report_of_record r ≡ report_of_record (script_record all table)
  report_law workers r run =
      report_same r (script_record all table)
      (λ x. chain_law all table workers r plan run (λ i. bytes_eq (id_text i) x) (chain_one_below all (λ i. bytes_eq (id_text i) x) (forest all) (written_once id_text text_is_unique all (flats (forest all)) plan.distinct x))
      ∙ ap (about (λ i. bytes_eq (id_text i) x)) (sym script_labels))
