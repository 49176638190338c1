-- On a chain a run of a plan is the plan's script.
use Rattle.std.proofs.Common.{◌≡◌, ◌≢◌, ◌≤◌, ◌<◌, ℕ, zero, suc, ◌+◌, ◌*◌, ◌⊎◌, Bool, true, false, List, [], ◌∷◌, ◌++◌, map, length, flat_map, Some, None, slice_get, nat_lt, nat_eq, count_by, sum_by, refl, sym, ap, ap₂, ◌∙◌, arith, tests, subst, append_assoc, append-nil, if◌then◌else◌, inl, inr, ⊎_elim}
use Rattle.std.specs.Option.{option_or}
use Rattle.std.proofs.lemmas.Bool.{cases_order}
use Rattle.std.proofs.lemmas.List.{map-append, length-map}
use Rattle.std.proofs.lemmas.List.Elements.{filter-append}
use Rattle.std.proofs.lemmas.Grind.{flat_map-append}
use Rattle.std.proofs.lemmas.List.Recursion.{is_count_by, is_sum_by}
use Rattle.std.proofs.lemmas.Option.{same_Some, slice_get_cases, slice_get_past, slice_get_within}
use Rattle.tk_record.specs.Recorded.{Recorded}
use Rattle.tk_record.specs.Entries.{desc_in}
use Rattle.tk_record.specs.Mixing.{of_worker}
use Rattle.tk_plan.specs.Cutting.{after_of, before_of, parts_below, pieces_of, script_of, units_of}
use Rattle.tk_plan.specs.Cutting as cut
use Rattle.tk_plan.specs.Script.{moves}
use Rattle.tk_plan.specs.Trees.{forest, number_of}
use Rattle.tk_plan.specs.declared.trees.nodes.NumberedNode.{NumberedNode}
use Rattle.tk_plan.proofs.Cuts.{parts_below-moves}
use Rattle.tk_events.specs.declared.events.Event.{Event}
use Rattle.tk_ids.specs.IdText.{SegmentView}
use Rattle.tk_ids.specs.Table.{ids_of}
use Rattle.tk_ids.specs.declared.descriptors.Descriptor.{Descriptor}
use Rattle.tk_run_laws.proofs.ChainCuts.{cut_below, one_part_below, pieces_shown, shows, unit_moves}
use Rattle.tk_run_laws.proofs.Lists.{IsLone, all_drawn, at, copies, copies_by, list_gives, lone, lone_is, one_drawn, times, times_in}
use Rattle.tk_run_laws.proofs.MoveLabels.{IsChainBelow, about, drawn_ids, ids_emitted, labels_stamped, plan_labels, shown, step_label}
use Rattle.tk_run_laws.proofs.PlanTrees.{IsPlanTree}
use Rattle.tk_run_laws.proofs.PlayedLabels.{get_prefix, labels_begin, labels_end, labels_played}
use Rattle.tk_run_laws.proofs.PlayedScripts.{parts_known, unit_plays}
use Rattle.tk_run_laws.proofs.RegisteredIds.{emitted_emitted, first, found_in, hit_at, hits, hits_above, hits_below, id_is, id_under, ids_under, ids_under-append, in_table, registrations_played, static_under}
use Rattle.tk_run_laws.proofs.RegistrationCounts.{few_drawn}
use Rattle.tk_run_laws.proofs.WorkerEvents.{events-append, events_by, mix_one, no_events}
use Rattle.tk_report_text.specs.Labels.{Label, events, id_in, label, labels, name}
use Rattle.tk_claims.specs.Claims.{Claims}
use Rattle.tk_claims.specs.Run.{Emits}
use Rattle.tk_queue_session.specs.Emission.{entries_by, registrations}
use Rattle.tk_run_laws.specs.Scripts.{ArePlayable, IsRunOf, id_at, may}

-- ---- what a worker emits

get_back : {A : Type 0} (xs ys : List A) (i : ℕ) → slice_get (xs ++ ys) (length xs + i) ≡ slice_get ys i
get_back [] ys i = ap (slice_get ys) (let e : 0 + i ≡ i = omega arith in e)
get_back (x ∷ xs) ys i = ap (slice_get (x ∷ (xs ++ ys))) (let e : suc (length xs) + i ≡ suc (length xs + i) = omega arith in e) ∙ get_back xs ys i

is_seat : (i drawn workers : ℕ) → i < drawn → drawn ≡ workers → i + 1 ≤ workers
is_seat i drawn workers a b = omega (arith, a, b)

no_seat : (i drawn workers : ℕ) → drawn ≤ i → drawn ≡ workers → workers < i + 1
no_seat i drawn workers a b = omega (arith, a, b)

-- ---- numbers that workers drew

times_within : (u : ℕ) (lists : List (List ℕ)) (i : ℕ) (us : List ℕ) → slice_get lists i ≡ Some us → times u us ≤ times_in u lists
times_within u [] i us e = cc
times_within u (l ∷ ls) zero us e = let same : l ≡ us = cc in subst (λ x. times u x ≤ times u l + times_in u ls) same (omega arith)
times_within u (l ∷ ls) (suc i) us e = let h = times_within u ls i us e in omega (arith, h)

once_of : (b : Bool) (all one : ℕ) → all ≡ (if b then 1 else 0) → one ≤ all → one ≤ 1
once_of true all one e h = omega (arith, e, h)
once_of false all one e h = omega (arith, e, h)

times_is : (u : ℕ) (xs : List ℕ) → times u xs ≡ count_by (λ y. nat_eq y u) xs
times_is u = is_count_by (times u) (λ y. nat_eq y u) refl (λ x xs. refl)

times_in_is : (u : ℕ) (lists : List (List ℕ)) → times_in u lists ≡ sum_by (λ xs. count_by (λ y. nat_eq y u) xs) lists
times_in_is u = is_sum_by (times_in u) (λ xs. count_by (λ y. nat_eq y u) xs) refl (λ l ls. ap (λ n. n + times_in u ls) (times_is u l))

claimed_once : (n : ℕ) (lists : List (List ℕ)) → Claims lists n → (u : ℕ) → times_in u lists ≡ if nat_lt u n then 1 else 0
claimed_once n lists c u = times_in_is u lists ∙ c.once u

at_most_once : (n : ℕ) (lists : List (List ℕ)) → Claims lists n → (i : ℕ) (us : List ℕ) → slice_get lists i ≡ Some us → (u : ℕ) → times u us ≤ 1
at_most_once n lists c i us e u = once_of (nat_lt u n) (times_in u lists) (times u us) (claimed_once n lists c u) (times_within u lists i us e)

key_of_other : (w v j n : ℕ) → j < n → n ≤ 65536 → v ≢ w → (65536 * (w + 1) + 0 + j < 65536 * (v + 1) + 0) ⊎ (65536 * (v + 1) + 0 + 65536 ≤ 65536 * (w + 1) + 0 + j)
key_of_other w v j n h g d = ⊎_elim
    (λ e. absurd (d e))
    (λ o. ⊎_elim
    (λ l. inr (let x : 65536 * (v + 1) + 0 + 65536 ≤ 65536 * (w + 1) + 0 + j = omega (arith, l) in x))
    (λ l. inl (let x : 65536 * (w + 1) + 0 + j < 65536 * (v + 1) + 0 = omega (arith, l, h, g) in x))
    o)
    (cases_order v w)

few_end : (a b : ℕ) → a ≤ b → b ≤ 65536 → a ≤ 65536
few_end a b h g = omega (arith, h, g)

above : (a b c : ℕ) → a + 65536 ≤ b → c ≤ 65536 → a + c ≤ b
above a b c h g = omega (arith, h, g)

pub above_table : (i j n : ℕ) → n ≤ 65536 → n ≤ 65536 * (i + 1) + 0 + j
above_table i j n h = omega (arith, h)

claimed : (b : Bool) (n : ℕ) → n ≡ (if b then 1 else 0) → n ≤ 1
claimed true n e = omega (arith, e)
claimed false n e = omega (arith, e)

module _ (all : List NumberedNode) (table : List Descriptor) where
  labels_emitted : (names : ℕ → List SegmentView) → ((u : ℕ) → ArePlayable all table [] (script_of (forest all) u))
      → (w n : ℕ) (us : List ℕ) (l : List Event)
      → ((k : ℕ) (x : List SegmentView) → slice_get (ids_of table) k ≡ Some x → names k ≡ x)
      → ((j : ℕ) (x : ℕ) → slice_get (drawn_ids all us) j ≡ Some x → names (65536 * w + n + j) ≡ id_at all x)
      → Emits (may all table) w n us l → map (label names) l ≡ map (step_label all) (flat_map (script_of (forest all)) us)
  labels_emitted names plays w n [] l by_table by_run e = ap (map (label names)) e
  labels_emitted names plays w n (u ∷ us) l by_table by_run (a, b, whole, run, rest) =
      let script = script_of (forest all) u in
      let ids = ids_emitted script in
      let count = registrations_played all table (65536 * w + n) script a run in
      let prefix : (j : ℕ) (y : ℕ) → slice_get ids j ≡ Some y → names (65536 * w + n + j) ≡ id_at all y
      = λ j y g. by_run j y (get_prefix ids (drawn_ids all us) j y g) in
      let back : (j : ℕ) (y : ℕ) → slice_get (drawn_ids all us) j ≡ Some y → names (65536 * w + (n + registrations a) + j) ≡ id_at all y
      = λ j y g. ap names (let s : 65536 * w + (n + registrations a) + j ≡ 65536 * w + n + (length ids + j) = omega (arith, count) in s)
      ∙ by_run (length ids + j) y (get_back ids (drawn_ids all us) j ∙ g) in
      let more = labels_emitted names plays w (n + registrations a) us b by_table back rest in
      ap (map (label names)) whole ∙ (map-append (label names) a b ∙ (ap₂ (λ c d. c ++ d)
      (ap (map (label names)) run ∙ labels_played all table names by_table (65536 * w + n) [] script (plays u) prefix)
      more
      ∙ sym (map-append (step_label all) script (flat_map (script_of (forest all)) us))))

module _ (all : List NumberedNode) (table : List Descriptor) (workers : ℕ) (r : Recorded) (plan : IsPlanTree all table) (run : IsRunOf all table workers r) where
  abbrev names : ℕ → List SegmentView
  names = name r

  -- what worker i + 1 did
  abbrev WorkerDid : ℕ → Type 0
  WorkerDid i =
      ((slice_get run.shared.drawn i ≡ None) × (of_worker (i + 1) run.mid ≡ []))
      ⊎ ((us : List ℕ) × (slice_get run.shared.drawn i ≡ Some us) × Emits (may all table) (i + 1) 0 us (of_worker (i + 1) run.mid))

  worker_did : (i : ℕ) → WorkerDid i
  worker_did i = ⊎_elim
      (λ us.
      let own : of_worker (i + 1) run.mid ≡ run.shared.lists (i + 1) = run.shared.mix.each (i + 1) (omega arith, is_seat i _ _ us.1 run.shared.seats) in
      inr (us.0, us.2, subst (Emits (may all table) (i + 1) 0 us.0) (sym own) (run.shared.emits i us.0 us.2)))
      (λ none. inl (none.1, no_events workers (i + 1) run.mid run.shared.mix.workers (inr (no_seat i _ _ none.0 run.shared.seats))))
      (slice_get_cases run.shared.drawn i).1

  claims : (u : ℕ) → times_in u run.shared.drawn ≡ if nat_lt u (length (pieces_of (forest all))) then 1 else 0
  claims u = claimed_once (length (units_of (forest all))) run.shared.drawn run.shared.claims u ∙ ap (λ n. if nat_lt u n then 1 else 0) (length-map (pieces_of (forest all)) (λ x. number_of x.tree))

  plays : (u : ℕ) → ArePlayable all table [] (script_of (forest all) u)
  plays = unit_plays all table plan

  few_ids : (i : ℕ) (us : List ℕ) → slice_get run.shared.drawn i ≡ Some us → length (drawn_ids all us) ≤ 65536
  few_ids i us e = few_end _ _ (few_drawn all plan.statics us (at_most_once _ run.shared.drawn run.shared.claims i us e)) plan.few_dynamic

  -- the record's events: before, shared, after
  three : events r.entries ≡ before_of (forest all) ++ (events run.mid ++ after_of (forest all))
  three =
      let b = before_of (forest all) in
      let a = after_of (forest all) in
      ap events (run.whole ∙ append_assoc (entries_by 0 b) run.mid (entries_by 0 a)) ∙ (events-append (entries_by 0 b) _
      ∙ ap₂ (λ x y. x ++ y) (events_by 0 b) (events-append run.mid _ ∙ ap (λ l. events run.mid ++ l) (events_by 0 a)))

  name_table : (k : ℕ) (x : List SegmentView) → slice_get (ids_of table) k ≡ Some x → names k ≡ x
  name_table k x e = ap (λ t. id_in (option_or (slice_get t k) (desc_in r.entries k))) run.over ∙ id_is _ x (in_table table k x (desc_in r.entries k) e)

  name_above : (k : ℕ) (x : List SegmentView) → length table ≤ k → first (ids_under k (events r.entries)) ≡ Some x → names k ≡ x
  name_above k x l e =
      ap (λ t. id_in (option_or (slice_get t k) (desc_in r.entries k))) run.over
      ∙ (ap (λ o. id_in (option_or o (desc_in r.entries k))) (slice_get_past table k l) ∙ id_is (desc_in r.entries k) x (found_in k r.entries ∙ e))

  emitted_by : (v k : ℕ) (us : List ℕ) → Emits (may all table) (v + 1) 0 us (of_worker (v + 1) run.mid)
      → ids_under k (of_worker (v + 1) run.mid) ≡ map (id_at all) (hits k (65536 * (v + 1) + 0) (drawn_ids all us))
  emitted_by v k us e = emitted_emitted all table plays k (v + 1) 0 us (of_worker (v + 1) run.mid) e

  emitted_other : (i j : ℕ) (us : List ℕ) (x : ℕ) → slice_get run.shared.drawn i ≡ Some us → slice_get (drawn_ids all us) j ≡ Some x
      → (v : ℕ) → v ≢ i + 1 → ids_under (65536 * (i + 1) + 0 + j) (of_worker v run.mid) ≡ []
  emitted_other i j us x e s zero n = ap (ids_under (65536 * (i + 1) + 0 + j)) (no_events workers 0 run.mid run.shared.mix.workers (inl refl))
  emitted_other i j us x e s (suc v) n =
      let key = 65536 * (i + 1) + 0 + j in
      let same : suc v ≡ v + 1 = omega arith in
      ap (λ w. ids_under key (of_worker w run.mid)) same ∙ ⊎_elim
      (λ none. ap (ids_under key) none.1)
      (λ did. emitted_by v key did.0 did.2 ∙ ap (map (id_at all)) (⊎_elim
      (λ l. hits_below key (65536 * (v + 1) + 0) (drawn_ids all did.0) l)
      (λ l. hits_above key (65536 * (v + 1) + 0) (drawn_ids all did.0) (above _ _ _ l (few_ids v did.0 did.1)))
      (key_of_other i v j (length (drawn_ids all us)) (slice_get_within (drawn_ids all us) j x s) (few_ids i us e)
      (λ no. n (same ∙ ap (λ z. z + 1) no)))))
      (worker_did v)

  emitted_drawn : (i j : ℕ) (us : List ℕ) (x : ℕ) → slice_get run.shared.drawn i ≡ Some us → slice_get (drawn_ids all us) j ≡ Some x
      → ids_under (65536 * (i + 1) + 0 + j) (events r.entries) ≡ map (id_at all) (hits (65536 * (i + 1) + 0 + j) (65536 * (i + 1) + 0) (drawn_ids all us))
  emitted_drawn i j us x e s =
      let key = 65536 * (i + 1) + 0 + j in
      let other = emitted_other i j us x e s in
      let whole : ids_under key (events r.entries) ≡ ids_under key (of_worker (i + 1) run.mid)
      = ap (ids_under key) three ∙ (ids_under-append key (before_of (forest all)) _ ∙ (ap₂ (λ a b. a ++ b) (static_under table key (before_of (forest all)) plan.before)
      (ids_under-append key (events run.mid) (after_of (forest all)) ∙ (ap₂ (λ a b. a ++ b) (mix_one (id_under key) (i + 1) run.mid other) (static_under table key (after_of (forest all)) plan.after) ∙ append-nil _)))) in
      let own : ids_under key (of_worker (i + 1) run.mid) ≡ map (id_at all) (hits key (65536 * (i + 1) + 0) (drawn_ids all us)) = ⊎_elim
      (λ none. let bad : Some us ≡ None = sym e ∙ none.0 in cc)
      (λ did.
      let same : did.0 ≡ us = same_Some _ _ (sym did.1 ∙ e) in
      subst (λ z. ids_under key (of_worker (i + 1) run.mid) ≡ map (id_at all) (hits key (65536 * (i + 1) + 0) (drawn_ids all z)))
      same (emitted_by i key did.0 did.2))
      (worker_did i) in
      whole ∙ own

  name_drawn : (i j : ℕ) (us : List ℕ) (x : ℕ) → slice_get run.shared.drawn i ≡ Some us → slice_get (drawn_ids all us) j ≡ Some x
      → names (65536 * (i + 1) + 0 + j) ≡ id_at all x
  name_drawn i j us x e s =
      let key = 65536 * (i + 1) + 0 + j in
      name_above key (id_at all x) (above_table i j (length table) plan.few_static)
      (ap first (emitted_drawn i j us x e s) ∙ hit_at (id_at all) key (65536 * (i + 1) + 0) j (drawn_ids all us) x refl s)

  -- ---- the chain

  module _ (q : List SegmentView → Bool) (chain : IsChainBelow all q (forest all)) where
    tells_about : Event → List Label
    tells_about = λ e. about q (label names e ∷ [])

    gives : ℕ → List Label
    gives = λ u. about q (map (step_label all) (script_of (forest all) u))

    about_events : (es : List Event) → about q (map (label names) es) ≡ flat_map tells_about es
    unfolding tells_about
    about_events [] = refl
    about_events (e ∷ es) = filter-append (λ l. q l.id) (label names e ∷ []) (map (label names) es) ∙ ap (λ l. about q (label names e ∷ []) ++ l) (about_events es)

    -- what units give in turn
    units_in_turn : (us : List ℕ) → about q (map (step_label all) (flat_map (script_of (forest all)) us)) ≡ flat_map gives us
    unfolding gives
    units_in_turn [] = refl
    units_in_turn (u ∷ us) =
        let script = script_of (forest all) u in
        let rest = flat_map (script_of (forest all)) us in
        ap (about q) (map-append (step_label all) script rest) ∙ (filter-append (λ l. q l.id) (map (step_label all) script) (map (step_label all) rest)
        ∙ ap (λ l. about q (map (step_label all) script) ++ l) (units_in_turn us))

    worker_gives : (i : ℕ) (us : List ℕ) → slice_get run.shared.drawn i ≡ Some us → Emits (may all table) (i + 1) 0 us (of_worker (i + 1) run.mid)
        → flat_map tells_about (of_worker (i + 1) run.mid) ≡ flat_map gives us
    worker_gives i us e did =
        sym (about_events (of_worker (i + 1) run.mid)) ∙ (ap (about q) (labels_emitted all table names plays (i + 1) 0 us (of_worker (i + 1) run.mid)
        name_table (λ j x s. name_drawn i j us x e s) did) ∙ units_in_turn us)

    abbrev units : List cut.Piece
    units = pieces_of (forest all)

    lone_unit : IsLone (shows all q) units
    lone_unit = lone (shows all q) units (one_part_below all q true (forest all) chain 0)

    -- a unit gives what it shows
    gives_shown : (u : ℕ) (x : cut.Piece) → slice_get units u ≡ Some x → gives u ≡ shows all q x
    unfolding gives
    gives_shown u x e = ap (λ o. about q (map (step_label all) (cut.steps_of o))) e ∙ ap (about q) (labels_stamped all x.first (moves x.tree))

    gives_none : (u : ℕ) → slice_get units u ≡ None → gives u ≡ []
    unfolding gives
    gives_none u e = ap (λ o. about q (map (step_label all) (cut.steps_of o))) e

    gives_nothing : (u : ℕ) → u ≢ lone_unit.position → gives u ≡ []
    gives_nothing u n = ⊎_elim
        (λ x. gives_shown u x.0 x.2 ∙ lone_unit.others u x.0 x.2 n)
        (λ none. gives_none u none.1)
        (slice_get_cases units u).1

    -- the list of the worker that drew that unit
    lone_list : IsLone (list_gives gives lone_unit.position gives_nothing) run.shared.drawn
    lone_list =
        lone (list_gives gives lone_unit.position gives_nothing) run.shared.drawn
        (one_drawn gives lone_unit.position gives_nothing run.shared.drawn (claimed (nat_lt lone_unit.position (length units)) _ (claims lone_unit.position)))

    worker_nothing : (v : ℕ) → v ≢ lone_list.position + 1 → flat_map tells_about (of_worker v run.mid) ≡ []
    worker_nothing zero n = ap (flat_map tells_about) (no_events workers 0 run.mid run.shared.mix.workers (inl refl))
    worker_nothing (suc v) n =
        let same : suc v ≡ v + 1 = omega arith in
        ap (λ w. flat_map tells_about (of_worker w run.mid)) same ∙ ⊎_elim
        (λ none. ap (flat_map tells_about) none.1)
        (λ did. worker_gives v did.0 did.1 did.2 ∙ lone_list.others v did.0 did.1 (λ no. n (same ∙ ap (λ z. z + 1) no)))
        (worker_did v)

    shared_gives : flat_map tells_about (events run.mid) ≡ copies (times_in lone_unit.position run.shared.drawn) (gives lone_unit.position)
    shared_gives =
        let list = list_gives gives lone_unit.position gives_nothing in
        mix_one tells_about (lone_list.position + 1) run.mid worker_nothing ∙ (⊎_elim
        (λ none. ap (flat_map tells_about) none.1 ∙ sym (ap (at list) none.0))
        (λ did. worker_gives lone_list.position did.0 did.1 did.2 ∙ sym (ap (at list) did.1))
        (worker_did lone_list.position)
        ∙ (sym (lone_is list run.shared.drawn lone_list.position lone_list.others) ∙ all_drawn gives lone_unit.position gives_nothing run.shared.drawn))

    units_give : shown all q (flat_map unit_moves (parts_below true (forest all))) ≡ gives lone_unit.position
    units_give =
        sym (pieces_shown all q 0 (parts_below true (forest all))) ∙ (lone_is (shows all q) units lone_unit.position lone_unit.others ∙ ⊎_elim
        (λ x. ap (at (shows all q)) x.2 ∙ sym (gives_shown lone_unit.position x.0 x.2))
        (λ none. ap (at (shows all q)) none.1 ∙ sym (gives_none lone_unit.position none.1))
        (slice_get_cases units lone_unit.position).1)

    copied : copies (times_in lone_unit.position run.shared.drawn) (gives lone_unit.position) ≡ gives lone_unit.position
    copied = copies_by _ _ (gives lone_unit.position) (claims lone_unit.position) ∙ ⊎_elim
        (λ x. let lt : nat_lt lone_unit.position (length units) ≡ true = grind (arith, tests, x.1) in
        ap (λ b. copies (if b then 1 else 0) (gives lone_unit.position)) lt ∙ append-nil (gives lone_unit.position))
        (λ none. let lt : nat_lt lone_unit.position (length units) ≡ false = grind (arith, tests, none.0) in
        ap (λ b. copies (if b then 1 else 0) (gives lone_unit.position)) lt ∙ sym (gives_none lone_unit.position none.1))
        (slice_get_cases units lone_unit.position).1

    -- what a run says of a chain is what the plan's script says of it
    pub chain_law : about q (labels r) ≡ about q (plan_labels all)
    chain_law =
        let ps = parts_below true (forest all) in
        let known = parts_known all table plan in
        about_events (events r.entries) ∙ (ap (flat_map tells_about) three ∙ (flat_map-append tells_about (before_of (forest all)) _ ∙ (ap₂ (λ a b. a ++ b)
        (sym (about_events (before_of (forest all))) ∙ ap (about q) (labels_begin all table names name_table 0 ps known))
        (flat_map-append tells_about (events run.mid) (after_of (forest all)) ∙ ap₂ (λ a b. a ++ b)
        (shared_gives ∙ (copied ∙ sym units_give))
        (sym (about_events (after_of (forest all))) ∙ ap (about q) (labels_end all table names name_table 0 ps known)))
        ∙ (sym (cut_below all q true (forest all) chain) ∙ ap (shown all q) (parts_below-moves true 0 (forest all) plan.statics)))))
