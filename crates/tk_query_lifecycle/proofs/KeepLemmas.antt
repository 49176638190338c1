-- A record breaks no rule and nothing runs at its end exactly where it keeps the lifecycle.
use Rattle.std.proofs.Common.{◌≡◌, ℕ, zero, suc, ◌+◌, ◌-◌, ◌<◌, ◌≤◌, ◌⊎◌, ⊎_elim, inl, inr, Bool, true, false, ◌&&◌, ◌||◌, not, List, [], ◌∷◌, ◌++◌, length, take, drop, Option, Some, None, refl, sym, ap, ◌∙◌, subst, arith, eq-eqb, eqb-true, append-nil}
use Rattle.std.specs.Prelude.{◌==◌, if◌then◌else◌, slice_get, bytes_eq}
use Rattle.std.specs.List.{list_any}
use Rattle.std.proofs.lemmas.Bool.{true≢false, or_cases, and_parts}
use Rattle.std.proofs.lemmas.List.{take-take, take_all, take-append-drop, length-take-le}
use Rattle.std.proofs.lemmas.Option.{same_Some, none-some, slice_get_within}
use Rattle.std.proofs.lemmas.Slice.Eq.{bytes_eq-Decides}
use Rattle.tk_ids.specs.IdText.{SegmentView, parent_of}
use Rattle.tk_ids.specs.Table.{AreDifferent}
use Rattle.tk_ids.specs.declared.descriptors.Descriptor.{Descriptor}
use Rattle.tk_events.specs.declared.kinds.Kind.{Kind}
use Rattle.tk_events.specs.declared.kinds.Kind.TheVariants.{Dynamic, Skipped, Started, Finished, Reporting, File}
use Rattle.tk_events.specs.declared.events.Entry.{Entry}
use Rattle.tk_events.specs.Event.{kind_code}
use Rattle.tk_record.specs.Entries.{of_kind, desc, with_entry}
use Rattle.tk_record.specs.Recorded.{Recorded}
use Rattle.tk_query_lifecycle.specs.Lifecycle.{is_event, has_event, has_run, runs, HasId, KnowsId, BreaksNone, NoneBreaks, IsInOrder, HasNoRunningParent, RunsAgain, EndsNothing, LeavesChild, first_entries}
use Rattle.tk_query_lifecycle.specs.KeepsLifecycle.{is_step, steps_of, IsBelowRunning, KeepsLifecycle}
use Rattle.tk_query_lifecycle.specs.LifecycleLaws.{InOrderByItsEvents, KeptByItsEvents}
use Rattle.tk_query_lifecycle.specs.declared.lifecycle_rules.LifecycleRule.TheVariants.{IdKnown, ParentUnknown, ParentNotRunning, RanAlready, NotRunning, ChildRunning}
use Rattle.tk_query_lifecycle.proofs.FirstEntries.{first_more, desc_first, has_id_more, one_id}
use Rattle.tk_query_lifecycle.proofs.IdMapLemmas.{ids_first, known_or_new}
use Rattle.tk_query_lifecycle.proofs.ListLemmas.{there}
use Rattle.tk_query_lifecycle.proofs.StepLemmas.{has_steps, has_run_steps, runs_steps, steps_append, steps_at, SoFar, nothing, begin_more, end_more, whole_at_end, to_whole, whole_rests, no_begin_before, end_runs, later_finish}

-- whether two ids are the same
same_segment : (s t : SegmentView) → s.tag ≡ t.tag → s.value ≡ t.value → s ≡ t
same_segment s t a b = ap (λ x. let v : SegmentView = record { tag = x; value = s.value } in v) a ∙ ap (λ x. let v : SegmentView = record { tag = t.tag; value = x } in v) b

cons_same : (s t : SegmentView) (a b : List SegmentView) → s ≡ t → a ≡ b → s ∷ a ≡ t ∷ b
cons_same s t a b e f = ap (λ x. x ∷ a) e ∙ ap (λ l. t ∷ l) f

tail_same : (s t : SegmentView) (a b : List SegmentView) → s ∷ a ≡ t ∷ b → a ≡ b
tail_same s t a b e = cc

head_same : (s t : SegmentView) (a b : List SegmentView) → s ∷ a ≡ t ∷ b → s ≡ t
head_same s t a b e = cc

nil_not_cons : (t : SegmentView) (b : List SegmentView) → [] ≡ t ∷ b → ⊥
nil_not_cons t b e = cc

id_eq : (a b : List SegmentView) → (a ≡ b) ⊎ (a ≡ b → ⊥)
id_eq [] [] = inl refl
id_eq [] (t ∷ b) = inr (λ e. nil_not_cons t b e)
id_eq (s ∷ a) [] = inr (λ e. nil_not_cons s a (sym e))
id_eq (s ∷ a) (t ∷ b) = by (bytes_eq s.tag t.tag) refl (bytes_eq s.value t.value) refl (id_eq a b)
  where
    by : (x : Bool) → bytes_eq s.tag t.tag ≡ x → (y : Bool) → bytes_eq s.value t.value ≡ y → (a ≡ b) ⊎ (a ≡ b → ⊥) → (s ∷ a ≡ t ∷ b) ⊎ (s ∷ a ≡ t ∷ b → ⊥)
    by true e true f (inl g) = inl (cons_same s t a b (same_segment s t ((bytes_eq-Decides s.tag t.tag).0 e) ((bytes_eq-Decides s.value t.value).0 f)) g)
    by true e true f (inr g) = inr (λ h. g (tail_same s t a b h))
    by true e false f g = inr (λ h. true≢false (sym ((bytes_eq-Decides s.value t.value).1 (ap (λ (v : SegmentView). v.value) (head_same s t a b h))) ∙ f))
    by false e y f g = inr (λ h. true≢false (sym ((bytes_eq-Decides s.tag t.tag).1 (ap (λ (v : SegmentView). v.tag) (head_same s t a b h))) ∙ e))

has_id_or_not : (r : Recorded) (key : ℕ) (id : List SegmentView) → HasId r key id ⊎ (HasId r key id → ⊥)
has_id_or_not r key id = by (desc r key) refl
  where
    by : (o : Option Descriptor) → desc r key ≡ o → HasId r key id ⊎ (HasId r key id → ⊥)
    by None is = inr (λ h. none-some h.descriptor (sym is ∙ h.described))
    by (Some d) is = ⊎_elim {C = HasId r key id ⊎ (HasId r key id → ⊥)}
        (λ (e : d.id ≡ id). inl (record { descriptor = d; described = is; id_is = e }))
        (λ (n : d.id ≡ id → ⊥). inr (λ h. n (ap (λ (x : Descriptor). x.id) (same_Some d h.descriptor (sym is ∙ h.described)) ∙ h.id_is)))
        (id_eq d.id id)

-- a key of the id runs, or none that these events start does
abbrev IsSearched : Recorded → List SegmentView → List Entry → Type 0
IsSearched past id es =
    ((key : ℕ) × HasId past key id × (runs key past.entries ≡ true))
    ⊎ ((key : ℕ) → has_event Started key es ≡ true → HasId past key id → runs key past.entries ≡ false)

started_here : (e : Entry) (key : ℕ) → is_event Started key e ≡ true → e.event.key ≡ key
started_here e key h = eqb-true e.event.key key (and_parts (of_kind Started e) (e.event.key == key) h).1

find_running : (past : Recorded) (id : List SegmentView) (es : List Entry) → IsSearched past id es
find_running past id [] = inr (λ key started h. absurd (true≢false (sym started)))
find_running past id (e ∷ es) = ⊎_elim {C = IsSearched past id (e ∷ es)}
    (λ (found : (key : ℕ) × HasId past key id × (runs key past.entries ≡ true)). inl found)
    (λ (rest : (key : ℕ) → has_event Started key es ≡ true → HasId past key id → runs key past.entries ≡ false).
    ⊎_elim {C = IsSearched past id (e ∷ es)}
    (λ (h : HasId past e.event.key id). by h rest (runs e.event.key past.entries) refl)
    (λ (n : HasId past e.event.key id → ⊥). inr (λ key started h. ⊎_elim {C = runs key past.entries ≡ false}
    (λ (here : is_event Started key e ≡ true). absurd (n (subst (λ k. HasId past k id) (sym (started_here e key here)) h)))
    (λ (later : has_event Started key es ≡ true). rest key later h)
    (or_cases (is_event Started key e) (has_event Started key es) started)))
    (has_id_or_not past e.event.key id))
    (find_running past id es)
  where
    by : HasId past e.event.key id → ((key : ℕ) → has_event Started key es ≡ true → HasId past key id → runs key past.entries ≡ false) → (b : Bool) → runs e.event.key past.entries ≡ b → IsSearched past id (e ∷ es)
    by h rest true is = inl (e.event.key, h, is)
    by h rest false is = inr (λ key started g. ⊎_elim {C = runs key past.entries ≡ false}
        (λ (here : is_event Started key e ≡ true). ap (λ k. runs k past.entries) (sym (started_here e key here)) ∙ is)
        (λ (later : has_event Started key es ≡ true). rest key later g)
        (or_cases (is_event Started key e) (has_event Started key es) started))

below_running : (r : Recorded) (p : ℕ) (e : Entry) → BreaksNone (first_entries p r) e → IsBelowRunning r p e
below_running r p e none id its below =
    let past = first_entries p r in
    ⊎_elim {C = (parent : ℕ) × HasId past parent (parent_of id) × (runs parent past.entries ≡ true)}
    (λ (found : (key : ℕ) × HasId past key (parent_of id) × (runs key past.entries ≡ true)). found)
    (λ (rest : (key : ℕ) → has_event Started key past.entries ≡ true → HasId past key (parent_of id) → runs key past.entries ≡ false).
    absurd (none ParentNotRunning (let h : HasNoRunningParent past e = record { id = id; its = its; below = below; at_rest = λ key h. by rest key h (runs key past.entries) refl } in h)))
    (find_running past (parent_of id) past.entries)
  where
    by : ((key : ℕ) → has_event Started key (take p r.entries) ≡ true → HasId (first_entries p r) key (parent_of id) → runs key (take p r.entries) ≡ false)
        → (key : ℕ) → HasId (first_entries p r) key (parent_of id) → (b : Bool) → runs key (take p r.entries) ≡ b → runs key (take p r.entries) ≡ false
    by rest key h true is = rest key (and_parts (has_event Started key (take p r.entries)) (not (has_event Finished key (take p r.entries))) is).0 h
    by rest key h false is = is

-- one more event of a key, which breaks no rule
own_more : (past : Recorded) (e : Entry) → BreaksNone past e → (kind : Kind) → e.event.kind ≡ kind → is_step kind ≡ true → SoFar (steps_of e.event.key past.entries) → SoFar (steps_of e.event.key past.entries ++ kind ∷ [])
own_more past e none Started at step so = begin_more _ Started so (sym (has_run_steps e.event.key past.entries) ∙ by (has_run e.event.key past.entries) refl) (inl refl)
  where
    by : (b : Bool) → has_run e.event.key past.entries ≡ b → has_run e.event.key past.entries ≡ false
    by true is = absurd (none RanAlready (let h : RunsAgain past e = record { begins = ap (λ k. (kind_code k == kind_code Started) || (kind_code k == kind_code Skipped)) at; ran = is } in h))
    by false is = is
own_more past e none Skipped at step so = begin_more _ Skipped so (sym (has_run_steps e.event.key past.entries) ∙ by (has_run e.event.key past.entries) refl) (inr refl)
  where
    by : (b : Bool) → has_run e.event.key past.entries ≡ b → has_run e.event.key past.entries ≡ false
    by true is = absurd (none RanAlready (let h : RunsAgain past e = record { begins = ap (λ k. (kind_code k == kind_code Started) || (kind_code k == kind_code Skipped)) at; ran = is } in h))
    by false is = is
own_more past e none Finished at step so = end_more _ so (sym (runs_steps e.event.key past.entries) ∙ by (runs e.event.key past.entries) refl)
  where
    by : (b : Bool) → runs e.event.key past.entries ≡ b → runs e.event.key past.entries ≡ true
    by true is = is
    by false is = absurd (none NotRunning (let h : EndsNothing past e = record { ends = ap (λ k. kind_code k == kind_code Finished) at; at_rest = is } in h))
own_more past e none Dynamic at step so = absurd (true≢false (sym step))
own_more past e none Reporting at step so = absurd (true≢false (sym step))
own_more past e none File at step so = absurd (true≢false (sym step))

one_more : (past : Recorded) (e : Entry) (key : ℕ) → BreaksNone past e → SoFar (steps_of key past.entries) → SoFar (steps_of key (past.entries ++ e ∷ []))
one_more past e key none so = subst SoFar (sym (steps_append key past.entries (e ∷ []))) (by (is_step e.event.kind) refl (e.event.key == key) refl)
  where
    by : (step : Bool) → is_step e.event.kind ≡ step → (same : Bool) → (e.event.key == key) ≡ same → SoFar (steps_of key past.entries ++ (if is_step e.event.kind && (e.event.key == key) then e.event.kind ∷ [] else []))
    by true step true same = subst (λ b. SoFar (steps_of key past.entries ++ (if b && (e.event.key == key) then e.event.kind ∷ [] else []))) (sym step)
        (subst (λ b. SoFar (steps_of key past.entries ++ (if b then e.event.kind ∷ [] else []))) (sym same)
        (subst (λ k. SoFar (steps_of k past.entries ++ e.event.kind ∷ [])) (eqb-true e.event.key key same)
        (own_more past e none e.event.kind refl step (subst (λ k. SoFar (steps_of k past.entries)) (sym (eqb-true e.event.key key same)) so))))
    by true step false other = subst (λ b. SoFar (steps_of key past.entries ++ (if b && (e.event.key == key) then e.event.kind ∷ [] else []))) (sym step)
        (subst (λ b. SoFar (steps_of key past.entries ++ (if b then e.event.kind ∷ [] else []))) (sym other) (subst SoFar (sym (append-nil (steps_of key past.entries))) so))
    by false plain same is = subst (λ b. SoFar (steps_of key past.entries ++ (if b && (e.event.key == key) then e.event.kind ∷ [] else []))) (sym plain) (subst SoFar (sym (append-nil (steps_of key past.entries))) so)

so_far : (r : Recorded) (key n : ℕ) → n ≤ length r.entries → NoneBreaks r (length r.entries) → SoFar (steps_of key (take n r.entries))
so_far r key zero le none = nothing refl
so_far r key (suc n) le none =
    let e = there r.entries n (omega (arith, le)) in
    subst (λ l. SoFar (steps_of key l)) (sym e.2)
    (one_more (first_entries n r) e.0 key (none n e.0 (omega (arith, le)) e.1) (so_far r key n (omega (arith, le)) none))

kept_keeps : (r : Recorded) → IsInOrder r → KeepsLifecycle r
kept_keeps r h = record {
  ids = λ p e at. h.none p e (slice_get_within r.entries p e at) at IdKnown;
  below = λ p e at. below_running r p e (h.none p e (slice_get_within r.entries p e at) at);
  whole = λ key. whole_at_end (steps_of key r.entries)
      (subst (λ l. SoFar (steps_of key l)) (take_all (length r.entries) r.entries (omega arith)) (so_far r key (length r.entries) (omega arith) h.none))
      (sym (runs_steps key r.entries) ∙ h.at_rest key);
}

begins_kind : (kind : Kind) → ((kind_code kind == kind_code Started) || (kind_code kind == kind_code Skipped)) ≡ true → (is_step kind ≡ true) × ((kind ≡ Started) ⊎ (kind ≡ Skipped))
begins_kind Started h = (refl, inl refl)
begins_kind Skipped h = (refl, inr refl)
begins_kind Finished h = absurd (true≢false (sym h))
begins_kind Dynamic h = absurd (true≢false (sym h))
begins_kind Reporting h = absurd (true≢false (sym h))
begins_kind File h = absurd (true≢false (sym h))

ends_kind : (kind : Kind) → (kind_code kind == kind_code Finished) ≡ true → (is_step kind ≡ true) × (kind ≡ Finished)
ends_kind Finished h = (refl, refl)
ends_kind Started h = absurd (true≢false (sym h))
ends_kind Skipped h = absurd (true≢false (sym h))
ends_kind Dynamic h = absurd (true≢false (sym h))
ends_kind Reporting h = absurd (true≢false (sym h))
ends_kind File h = absurd (true≢false (sym h))

-- an event that passes a test
pub any_at : (q : Entry → Bool) (es : List Entry) → list_any q es ≡ true → (i : ℕ) × (e : Entry) × (slice_get es i ≡ Some e) × (q e ≡ true)
any_at q [] h = absurd (true≢false (sym h))
any_at q (x ∷ es) h = ⊎_elim {C = (i : ℕ) × (e : Entry) × (slice_get (x ∷ es) i ≡ Some e) × (q e ≡ true)}
    (λ (here : q x ≡ true). (0, x, refl, here))
    (λ (later : list_any q es ≡ true). let r = any_at q es later in (suc r.0, r.1, r.2, r.3))
    (or_cases (q x) (list_any q es) h)

pub any_from : (q : Entry → Bool) (es : List Entry) (i : ℕ) (e : Entry) → slice_get es i ≡ Some e → q e ≡ true → list_any q es ≡ true
any_from q [] i e at h = absurd (none-some e at)
any_from q (x ∷ es) zero e at h = ap (λ b. b || list_any q es) (ap q (same_Some x e at) ∙ h)
any_from q (x ∷ es) (suc i) e at h = ap (λ b. q x || b) (any_from q es i e at h) ∙ or_true (q x)
  where
    or_true : (b : Bool) → (b || true) ≡ true
    or_true true = refl
    or_true false = refl

dropped_at : (p : ℕ) (es : List Entry) (i : ℕ) (e : Entry) → slice_get (drop p es) i ≡ Some e → (q : ℕ) × (p ≤ q) × (slice_get es q ≡ Some e)
dropped_at zero es i e at = (i, omega arith, at)
dropped_at (suc p) [] i e at = absurd (none-some e at)
dropped_at (suc p) (x ∷ es) i e at = let r = dropped_at p es i e at in let le = r.1 in (suc r.0, omega (arith, le), r.2)

taken_at : (q : ℕ) (es : List Entry) (p : ℕ) (e : Entry) → p < q → slice_get es p ≡ Some e → slice_get (take q es) p ≡ Some e
taken_at zero es p e lt at = absurd (omega (arith, lt))
taken_at (suc q) [] p e lt at = absurd (none-some e at)
taken_at (suc q) (x ∷ es) zero e lt at = at
taken_at (suc q) (x ∷ es) (suc p) e lt at = taken_at q es p e (omega (arith, lt)) at

-- an id that the first entries have is had later
has_id_grows : (r : Recorded) (p q key : ℕ) (id : List SegmentView) → p ≤ q → HasId (first_entries p r) key id → HasId (first_entries q r) key id
has_id_grows r p q key id le h = record {
  descriptor = h.descriptor;
  described = desc_first (first_entries q r) p key h.descriptor
      (ap (λ l. desc (let x : Recorded = record { table = r.table; entries = l } in x) key) (take-take p q r.entries le) ∙ h.described);
  id_is = h.id_is;
}

-- no event registers an id that is known
abbrev pub IdsAreNew : Recorded → Type 0
IdsAreNew r = (p : ℕ) (e : Entry) → slice_get r.entries p ≡ Some e → ¬ KnowsId (first_entries p r) e

-- no two keys have one id
pub unique_ids : (r : Recorded) → AreDifferent r.table → IdsAreNew r → (n : ℕ) → n ≤ length r.entries → (id : List SegmentView) (j k : ℕ) → HasId (first_entries n r) j id → HasId (first_entries n r) k id → j ≡ k
unique_ids r different new zero le id j k h g = (ids_first r.table [] refl different).unique id j k h g
unique_ids r different new (suc n) le id j k h g = more (λ i a b x y. unique_ids r different new n (omega (arith, le)) i a b x y)
  where
    more : ((i : List SegmentView) (a b : ℕ) → HasId (first_entries n r) a i → HasId (first_entries n r) b i → a ≡ b) → j ≡ k
    more before =
        let e = there r.entries n (omega (arith, le)) in
        let past = first_entries n r in
        let one : suc n ≡ n + 1 = omega arith in
        let after : first_entries (suc n) r ≡ with_entry past e.0 = ap (λ m. first_entries m r) one ∙ sym (first_more r n e.0 e.1) in
        let hj = subst (λ x. HasId x j id) after h in
        let hk = subst (λ x. HasId x k id) after g in
        let fresh = new n e.0 e.1 in
        ⊎_elim {C = j ≡ k}
        (λ (a : HasId past j id). ⊎_elim {C = j ≡ k}
        (λ (b : HasId past k id). before id j k a b)
        (λ (b : (of_kind Dynamic e.0 ≡ true) × (e.0.event.key ≡ k)).
        absurd (fresh (record { dynamic = b.0; id = id; registered = subst (λ m. HasId (with_entry past e.0) m id) (sym b.1) hk; earlier = j; known = a })))
        (known_or_new past e.0 k id hk))
        (λ (a : (of_kind Dynamic e.0 ≡ true) × (e.0.event.key ≡ j)). ⊎_elim {C = j ≡ k}
        (λ (b : HasId past k id). absurd (fresh (record { dynamic = a.0; id = id; registered = subst (λ m. HasId (with_entry past e.0) m id) (sym a.1) hj; earlier = k; known = b })))
        (λ (b : (of_kind Dynamic e.0 ≡ true) × (e.0.event.key ≡ k)). sym a.1 ∙ b.1)
        (known_or_new past e.0 k id hk))
        (known_or_new past e.0 j id hj)

not_parent_of_itself : (id : List SegmentView) → 1 < length id → id ≡ parent_of id → ⊥
not_parent_of_itself id below same =
    let a = ap (λ (l : List SegmentView). length l) same in
    let b = length-take-le (length id - 1) id (omega arith) in
    omega (arith, a, b, below)

no_left : (r : Recorded) → AreDifferent r.table → KeepsLifecycle r → (p : ℕ) (e : Entry) → slice_get r.entries p ≡ Some e → LeavesChild (first_entries p r) e → ⊥
no_left r different keeps p e at h =
    let past = first_entries p r in
    let steps = steps_of h.child r.entries in
    let parts : steps ≡ steps_of h.child (take p r.entries) ++ steps_of h.child (drop p r.entries) = ap (steps_of h.child) (sym (take-append-drop p r.entries)) ∙ steps_append h.child (take p r.entries) (drop p r.entries) in
    let later = later_finish (steps_of h.child (take p r.entries)) (steps_of h.child (drop p r.entries)) steps (to_whole steps (keeps.whole h.child)) parts (sym (runs_steps h.child (take p r.entries)) ∙ h.running) in
    let f = any_at (is_event Finished h.child) (drop p r.entries) (has_steps Finished tt h.child (drop p r.entries) ∙ later) in
    let d = dropped_at p r.entries f.0 f.1 f.2 in
    let of_child : f.1.event.key ≡ h.child = eqb-true f.1.event.key h.child (and_parts (of_kind Finished f.1) (f.1.event.key == h.child) f.3).1 in
    let apart : p ≡ d.0 → ⊥ = (λ same.
    let event : e ≡ f.1 = same_Some e f.1 (sym at ∙ ap (slice_get r.entries) same ∙ d.2) in
    let key : e.event.key ≡ h.child = ap (λ (x : Entry). x.event.key) event ∙ of_child in
    not_parent_of_itself h.id h.below (one_id past h.child h.id (parent_of h.id) h.child_is (subst (λ k. HasId past k (parent_of h.id)) key h.parent))) in
    let le = d.1 in
    let lt : p < d.0 = after p d.0 le apart in
    let its = has_id_more (first_entries d.0 r) f.1 f.1.event.key h.id (subst (λ k. HasId (first_entries d.0 r) k h.id) (sym of_child) (has_id_grows r p d.0 h.child h.id le h.child_is)) in
    let b = keeps.below d.0 f.1 d.2 h.id its h.below in
    let in_record = slice_get_within r.entries d.0 f.1 d.2 in
    let same : b.0 ≡ e.event.key = unique_ids r different keeps.ids d.0 (omega (arith, in_record)) (parent_of h.id) b.0 e.event.key b.1 (has_id_grows r p d.0 e.event.key (parent_of h.id) le h.parent) in
    let finished : has_event Finished e.event.key (take d.0 r.entries) ≡ true = any_from (is_event Finished e.event.key) (take d.0 r.entries) p e (taken_at d.0 r.entries p e lt at)
    (ap (λ x. x && (e.event.key == e.event.key)) h.ends ∙ eq-eqb e.event.key e.event.key refl) in
    true≢false (sym b.2 ∙ ap (λ k. runs k (take d.0 r.entries)) same
    ∙ ap (λ x. has_event Started e.event.key (take d.0 r.entries) && not x) finished ∙ and_false (has_event Started e.event.key (take d.0 r.entries)))
  where
    after : (a b : ℕ) → a ≤ b → (a ≡ b → ⊥) → a < b
    after a b le apart = grind (arith, le, apart)

    and_false : (b : Bool) → (b && false) ≡ false
    and_false true = refl
    and_false false = refl

keeping_kept : (r : Recorded) → AreDifferent r.table → KeepsLifecycle r → IsInOrder r
keeping_kept r different keeps = record { none = none; at_rest = λ key. runs_steps key r.entries ∙ whole_rests (steps_of key r.entries) (to_whole (steps_of key r.entries) (keeps.whole key)) }
  where
    none : NoneBreaks r (length r.entries)
    none p e lt at IdKnown h = keeps.ids p e at h
    none p e lt at ParentUnknown h = let b = keeps.below p e at h.id h.registered h.below in h.unknown b.0 b.1
    none p e lt at ParentNotRunning h = let b = keeps.below p e at h.id h.its h.below in true≢false (sym b.2 ∙ h.at_rest b.0 b.1)
    none p e lt at RanAlready h =
        let kind = begins_kind e.event.kind h.begins in
        no_begin_before (steps_of e.event.key (take p r.entries)) e.event.kind (steps_of e.event.key (drop (suc p) r.entries)) (steps_of e.event.key r.entries)
        (to_whole (steps_of e.event.key r.entries) (keeps.whole e.event.key)) (steps_at r.entries p e at kind.0) kind.1
        (sym (has_run_steps e.event.key (take p r.entries)) ∙ h.ran)
    none p e lt at NotRunning h =
        let kind = ends_kind e.event.kind h.ends in
        true≢false (sym (end_runs (steps_of e.event.key (take p r.entries)) (steps_of e.event.key (drop (suc p) r.entries)) (steps_of e.event.key r.entries)
        (to_whole (steps_of e.event.key r.entries) (keeps.whole e.event.key))
        (steps_at r.entries p e at kind.0 ∙ ap (λ k. steps_of e.event.key (take p r.entries) ++ k ∷ steps_of e.event.key (drop (suc p) r.entries)) kind.1))
        ∙ sym (runs_steps e.event.key (take p r.entries)) ∙ h.at_rest)
    none p e lt at ChildRunning h = no_left r different keeps p e at h

pub in_order_by_its_events : InOrderByItsEvents
in_order_by_its_events r different = (kept_keeps r, keeping_kept r different)

pub kept_by_its_events : KeptByItsEvents
kept_by_its_events r different = (λ h. (kept_keeps r h.0, h.1), λ h. (keeping_kept r different h.0, h.1))
