-- What the record of a run says, by what its units emit.
use Rattle.std.proofs.Common.{◌≡◌, ◌<◌, ◌+◌, ◌==◌, ◌&&◌, ◌||◌, not, nat_eq, nat_lt, ℕ, zero, suc}
use Rattle.std.proofs.lemmas.List.Folds.{list_any-append}
use Rattle.std.proofs.Common.{◌⊎◌, inl, inr, ⊎_elim, Bool, true, false, cond, if◌then◌else◌, List}
use Rattle.std.proofs.Common.{[], ◌∷◌, ◌++◌, length, filter, Some, slice_get, All, refl, sym, ap}
use Rattle.std.proofs.Common.{ap₂, ◌∙◌, subst, append_assoc, arith, tests}
use Rattle.std.specs.List.{list_any}
use Rattle.std.proofs.lemmas.List.{map-append}
use Rattle.std.proofs.lemmas.List.Elements.{All-nil, All-cons, All-head, All-tail, All-append}
use Rattle.std.proofs.lemmas.List.Elements.{All-weaker}
use Rattle.std.proofs.lemmas.List.Sums.{length-filter}
use Rattle.std.proofs.lemmas.List.Recursion.{is_sum_by}
use Rattle.std.proofs.lemmas.Option.{slice_get_within}
use Rattle.tk_plan.specs.Planned.{Outline}
use Rattle.tk_ids.specs.declared.descriptors.Descriptor.{Descriptor}
use Rattle.tk_events.specs.Event.{kind_code}
use Rattle.tk_events.specs.declared.events.Event.{Event}
use Rattle.tk_events.specs.declared.events.Entry.{Entry}
use Rattle.tk_events.specs.declared.kinds.Kind.{Kind}
use Rattle.tk_events.specs.declared.kinds.Kind.TheVariants.{Dynamic, File, Finished, Reporting}
use Rattle.tk_events.specs.declared.kinds.Kind.TheVariants.{Skipped, Started}
use Rattle.tk_events.specs.declared.outcomes.Outcome.{Outcome}
use Rattle.tk_record.specs.Recorded.{Recorded}
use Rattle.tk_record.specs.Mixing.{IsWorkerOf, of_worker}
use Rattle.tk_queue_session.specs.Emission.{entries_by, entry_by, registrations}
use Rattle.tk_query_lifecycle.specs.Lifecycle.{has_event, is_event}
use Rattle.tk_query_lifecycle.specs.KeepsLifecycle.{IsWhole, KeepsLifecycle, is_step, steps_of}
use Rattle.tk_claims.specs.Claims.{once_below, times}
use Rattle.tk_engine_execute.proofs.Emitted.{registrations-append}
use Rattle.tk_claims.specs.Run.{Emits, IsRun, IsShared}
use Rattle.tk_engine_lifecycle.proofs.SeparateTurns.{other_first, own_first}
use Rattle.tk_engine_unit_events.specs.Covered.{IsCovered}
use Rattle.tk_engine_unit_events.specs.Endings.{EndsAsItMay, IsStaticTest}
use Rattle.tk_engine_hierarchical.specs.Laws.{FollowsPlan, HasOutcomes, HasTurn, HaveTurns}
use Rattle.tk_engine_unit_events.specs.Shapes.{HavePlaces, IsInUnit, ShapeView, frame, may_emit}
use Rattle.tk_engine_hierarchical.specs.StaticSteps.{FitsPlan}
use Rattle.tk_engine_unit_events.specs.Units.{StepsAs}
use Rattle.tk_engine_unit_events.proofs.Played.{any_kept, covered_by}
use Rattle.tk_base.proofs.Lists.{get_below}
use Rattle.std.proofs.lemmas.Bool.{and_parts, or_cases, or_left, or_right}
use Rattle.tk_run_laws.proofs.Lists.{zero_or}

-- ---- the events of the workers

tail_of : (P : Event → Type 0) (b : Bool) (w : ℕ) (x : Entry) (xs : List Entry)
    → (x.worker == w) ≡ b → All P (of_worker w (x ∷ xs)) → All P (of_worker w xs)
tail_of P true w x xs e h = All-tail P x.event (of_worker w xs)
    (subst (All P) (own_first w x xs e) h)
tail_of P false w x xs e h = subst (All P) (other_first w x xs e) h

-- what holds of the events of each worker holds of all
all_of_workers : (P : Event → Type 0) (n : ℕ) (mid : List Entry)
    → All (λ (x : Entry). IsWorkerOf n x.worker) mid
    → ((w : ℕ) → IsWorkerOf n w → All P (of_worker w mid)) → All (λ (x : Entry). P x.event) mid
all_of_workers P n [] ws each = All-nil (λ (x : Entry). P x.event)
all_of_workers P n (x ∷ xs) ws each =
    let own : (x.worker == x.worker) ≡ true = grind (arith, tests) in
    let here : All P (x.event ∷ of_worker x.worker xs) = subst (All P) (own_first x.worker x xs own)
    (each x.worker (All-head (λ (y : Entry). IsWorkerOf n y.worker) x xs ws)) in
    All-cons (λ (y : Entry). P y.event) x xs (All-head P x.event (of_worker x.worker xs) here)
    (all_of_workers P n xs (All-tail (λ (y : Entry). IsWorkerOf n y.worker) x xs ws)
    (λ w within. tail_of P (x.worker == w) w x xs refl (each w within)))

in_all_at : (b : Bool) (kind : Kind) (key w : ℕ) (x : Entry) (xs : List Entry) → (x.worker == w) ≡ b
    → has_event kind key (entries_by w (of_worker w (x ∷ xs))) ≡ true
    → (has_event kind key (entries_by w (of_worker w xs)) ≡ true → has_event kind key xs ≡ true)
    → has_event kind key (x ∷ xs) ≡ true
in_all_at true kind key w x xs e h more =
    ⊎_elim
    (λ a. or_left (is_event kind key x) (has_event kind key xs) a)
    (λ b. or_right (is_event kind key x) (has_event kind key xs) (more b))
    (or_cases (is_event kind key x) (has_event kind key (entries_by w (of_worker w xs)))
    (subst (λ l. has_event kind key (entries_by w l) ≡ true) (own_first w x xs e) h))
in_all_at false kind key w x xs e h more =
    or_right (is_event kind key x) (has_event kind key xs)
    (more (subst (λ l. has_event kind key (entries_by w l) ≡ true) (other_first w x xs e) h))

-- an event of a worker is an event of all
in_all : (kind : Kind) (key w : ℕ) (mid : List Entry)
    → has_event kind key (entries_by w (of_worker w mid)) ≡ true → has_event kind key mid ≡ true
in_all kind key w [] h = h
in_all kind key w (x ∷ xs) h = in_all_at (x.worker == w) kind key w x xs refl h
    (in_all kind key w xs)

any_after : (kind : Kind) (key w : ℕ) (l more : List Event)
    → has_event kind key (entries_by w more) ≡ true
    → has_event kind key (entries_by w (l ++ more)) ≡ true
any_after kind key w l more h =
    ap (list_any (is_event kind key)) (map-append (entry_by w) l more)
    ∙ list_any-append (is_event kind key) (entries_by w l) (entries_by w more)
    ∙ or_right (has_event kind key (entries_by w l)) (has_event kind key (entries_by w more)) h

any_in : (kind : Kind) (key : ℕ) (a m b : List Entry) → has_event kind key m ≡ true
    → has_event kind key (a ++ m ++ b) ≡ true
any_in kind key a m b h =
    list_any-append (is_event kind key) (a ++ m) b
    ∙ or_left (has_event kind key (a ++ m)) (has_event kind key b)
    (list_any-append (is_event kind key) a m ∙ or_right (has_event kind key a) (has_event kind key m) h)

any_first : (kind : Kind) (key : ℕ) (a m b : List Entry) → has_event kind key a ≡ true
    → has_event kind key (a ++ m ++ b) ≡ true
any_first kind key a m b h =
    list_any-append (is_event kind key) (a ++ m) b
    ∙ or_left (has_event kind key (a ++ m)) (has_event kind key b)
    (list_any-append (is_event kind key) a m ∙ or_left (has_event kind key a) (has_event kind key m) h)

-- how often a unit was drawn
abbrev drawn_by : ℕ → List ℕ → ℕ
drawn_by u us = length (filter (λ y. nat_eq y u) us)

abbrev drawn_in : ℕ → List (List ℕ) → ℕ
drawn_in u [] = 0
drawn_in u (us ∷ drawn) = times u us + drawn_in u drawn

drew : (u : ℕ) (drawn : List (List ℕ)) → 0 < drawn_in u drawn → (i : ℕ) × (us : List ℕ)
    × (i < length drawn) × (slice_get drawn i ≡ Some us) × (0 < drawn_by u us)
drew u [] h = absurd (omega (arith, h))
drew u (us ∷ drawn) h =
    ⊎_elim
    (λ none. let r = drew u drawn (omega (arith, h, none)) in
    (suc r.0, r.1, omega (arith, r.2), r.3, r.4))
    (λ some. (
      0,
      us,
      omega arith,
      refl,
      subst (λ n. 0 < n)
          (sym (length-filter (λ y. nat_eq y u) us)) some,
    ))
    (zero_or (times u us))

module _ (may : ℕ → ℕ → ℕ → List Event → Type 0) where
  -- what holds of what each unit emits holds of what a worker emits
  emits_all : (P : Event → Type 0) → ((u w k : ℕ) (l : List Event) → may u w k l → All P l)
      → (w k : ℕ) (us : List ℕ) (l : List Event) → Emits may w k us l → All P l
  emits_all P each w k [] l e = subst (All P) (sym e) (All-nil P)
  emits_all P each w k (u ∷ us) l e =
      subst (All P) (sym e.2)
      (All-append P e.0 e.1 (each u w k e.0 e.3)
      (emits_all P each w (k + registrations e.0) us e.1 e.4))

  worker_emits : (units workers : ℕ) (mid : List Entry) → IsShared may units workers mid → (w : ℕ)
      → IsWorkerOf workers w
      → (us : List ℕ) × Emits may w 0 us (of_worker w mid)
  worker_emits units workers mid s zero h = absurd (omega (arith, h.0))
  worker_emits units workers mid s (suc i) h =
      let g = get_below s.drawn i (omega (arith, h.1, s.seats)) in
      let same : i + 1 ≡ suc i = omega arith in (
        g.0,
        subst (Emits may (suc i) 0 g.0) (sym (s.mix.each (suc i) h))
            (subst (λ v. Emits may v 0 g.0 (s.lists v)) same (s.emits i g.0 g.1)),
      )

  pub all_emitted : (P : Event → Type 0) → ((u w k : ℕ) (l : List Event) → may u w k l → All P l)
      → (units workers : ℕ) (mid : List Entry) → IsShared may units workers mid
      → All (λ (x : Entry). P x.event) mid
  all_emitted P each units workers mid s =
      all_of_workers P workers mid s.mix.workers
      (λ w within. let e = worker_emits units workers mid s w within in
      emits_all P each w 0 e.0 (of_worker w mid) e.1)

  -- the list that a unit emitted, as a part of a longer one, before which n descriptors were
  -- registered
  pub record Part (u w n : ℕ) (l : List Event) : Type 0 where
    pub k : ℕ
    pub list : List Event
    pub may_be : may u w k list
    pub earlier : List Event
    pub later : List Event
    pub whole : l ≡ earlier ++ list ++ later
    pub counted : n + registrations earlier ≡ k

  part_at : (b : Bool) (u x w k : ℕ) (us : List ℕ) (l : List Event) (e : Emits may w k (x ∷ us) l)
      → nat_eq x u ≡ b → 0 < drawn_by u (x ∷ us)
      → (0 < drawn_by u us → Part u w (k + registrations e.0) e.1) → Part u w k l
  part_at true u x w k us l e is some more =
      let same : x ≡ u = grind (arith, tests, is) in
      record {
        k = k;
        list = e.0;
        may_be = subst (λ v. may v w k e.0) same e.3;
        earlier = [];
        later = e.1;
        whole = e.2;
        counted = omega arith;
      }
  part_at false u x w k us l e is some more =
      let p = more (subst (λ n. 0 < n)
      (ap (λ b. length (cond b (x ∷ filter (λ y. nat_eq y u) us) (filter (λ y. nat_eq y u) us)))
      is) some) in record {
        k = p.k;
        list = p.list;
        may_be = p.may_be;
        earlier = e.0 ++ p.earlier;
        later = p.later;
        whole = e.2 ∙ ap (λ m. e.0 ++ m) p.whole
            ∙ sym (append_assoc e.0 (p.earlier ++ p.list) p.later)
            ∙ ap (λ m. m ++ p.later) (sym (append_assoc e.0 p.earlier p.list));
        counted = omega (arith, registrations-append e.0 p.earlier, p.counted);
      }

  part_of : (u w k : ℕ) (us : List ℕ) (l : List Event) → Emits may w k us l → 0 < drawn_by u us
      → Part u w k l
  part_of u w k [] l e some = absurd (omega (arith, some))
  part_of u w k (x ∷ us) l e some = part_at (nat_eq x u) u x w k us l e refl some
      (λ s. part_of u w (k + registrations e.0) us e.1 e.4 s)

  false_true : false ≡ true → ⊥
  false_true e = cc

  once : (b : Bool) (n : ℕ) → b ≡ true → n ≡ cond b 1 0 → 0 < n
  once true n is e = omega (arith, e)
  once false n is e = absurd (false_true is)

  -- a worker emitted the unit's list in a row
  pub record Ran (u : ℕ) (mid : List Entry) : Type 0 where
    pub worker : ℕ
    pub is_worker : 0 < worker
    pub k : ℕ
    pub list : List Event
    pub may_be : may u worker k list
    pub earlier : List Event
    pub later : List Event
    pub whole : of_worker worker mid ≡ earlier ++ list ++ later
    pub counted : registrations earlier ≡ k

  pub unit_ran : (units workers : ℕ) (mid : List Entry) → IsShared may units workers mid → (u : ℕ)
      → u < units → Ran u mid
  unit_ran units workers mid s u low =
      let below : nat_lt u units ≡ true = grind (arith, tests, low) in
      let count : drawn_in u s.drawn ≡ once_below u units = is_sum_by (drawn_in u) (times u) refl
      (λ us ds. refl) s.drawn ∙ s.claims.once u in
      let d = drew u s.drawn (once (nat_lt u units) (drawn_in u s.drawn) below count) in
      let w : IsWorkerOf workers (d.0 + 1) = (omega arith, omega (arith, d.2, s.seats)) in
      let p = part_of u (d.0 + 1) 0 d.1 (s.lists (d.0 + 1)) (s.emits d.0 d.1 d.3) d.4 in
      record {
        worker = d.0 + 1;
        is_worker = w.0;
        k = p.k;
        list = p.list;
        may_be = p.may_be;
        earlier = p.earlier;
        later = p.later;
        whole = let same : of_worker (d.0 + 1) mid ≡ s.lists (d.0 + 1) = s.mix.each (d.0 + 1) w in
            same ∙ p.whole;
        counted = omega (arith, p.counted);
      }

  -- each of its events is there
  pub ran_within : (u : ℕ) (mid : List Entry) (r : Ran u mid) (kind : Kind) (key : ℕ)
      → has_event kind key (entries_by r.worker r.list) ≡ true → has_event kind key mid ≡ true
  ran_within u mid r kind key h =
      in_all kind key r.worker mid
      (subst (λ l. has_event kind key (entries_by r.worker l) ≡ true) (sym r.whole)
      (any_kept kind key r.worker (r.earlier ++ r.list) r.later
      (any_after kind key r.worker r.earlier r.list h)))

-- ---- what each unit may emit, said more weakly

module _ (may more : ℕ → ℕ → ℕ → List Event → Type 0)
    (also : (u w k : ℕ) (l : List Event) → may u w k l → more u w k l) where
  emits_more : (w k : ℕ) (us : List ℕ) (l : List Event) → Emits may w k us l → Emits more w k us l
  emits_more w k [] l e = e
  emits_more w k (u ∷ us) l e =
      (e.0, e.1, e.2, also u w k e.0 e.3, emits_more w (k + registrations e.0) us e.1 e.4)

  pub run_more : (table : List Descriptor) (before after : List Event) (units workers : ℕ)
      (r : Recorded) → IsRun may table before after units workers r
      → IsRun more table before after units workers r
  run_more table before after units workers r run =
      let s = run.shared in record {
        over = run.over;
        mid = run.mid;
        whole = run.whole;
        shared = record {
          drawn = s.drawn;
          lists = s.lists;
          seats = s.seats;
          claims = s.claims;
          mix = s.mix;
          emits = λ i us g. emits_more (i + 1) 0 us (s.lists (i + 1)) (s.emits i us g);
        };
      }

-- ---- outcomes

around_none : (Q : Event → Type 0) (es : List Event)
    → All (λ (x : Entry). 0 < x.worker → Q x.event) (entries_by 0 es)
around_none Q [] = All-nil (λ (x : Entry). 0 < x.worker → Q x.event)
around_none Q (e ∷ es) = All-cons (λ (x : Entry). 0 < x.worker → Q x.event) (entry_by 0 e)
    (entries_by 0 es) (λ h. absurd (omega (arith, h))) (around_none Q es)

pub has_steps : (s : ShapeView) (may_step : Event → Type 0) (before after : List Event)
    (units workers : ℕ) (r : Recorded)
    → IsRun (may_emit s may_step) s.plan.table before after units workers r
    → All (λ (x : Entry). 0 < x.worker → StepsAs r.table may_step x.event) r.entries
has_steps s may_step before after units workers r run =
    let Q : Event → Type 0 = StepsAs s.plan.table may_step in
    let P : Entry → Type 0 = λ x. 0 < x.worker → Q x.event in
    let mid = all_emitted (may_emit s may_step) Q
    (λ u w k l m. m.steps) units workers run.mid run.shared in
    subst (λ t. All (λ (x : Entry). 0 < x.worker → StepsAs t may_step x.event) r.entries)
    (sym run.over)
    (subst (All P) (sym run.whole)
    (All-append P (entries_by 0 before ++ run.mid) (entries_by 0 after)
    (All-append P (entries_by 0 before) run.mid (around_none Q before)
    (All-weaker (λ (x : Entry). Q x.event) P (λ x q h. q) run.mid mid))
    (around_none Q after)))

-- a step that the plan has for a static test is a finish with an outcome that the test may have
ends_so : (plan : Outline) (table : List Descriptor) (may_end : ℕ → Outcome → Type 0) (e : Event)
    → table ≡ plan.table
    → StepsAs table (FitsPlan plan may_end) e → EndsAsItMay table may_end e
ends_so plan table may_end e same steps kind t =
    (steps (slice_get_within table e.key t.descriptor t.described) (ap is_step kind)).fits.ended
    kind
    (subst (λ (l : List Descriptor). IsStaticTest l e.key) same t)

pub has_outcomes : (plan : Outline) (may_end : ℕ → Outcome → Type 0) (r : Recorded)
    → r.table ≡ plan.table → FollowsPlan plan may_end r → HasOutcomes may_end r
has_outcomes plan may_end r same follows =
    All-weaker (λ (x : Entry). 0 < x.worker → StepsAs r.table (FitsPlan plan may_end) x.event)
    (λ (x : Entry). 0 < x.worker → EndsAsItMay r.table may_end x.event)
    (λ x h low. ends_so plan r.table may_end x.event same (h low)) r.entries follows

-- ---- turns

abbrev has_kind : Kind → List Kind → Bool
has_kind kind ks = list_any (λ k. kind_code k == kind_code kind) ks

kept_kind : (kind k : Kind) (b : Bool) (ks : List Kind) → has_kind kind ks ≡ true
    → has_kind kind (if b then k ∷ ks else ks) ≡ true
kept_kind kind k true ks h = or_right (kind_code k == kind_code kind) (has_kind kind ks) h
kept_kind kind k false ks h = h

is_step_code : (kind k : Kind) → kind_code k ≡ kind_code kind → is_step kind ≡ true
    → is_step k ≡ true
is_step_code kind k e h = ap
    (λ n. (n == kind_code Started) || ((n == kind_code Skipped) || (n == kind_code Finished))) e ∙ h

first_kind : (kind : Kind) (key : ℕ) (x : Entry) (ks : List Kind) → is_step kind ≡ true
    → is_event kind key x ≡ true
    → has_kind kind (if is_step x.event.kind && (x.event.key == key) then x.event.kind ∷ ks else ks)
    ≡ true
first_kind kind key x ks step h =
    let both = and_parts (kind_code x.event.kind == kind_code kind) (x.event.key == key) h in
    let code : kind_code x.event.kind ≡ kind_code kind = grind (arith, tests, both.0) in
    ap₂ (λ a b. has_kind kind (if a && b then x.event.kind ∷ ks else ks))
    (is_step_code kind x.event.kind code step) both.1
    ∙ or_left (kind_code x.event.kind == kind_code kind) (has_kind kind ks) both.0

steps_have : (kind : Kind) (key : ℕ) (es : List Entry) → is_step kind ≡ true
    → has_event kind key es ≡ true → has_kind kind (steps_of key es) ≡ true
steps_have kind key [] step h = h
steps_have kind key (x ∷ xs) step h =
    ⊎_elim
    (λ a. first_kind kind key x (steps_of key xs) step a)
    (λ b. kept_kind kind x.event.kind (is_step x.event.kind && (x.event.key == key))
    (steps_of key xs) (steps_have kind key xs step b))
    (or_cases (is_event kind key x) (has_event kind key xs) h)

whole_is : (ks : List Kind) → IsWhole ks → (ks ≡ [])
    ⊎ ((ks ≡ Started ∷ Finished ∷ []) ⊎ (ks ≡ Skipped ∷ []))
whole_is [] w = inl refl
whole_is (Skipped ∷ []) w = inr (inr refl)
whole_is (Skipped ∷ (k ∷ ks)) w = absurd w
whole_is (Started ∷ []) w = absurd w
whole_is (Started ∷ (Finished ∷ [])) w = inr (inl refl)
whole_is (Started ∷ (Finished ∷ (k ∷ ks))) w = absurd w
whole_is (Started ∷ (Dynamic ∷ ks)) w = absurd w
whole_is (Started ∷ (Skipped ∷ ks)) w = absurd w
whole_is (Started ∷ (Started ∷ ks)) w = absurd w
whole_is (Started ∷ (Reporting ∷ ks)) w = absurd w
whole_is (Started ∷ (File ∷ ks)) w = absurd w
whole_is (Dynamic ∷ ks) w = absurd w
whole_is (Finished ∷ ks) w = absurd w
whole_is (Reporting ∷ ks) w = absurd w
whole_is (File ∷ ks) w = absurd w

not_empty : (kind : Kind) (ks : List Kind) → has_kind kind ks ≡ true → ks ≡ [] → ⊥
not_empty kind ks h e = let bad : false ≡ true = ap (has_kind kind) (sym e) ∙ h in cc

turn_of : (r : Recorded) (key : ℕ) (kind : Kind) → KeepsLifecycle r → is_step kind ≡ true
    → has_event kind key r.entries ≡ true → HasTurn r key
turn_of r key kind keeps step h =
    ⊎_elim
    (λ none. absurd (not_empty kind (steps_of key r.entries)
    (steps_have kind key r.entries step h) none))
    (λ some. ⊎_elim (λ a. inl a) (λ b. inr (inl b)) some)
    (whole_is (steps_of key r.entries) (keeps.whole key))

has_turn : (r : Recorded) (key : ℕ) → KeepsLifecycle r → IsCovered r.table r.entries key
    → HasTurn r key
has_turn r key keeps (inl h) =
    ⊎_elim (λ a. turn_of r key Started keeps refl a) (λ b. turn_of r key Skipped keeps refl b)
    (or_cases (has_event Started key r.entries) (has_event Skipped key r.entries) h)
has_turn r key keeps (inr h) = inr (inr h)

first_part : (a b : Bool) → (a && not b) ≡ true → a ≡ true
first_part true b e = refl
first_part false b e = cc

pub have_turns : (s : ShapeView) (may_step : Event → Type 0) (after : List Event) (workers : ℕ)
    (r : Recorded) → HavePlaces s
    → IsRun (may_emit s may_step) s.plan.table (frame s).before after (frame s).units workers r
    → KeepsLifecycle r → HaveTurns r
have_turns s may_step after workers r places run keeps key low =
    let M : ℕ → ℕ → ℕ → List Event → Type 0 = may_emit s may_step in
    let e0 = entries_by 0 (frame s).before in
    let e1 = entries_by 0 after in
    let covered : IsCovered s.plan.table r.entries key = ⊎_elim
    (λ (u : IsInUnit s key).
    let ran = unit_ran M (frame s).units workers run.mid run.shared u.0 u.1 in
    covered_by s.plan.table (entries_by ran.worker ran.list) r.entries
    (λ kind k h. subst (λ l. has_event kind k l ≡ true) (sym run.whole)
    (any_in kind k e0 run.mid e1 (ran_within M u.0 run.mid ran kind k h)))
    key (ran.may_be.covered key u.2 u.3))
    (λ h. inl (or_left (has_event Started key r.entries) (has_event Skipped key r.entries)
    (subst (λ l. has_event Started key l ≡ true) (sym run.whole)
    (any_first Started key e0 run.mid e1
    (first_part (has_event Started key e0) (has_event Finished key e0) h)))))
    (places key (subst (λ (t : List Descriptor). key < length t) run.over low)) in
    has_turn r key keeps (subst (λ t. IsCovered t r.entries key) (sym run.over) covered)
