-- Each turn of a replay is a step of the core.
use Rattle.std.proofs.Common.{◌≡◌, ◌≢◌, ◌<◌, ◌≤◌, ◌+◌, ◌-◌, ℕ, zero, suc, Bool, true, false, cond, List, [], ◌∷◌, ◌++◌, length, take}
use Rattle.std.proofs.Common.{get_or, slice_get, slice_set, replicate, Option, Some, None, Ok, Err, refl, sym, ap, subst, ◌∙◌, ⊎_elim}
use Rattle.std.proofs.Common.{append_assoc, append-nil, arith, get_or-set_same, get_or-set_other, true≢false}
use Rattle.std.specs.List.{AllByRecursion}
use Rattle.std.proofs.lemmas.Option.{same_Some, none-some, slice_get_past, slice_get_within, get_or_from_slice_get}
use Rattle.std.proofs.lemmas.List.{take_more, length-set, length-take-le, length-replicate}
use Rattle.std.specs.Prelude.{count_by}
use Rattle.tk_ids.specs.declared.descriptors.Descriptor.{Descriptor}
use Rattle.std.proofs.lemmas.Bool.{cases_eq}
use Rattle.tk_events.specs.declared.events.Event.{Event}
use Rattle.tk_events.specs.declared.events.Entry.{Entry}
use Rattle.tk_record.specs.declared.records.AppendFault.{AppendFault}
use Rattle.tk_record.specs.Recorded.{Recorded}
use Rattle.tk_record.specs.Record.{fault_of}
use Rattle.tk_record.specs.Mixing.{IsWorkerOf}
use Rattle.tk_queue_session.specs.Limits.{most_workers, worker_slots}
use Rattle.tk_queue_session.specs.declared.items.Item.{Item}
use Rattle.tk_queue_session.specs.declared.items.Item.TheVariants.{Entry as Emitted, End}
use Rattle.tk_queue_replay.specs.declared.turns.Turn.{Turn}
use Rattle.tk_queue_replay.specs.declared.turns.Turn.TheVariants.{Worker, Take}
use Rattle.tk_queue_session.specs.CoreState.{has_ended, fresh}
use Rattle.tk_queue_session.specs.Core.{Core, put, entry, script, emit, finish, take_first, entries}
use Rattle.tk_queue_replay.specs.Replay.{Moment, Faulty, IsTurn, script_of, count_of, next, append_to, take_item, turn_step, after, plays}
use Rattle.tk_queue_replay.specs.Replay.{start}
use Rattle.tk_queue_replay.specs.Laws.{IsMomentOf, ReplaysCore, FaultyHasNoItem}
use Rattle.tk_queue_replay.specs.TurnItems.{is_turn_of, item_after}
use Rattle.tk_queue_replay.proofs.TurnItems.{Ordered, none_ordered, worker_ordered, take_ordered, scripted_event, scripted_mark, script_long}
use Rattle.tk_queue_session.proofs.CoreInvariant.{emits, finishes, takes, put-same, put-other}
use Rattle.tk_queue_replay.proofs.Plays.{same_Ok}

-- the events sent, with one more
one_more : (script sent : List Event) (i : ℕ) (e : Event) → slice_get script i ≡ Some e → sent ≡ take i script → sent ++ e ∷ [] ≡ take (i + 1) script
one_more script sent i e at is =
    let lt = slice_get_within script i e at in
    ap (λ l. l ++ e ∷ []) is ∙ ap (λ x. take i script ++ x ∷ []) (sym (get_or_from_slice_get script i e e at)) ∙ sym (take_more script i e lt)

apart_below : (n v w : ℕ) → IsWorkerOf n v → IsWorkerOf n w → v ≢ w → v - 1 ≢ w - 1
apart_below n v w p q d e = d (let a = p.0 in let b = q.0 in omega arith)

emitted_step : (scripts : List (List Event)) (m : Moment) (c : Core) (w : ℕ) (e : Event) → IsMomentOf scripts m c → IsWorkerOf (length scripts) w → has_ended m.core w ≡ false → slice_get (script_of scripts w) (count_of m w) ≡ Some e → IsMomentOf scripts (next w m (Some e)) (emit w e c)
emitted_step scripts m c w e is at open' some = record {
  lawful = emits (length scripts) w e c at (is.ended w at ∙ open') is.lawful;
  waits = ap (λ l. l ++ Emitted (record { worker = w; event = e }) ∷ []) is.waits;
  taken = is.taken;
  sent = λ v one. ⊎_elim
      (λ (same : v ≡ w). subst (λ u. put c.sent w (c.sent w ++ e ∷ []) u ≡ take (get_or counts (u - 1) 0) (script_of scripts u)) (sym same)
      (put-same c.sent w (c.sent w ++ e ∷ []) ∙ one_more (script_of scripts w) (c.sent w) (count_of m w) e some (is.sent w at) ∙ ap (λ k. take k (script_of scripts w)) (sym here)))
      (λ (apart : v ≢ w). put-other c.sent w (c.sent w ++ e ∷ []) v apart ∙ is.sent v one ∙ ap (λ k. take k (script_of scripts v)) (sym (there v (apart_below (length scripts) v w one at apart))))
      (cases_eq v w);
  ended = is.ended;
  whole = λ v one done. ⊎_elim
      (λ (same : v ≡ w). absurd (true≢false (sym done ∙ ap c.ended same ∙ is.ended w at ∙ open')))
      (λ (apart : v ≢ w). put-other c.sent w (c.sent w ++ e ∷ []) v apart ∙ is.whole v one done)
      (cases_eq v w);
  counts = length-set m.emitted (w - 1) (count_of m w + 1) ∙ is.counts;
  marks = is.marks;
}
  where
    counts : List ℕ
    counts = slice_set m.emitted (w - 1) (count_of m w + 1)

    within : w - 1 < length m.emitted
    within = let a = at.0 in let b = at.1 in omega (arith, is.counts)

    here : get_or counts (w - 1) 0 ≡ count_of m w + 1
    here = let lt = within in rw get_or-set_same refl

    there : (v : ℕ) → v - 1 ≢ w - 1 → get_or counts (v - 1) 0 ≡ count_of m v
    there v d = rw get_or-set_other refl

-- a script with no event at its count was sent whole
all_of : (script : List Event) (k : ℕ) → slice_get script k ≡ None → take k script ≡ script
all_of [] zero e = refl
all_of [] (suc k) e = refl
all_of (x ∷ xs) zero e = absurd cc
all_of (x ∷ xs) (suc k) e = ap (λ l. x ∷ l) (all_of xs k e)

ended_step : (scripts : List (List Event)) (m : Moment) (c : Core) (w : ℕ) → length scripts ≤ most_workers → IsMomentOf scripts m c → IsWorkerOf (length scripts) w → has_ended m.core w ≡ false → slice_get (script_of scripts w) (count_of m w) ≡ None → IsMomentOf scripts (next w m None) (finish w c)
ended_step scripts m c w few is at open' none = record {
  lawful = finishes (length scripts) w c at (is.ended w at ∙ open') is.lawful;
  waits = ap (λ l. l ++ End w ∷ []) is.waits;
  taken = is.taken;
  sent = is.sent;
  ended = λ v one. ⊎_elim
      (λ (same : v ≡ w). subst (λ u. put c.ended w true u ≡ get_or (slice_set m.core.ended w true) u false) (sym same) (put-same c.ended w true ∙ sym here))
      (λ (apart : v ≢ w). put-other c.ended w true v apart ∙ is.ended v one ∙ sym (there v apart))
      (cases_eq v w);
  whole = λ v one done. ⊎_elim
      (λ (same : v ≡ w). subst (λ u. c.sent u ≡ script_of scripts u) (sym same) (is.sent w at ∙ all_of (script_of scripts w) (count_of m w) none))
      (λ (apart : v ≢ w). is.whole v one (sym (put-other c.ended w true v apart) ∙ done))
      (cases_eq v w);
  counts = is.counts;
  marks = length-set m.core.ended w true ∙ is.marks;
}
  where
    within : w < length m.core.ended
    within = let b = at.1 in omega (arith, is.marks)

    here : get_or (slice_set m.core.ended w true) w false ≡ true
    here = let lt = within in rw get_or-set_same refl

    there : (v : ℕ) → v ≢ w → get_or (slice_set m.core.ended w true) v false ≡ get_or m.core.ended v false
    there v d = rw get_or-set_other refl

entries-snoc : (xs : List Item) (x : Item) → entries (xs ++ x ∷ []) ≡ entries xs ++ entries (x ∷ [])
entries-snoc [] x = refl
entries-snoc (Emitted e ∷ xs) x = ap (λ l. e ∷ l) (entries-snoc xs x)
entries-snoc (End w ∷ xs) x = entries-snoc xs x

-- the moment after these turns
abbrev HasMoment : List (List Event) → List Turn → Moment → Type 0
HasMoment scripts done m = (c : Core) × IsMomentOf scripts m c × Ordered scripts done (c.taken ++ c.waiting)

taken_step : (scripts : List (List Event)) (done : List Turn) (m : Moment) (c : Core) (x : Item) (xs : List Item) (r : Recorded) → IsMomentOf scripts m c → Ordered scripts done (c.taken ++ c.waiting) → m.core.waiting ≡ x ∷ xs → entries (c.taken ++ x ∷ []) ≡ r.entries
    → HasMoment scripts (done ++ Take ∷ []) (record { core = record { workers = m.core.workers; ended = m.core.ended; waiting = xs }; emitted = m.emitted; taken = r })
taken_step scripts done m c x xs r is o first more = (
  take_first x xs c,
  record {
    lawful = takes (length scripts) x xs c (is.waits ∙ first) is.lawful;
    waits = refl;
    taken = more;
    sent = is.sent;
    ended = is.ended;
    whole = is.whole;
    counts = is.counts;
    marks = is.marks;
  },
  subst (Ordered scripts (done ++ Take ∷ [])) (ap (λ l. c.taken ++ l) (is.waits ∙ first) ∙ sym (append_assoc c.taken (x ∷ []) xs)) (take_ordered scripts done (c.taken ++ c.waiting) o),
)

appended_step : (scripts : List (List Event)) (done : List Turn) (m n : Moment) (c : Core) (e : Entry) (xs : List Item) (fault : Option AppendFault) → IsMomentOf scripts m c → Ordered scripts done (c.taken ++ c.waiting) → m.core.waiting ≡ Emitted e ∷ xs → append_to m xs e fault ≡ Ok n → HasMoment scripts (done ++ Take ∷ []) n
appended_step scripts done m n c e xs None is o first h =
    subst (HasMoment scripts (done ++ Take ∷ [])) (same_Ok _ n h) (taken_step scripts done m c (Emitted e) xs _ is o first (entries-snoc c.taken (Emitted e) ∙ ap (λ l. l ++ e ∷ []) is.taken))
appended_step scripts done m n c e xs (Some f) is o first h = absurd cc

take_step : (scripts : List (List Event)) (done : List Turn) (m n : Moment) (c : Core) (xs : List Item) → IsMomentOf scripts m c → Ordered scripts done (c.taken ++ c.waiting) → m.core.waiting ≡ xs → take_item m xs ≡ Ok n → HasMoment scripts (done ++ Take ∷ []) n
take_step scripts done m n c [] is o first h = subst (HasMoment scripts (done ++ Take ∷ [])) (same_Ok m n h) (c, is, take_ordered scripts done (c.taken ++ c.waiting) o)
take_step scripts done m n c (End w ∷ xs) is o first h =
    subst (HasMoment scripts (done ++ Take ∷ [])) (same_Ok _ n h) (taken_step scripts done m c (End w) xs m.taken is o first (entries-snoc c.taken (End w) ∙ append-nil (entries c.taken) ∙ is.taken))
take_step scripts done m n c (Emitted e ∷ xs) is o first h = appended_step scripts done m n c e xs (fault_of m.taken e) is o first h

-- a worker has had as many turns as it sent events, and one more where it ended
turns_had : (scripts : List (List Event)) (done : List Turn) (m : Moment) (c : Core) (w : ℕ) (b : Bool) → IsMomentOf scripts m c → Ordered scripts done (c.taken ++ c.waiting) → c.ended w ≡ b → count_by (is_turn_of w) done ≡ length (c.sent w) + cond {A = ℕ} b 1 0
turns_had scripts done m c w b is o ended = o.counted w ∙ ap length (is.lawful.kept w) ∙ script_long w (c.sent w) (c.ended w) ∙ ap (λ (x : Bool). length (c.sent w) + cond {A = ℕ} x 1 0) ended

next_step : (scripts : List (List Event)) (done : List Turn) (m : Moment) (c : Core) (w : ℕ) (found : Option Event) → length scripts ≤ most_workers → IsMomentOf scripts m c → Ordered scripts done (c.taken ++ c.waiting) → IsWorkerOf (length scripts) w
    → has_ended m.core w ≡ false → slice_get (script_of scripts w) (count_of m w) ≡ found → HasMoment scripts (done ++ Worker w ∷ []) (next w m found)
next_step scripts done m c w (Some e) few is o at open' some =
    let events = script_of scripts w in
    let had = turns_had scripts done m c w false is o (is.ended w at ∙ open') in
    let within : count_of m w < length events = slice_get_within events (count_of m w) e some in
    let sent : length (c.sent w) ≡ count_of m w = ap length (is.sent w at) ∙ length-take-le (count_of m w) events (omega arith) in
    let number : count_by (is_turn_of w) done ≡ count_of m w = omega arith in
    let item : item_after scripts done w ≡ Some (entry w e) = ap (slice_get (script w events true)) number ∙ scripted_event w events (count_of m w) e some in (
      emit w e c,
      emitted_step scripts m c w e is at open' some,
      subst (Ordered scripts (done ++ Worker w ∷ [])) (append_assoc c.taken c.waiting (entry w e ∷ [])) (worker_ordered scripts done (c.taken ++ c.waiting) w (entry w e) o refl item),
    )
next_step scripts done m c w None few is o at open' none =
    let events = script_of scripts w in
    let had = turns_had scripts done m c w false is o (is.ended w at ∙ open') in
    let sent : length (c.sent w) ≡ length events = ap length (is.sent w at ∙ all_of events (count_of m w) none) in
    let number : count_by (is_turn_of w) done ≡ length events = omega arith in
    let item : item_after scripts done w ≡ Some (End w) = scripted_mark w events (count_by (is_turn_of w) done) number in (
      finish w c,
      ended_step scripts m c w few is at open' none,
      subst (Ordered scripts (done ++ Worker w ∷ [])) (append_assoc c.taken c.waiting (End w ∷ [])) (worker_ordered scripts done (c.taken ++ c.waiting) w (End w) o refl item),
    )

worked : (b : Bool) (m n : Moment) → cond b (Err Faulty) (Ok m) ≡ Ok n → (b ≡ false) × (m ≡ n)
worked true m n e = absurd cc
worked false m n e = (refl, same_Ok m n e)

one_step : (scripts : List (List Event)) (done : List Turn) (m n : Moment) (c : Core) (t : Turn) → length scripts ≤ most_workers → IsTurn (length scripts) t → IsMomentOf scripts m c → Ordered scripts done (c.taken ++ c.waiting) → turn_step scripts m t ≡ Ok n
    → HasMoment scripts (done ++ t ∷ []) n
one_step scripts done m n c (Worker w) few at is o h =
    let k = worked (has_ended m.core w) (next w m (slice_get (script_of scripts w) (count_of m w))) n h in
    subst (HasMoment scripts (done ++ Worker w ∷ [])) k.1 (next_step scripts done m c w (slice_get (script_of scripts w) (count_of m w)) few is o at k.0 refl)
one_step scripts done m n c Take few at is o h = take_step scripts done m n c m.core.waiting is o refl h

-- the turns done, and then these
all_steps : (scripts : List (List Event)) (done turns : List Turn) (m n : Moment) (c : Core) → length scripts ≤ most_workers → AllByRecursion (IsTurn (length scripts)) turns → IsMomentOf scripts m c → Ordered scripts done (c.taken ++ c.waiting)
    → plays scripts turns m ≡ Some n → HasMoment scripts (done ++ turns) n
all_steps scripts done [] m n c few all is o e = subst (HasMoment scripts (done ++ [])) (same_Some m n e) (c, is, subst (λ l. Ordered scripts l (c.taken ++ c.waiting)) (sym (append-nil done)) o)
all_steps scripts done (t ∷ turns) m n c few all is o e =
    elim (turn_step scripts m t) as (λ r. turn_step scripts m t ≡ r → after r (plays scripts turns) ≡ Some n → HasMoment scripts (done ++ t ∷ turns) n) [
      | Ok p ↦ λ step h.
          let b = one_step scripts done m p c t few all.0 is o step in
          subst (λ l. HasMoment scripts l n) (append_assoc done (t ∷ []) turns) (all_steps scripts (done ++ t ∷ []) turns p n b.0 few all.1 b.1 b.2 h)
      | Err stop ↦ λ step h. absurd (none-some n h)
    ] refl e

same_at : {X : Type 0} (x : X) (n k : ℕ) → get_or (replicate n x) k x ≡ x
same_at x zero k = refl
same_at x (suc n) zero = refl
same_at x (suc n) (suc k) = same_at x n k

not_ended : (n w : ℕ) → has_ended (fresh n) w ≡ false
not_ended n w = same_at false worker_slots w

played : (table : List Descriptor) (scripts : List (List Event)) (turns : List Turn) (m : Moment) → length scripts ≤ most_workers → AllByRecursion (IsTurn (length scripts)) turns → plays scripts turns (start table (length scripts)) ≡ Some m → HasMoment scripts turns m
played table scripts turns m few all e = all_steps scripts [] turns (start table (length scripts)) m
    (record { sent = λ w. []; ended = λ w. false; taken = []; waiting = [] }) few all
    (record {
      lawful = record { kept = λ w. refl; others = λ w not. (refl, refl) };
      waits = refl;
      taken = refl;
      sent = λ w at. ap (λ k. take k (script_of scripts w)) (sym (same_at 0 (length scripts) (w - 1)));
      ended = λ w at. sym (not_ended (length scripts) w);
      whole = λ w at done. absurd (true≢false (sym done));
      counts = length-replicate (length scripts) 0;
      marks = refl;
    }) (none_ordered scripts) e

pub replays_core : ReplaysCore
replays_core table scripts turns m few all e = let p = played table scripts turns m few all e in (p.0, p.1, p.2.are)

first_of : (n i : ℕ) (turns : List Turn) → AllByRecursion (IsTurn n) turns → AllByRecursion (IsTurn n) (take i turns)
first_of n zero [] all = tt
first_of n zero (t ∷ turns) all = tt
first_of n (suc i) [] all = tt
first_of n (suc i) (t ∷ turns) all = (all.0, first_of n i turns all.1)

one_of : (n i : ℕ) (turns : List Turn) (t : Turn) → AllByRecursion (IsTurn n) turns → slice_get turns i ≡ Some t → IsTurn n t
one_of n i [] t all at = absurd (none-some t at)
one_of n zero (u ∷ turns) t all at = subst (IsTurn n) (same_Some u t at) all.0
one_of n (suc i) (u ∷ turns) t all at = one_of n i turns t all.1 at

has_faulted : (b : Bool) (m : Moment) → cond b (Err Faulty) (Ok m) ≡ Err Faulty → b ≡ true
has_faulted true m e = refl
has_faulted false m e = absurd cc

not_faulty_append : (m : Moment) (xs : List Item) (e : Entry) (fault : Option AppendFault) → append_to m xs e fault ≡ Err Faulty → ⊥
not_faulty_append m xs e None h = cc
not_faulty_append m xs e (Some f) h = cc

not_faulty : (m : Moment) (xs : List Item) → take_item m xs ≡ Err Faulty → ⊥
not_faulty m [] h = cc
not_faulty m (End w ∷ xs) h = cc
not_faulty m (Emitted e ∷ xs) h = not_faulty_append m xs e (fault_of m.taken e) h

faulty_turn : (scripts : List (List Event)) (done : List Turn) (m : Moment) (c : Core) (t : Turn) → IsTurn (length scripts) t → IsMomentOf scripts m c → Ordered scripts done (c.taken ++ c.waiting) → turn_step scripts m t ≡ Err Faulty
    → (w : ℕ) × (t ≡ Worker w) × (item_after scripts done w ≡ None)
faulty_turn scripts done m c Take at is o h = absurd (not_faulty m m.core.waiting h)
faulty_turn scripts done m c (Worker w) at is o h =
    let over : c.ended w ≡ true = is.ended w at ∙ has_faulted (has_ended m.core w) (next w m (slice_get (script_of scripts w) (count_of m w))) h in
    let had = turns_had scripts done m c w true is o over in
    let sent : length (c.sent w) ≡ length (script_of scripts w) = ap length (is.whole w at over) in
    let long = script_long w (script_of scripts w) true in
    (w, refl, slice_get_past (script w (script_of scripts w) true) (count_by (is_turn_of w) done) (omega arith))

pub faulty_has_no_item : FaultyHasNoItem
faulty_has_no_item r i few all stops =
    let p = played r.table r.scripts (take i r.turns) stops.moment few (first_of (length r.scripts) i r.turns all) stops.before in
    let f = faulty_turn r.scripts (take i r.turns) stops.moment p.0 stops.turn (one_of (length r.scripts) i r.turns stops.turn all stops.at) p.1 p.2 stops.stops in
    (f.0, stops.at ∙ ap Some f.1, f.2)
