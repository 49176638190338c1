-- In the record of a run each key that a unit starts has its own events until it finishes.
use Rattle.std.proofs.Common.{◌≡◌, ◌<◌, ◌==◌, ℕ, false, List, [], ◌∷◌, ◌++◌, filter, All, refl, sym}
use Rattle.std.proofs.Common.{ap, ap₂, ◌∙◌, subst, append_assoc, append-nil, arith, tests}
use Rattle.std.proofs.lemmas.List.Elements.{All-nil, All-cons, All-weaker}
use Rattle.tk_ids.specs.IdText.{SegmentView}
use Rattle.tk_ids.specs.declared.descriptors.Descriptor.{Descriptor}
use Rattle.tk_events.specs.declared.events.Event.{Event}
use Rattle.tk_events.specs.declared.events.Entry.{Entry}
use Rattle.tk_record.specs.Mixing.{of_worker}
use Rattle.tk_record.specs.Record.{IsRecord}
use Rattle.tk_record.specs.Recorded.{Recorded}
use Rattle.tk_queue_session.specs.Emission.{entries_by, entry_by}
use Rattle.tk_query_lifecycle.specs.Lifecycle.{HasId}
use Rattle.tk_claims.specs.Run.{IsRun}
use Rattle.tk_engine_lifecycle.specs.Units.{Frame, UnitsKeepLifecycle, run_alone}
use Rattle.tk_engine_lifecycle.proofs.SeparateTurns.{Hit, KeptRun, other_first}
use Rattle.tk_engine_lifecycle.proofs.ByKey.{same_id}
use Rattle.tk_engine_lifecycle.proofs.Splits.{unfiltered}
use Rattle.tk_engine_lifecycle.proofs.Turns.{Each, Turn, emitted, is_by, turned}
use Rattle.tk_engine_lifecycle.proofs.WholeRuns.{kept_run, turn_whole}
use Rattle.tk_queue_session.proofs.ReceiverSteps.{of_worker-append}
use Rattle.tk_engine_hierarchical.specs.Laws.{UnitsNest}
use Rattle.tk_engine_unit_events.specs.Nesting.{BelongsTo, EachFinishes, EventsNest}
use Rattle.tk_engine_unit_events.specs.Shapes.{ShapeView, frame, may_emit}
use Rattle.tk_engine_unit_events.proofs.KeySpans.{all_both, nest-append, nesting_none}

-- the key of each event in the middle has an event in the list
all_hit : (l pre during post : List Event) → l ≡ pre ++ (during ++ post)
    → All (λ e. Hit e.key l) during
all_hit l pre [] post is = All-nil (λ (e : Event). Hit e.key l)
all_hit l pre (e ∷ during) post is =
    All-cons (λ x. Hit x.key l) e during
    (record { prefix = pre; event = e; suffix = during ++ post; is = is; key_is = refl })
    (all_hit l (pre ++ e ∷ []) during post (is ∙ sym (append_assoc pre (e ∷ []) (during ++ post))))

-- a key of a turn has the same id in the whole record
id_there : (f : Frame) (entries : List Entry) (c : KeptRun f entries) (p : List Turn) (t : Turn)
    (q : List Turn) → c.ts ≡ p ++ t ∷ q → (key : ℕ) (id : List SegmentView) → Hit key t.list
    → HasId (run_alone f t.worker t.list) key id
    → HasId (record { table = f.table; entries = entries }) key id
id_there f entries c p t q is key id hit h =
    same_id (run_alone f t.worker t.list) (record { table = f.table; entries = entries }) key id
    refl (sym (turn_whole f entries c p t q key is hit)) h

nest_there : (f : Frame) (entries : List Entry) (c : KeptRun f entries) (p : List Turn) (t : Turn)
    (q : List Turn) → c.ts ≡ p ++ t ∷ q
    → EventsNest (run_alone f t.worker t.list) t.list
    → EventsNest (record { table = f.table; entries = entries }) t.list
nest_there f entries c p t q is n before start during after at kind none =
    let alone = run_alone f t.worker t.list in
    let whole : Recorded = record { table = f.table; entries = entries } in
    let hits = all_hit t.list (before ++ start ∷ []) during after
    (at ∙ sym (append_assoc before (start ∷ []) (during ++ after))) in
    let first : Hit start.key t.list =
    record { prefix = before; event = start; suffix = during ++ after; is = at; key_is = refl }
    in
    All-weaker (λ e. Hit e.key t.list × BelongsTo alone start.key e) (BelongsTo whole start.key)
    (λ e h. record {
      id = h.1.id;
      its = id_there f entries c p t q is start.key h.1.id first h.1.its;
      own = h.1.own;
      named = id_there f entries c p t q is e.key h.1.own h.0 h.1.named;
      within = h.1.within;
    })
    during (all_both (λ e. Hit e.key t.list) (BelongsTo alone start.key) during hits
    (n before start during after at kind none))

turns_nest : (r : Recorded) (ts : List Turn)
    → Each (λ t. EventsNest r t.list × EachFinishes t.list) ts → EventsNest r (emitted ts)
turns_nest r [] each = (nesting_none r).nest
turns_nest r (t ∷ ts) each =
    let here = each [] t ts refl in
    nest-append r t.list (emitted ts) here.0 here.1
    (turns_nest r ts (λ p x q is. each (t ∷ p) x q (ap (λ l. t ∷ l) is)))

none_of_zero : (w : ℕ) (es : List Event) → 0 < w → of_worker w (entries_by 0 es) ≡ []
none_of_zero w [] low = refl
none_of_zero w (e ∷ es) low =
    let fails : (0 == w) ≡ false = grind (arith, tests, low) in
    other_first w (entry_by 0 e) (entries_by 0 es) fails ∙ none_of_zero w es low

-- of a worker from 1 on the record has what stands between the events around the units
pub of_worker_mid : (may : ℕ → ℕ → ℕ → List Event → Type 0) (table : List Descriptor)
    (before after : List Event) (units workers : ℕ) (r : Recorded)
    (run : IsRun may table before after units workers r) (w : ℕ) → 0 < w
    → of_worker w r.entries ≡ of_worker w run.mid
of_worker_mid may table before after units workers r run w low =
    let e0 = entries_by 0 before in
    ap (of_worker w) run.whole ∙ of_worker-append w (e0 ++ run.mid) (entries_by 0 after)
    ∙ ap₂ (λ a b. a ++ b)
    (of_worker-append w e0 run.mid ∙ ap (λ l. l ++ of_worker w run.mid) (none_of_zero w before low))
    (none_of_zero w after low)
    ∙ append-nil (of_worker w run.mid)

pub units_nest : (s : ShapeView) (may_step : Event → Type 0) (workers : ℕ) (r : Recorded)
    → UnitsKeepLifecycle (frame s) (may_emit s may_step)
    → IsRun (may_emit s may_step) (frame s).table (frame s).before (frame s).after
    (frame s).units workers r → IsRecord r → UnitsNest r
units_nest s may_step workers r units run lawful w low =
    let M : ℕ → ℕ → ℕ → List Event → Type 0 = may_emit s may_step in
    let c = kept_run (frame s) M workers r units run lawful in
    let t = turned M (frame s).units workers run.mid run.shared in
    let whole : Recorded = record { table = s.plan.table; entries = r.entries } in
    let same : whole ≡ r = ap (λ table. record { table = table; entries = r.entries })
    (sym run.over) in
    let each : Each (λ x. EventsNest whole x.list × EachFinishes x.list) (filter (is_by w) c.ts) =
    λ p x q is.
    let u = unfiltered (is_by w) c.ts p x q is in
    let m = t.each u.prefix x u.suffix u.is in
    (nest_there (frame s) r.entries c u.prefix x u.suffix u.is m.1.1.nest, m.1.1.finish) in
    let list = of_worker_mid M (frame s).table (frame s).before (frame s).after
    (frame s).units workers r run w low in
    subst (λ v. EventsNest v (of_worker w r.entries)) same
    (subst (EventsNest whole) (c.emits w ∙ sym list)
    (turns_nest whole (filter (is_by w) c.ts) each))
