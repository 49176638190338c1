-- A unit of a hierarchical engine after each thing that it may do.
use Rattle.std.proofs.Common.{◌≡◌, ◌<◌, ◌≤◌, ◌+◌, ◌==◌, ℕ, zero, suc, inl, ⊎_elim, Bool, true}
use Rattle.std.proofs.Common.{false, List, [], ◌∷◌, ◌++◌, length, Option, Some, None, slice_get}
use Rattle.std.proofs.Common.{refl, sym, ap, ◌∙◌, subst, append_assoc, append-nil, arith}
use Rattle.std.specs.Prelude.{All, Result, Ok, Err, OnOk, OnErr, IfSome, IfNone, get_or}
use Rattle.std.specs.Prelude.{is_some, not, unwrap_or}
use Rattle.std.proofs.lemmas.Option.{same_Some}
use Rattle.std.proofs.lemmas.List.Elements.{All-cons, All-nil, All-head, All-tail, All-weaker}
use Rattle.tk_ids.specs.IdText.{SegmentView, parent_of}
use Rattle.tk_ids.specs.declared.descriptors.Descriptor.{Descriptor}
use Rattle.tk_ids.specs.Table.{AreDifferent, ids_of}
use Rattle.tk_events.specs.declared.events.Event.{Event}
use Rattle.tk_events.specs.declared.kinds.Kind.{Kind}
use Rattle.tk_events.specs.declared.kinds.Kind.TheVariants.{Dynamic, File, Finished, Reporting}
use Rattle.tk_events.specs.declared.kinds.Kind.TheVariants.{Skipped, Started}
use Rattle.tk_events.specs.Event.{kind_code}
use Rattle.tk_record.specs.Recorded.{Recorded}
use Rattle.tk_queue_session.specs.Emission.{entries_by}
use Rattle.tk_record.specs.Entries.{desc_in}
use Rattle.tk_queue_session.specs.Senders.{SenderView, record_of_sender, sends}
use Rattle.tk_query_lifecycle.specs.Lifecycle.{HasId}
use Rattle.tk_engine_lifecycle.specs.Units.{Frame, KeepsAround, run_alone}
use Rattle.tk_engine_lifecycle.proofs.States.{state}
use Rattle.tk_engine_lifecycle.specs.UnderWay.{IsOneOf, MayBegin, so_far}
use Rattle.tk_engine_lifecycle.proofs.ByKey.{events_by, from_table, later_id, one_id}
use Rattle.tk_engine_lifecycle.proofs.ByKey.{registration_of, table_or_entry}
use Rattle.tk_engine_lifecycle.proofs.SeparateTurns.{plain}
use Rattle.tk_engine_lifecycle.proofs.UnitProgress.{kept_id}
use Rattle.tk_engine_execute.specs.Engines.{Extends, IsSameSender}
use Rattle.tk_engine_unit_events.specs.Emitting.{IsEmitting, Progress, since}
use Rattle.tk_engine_unit_events.specs.Covered.{AreCovered}
use Rattle.tk_ids.specs.IdText.{IsBelow}
use Rattle.tk_engine_unit_events.specs.Units.{HasPlayed, UnitKeys, StepsAs}
use Rattle.tk_engine_unit_events.specs.Events.{HasRun, HaveIds, IsNesting, IsRunning, progress}
use Rattle.tk_engine_unit_events.specs.steps.{HasInnermostParent, HasParentAmong, MayStart}
use Rattle.tk_engine_unit_events.specs.RegisteredIds.{is_registered}
use Rattle.tk_engine_unit_events.specs.UnitSteps.{publishes}
use Rattle.tk_engine_unit_events.specs.declared.running_keys.RunningKey.{RunningKey}
use Rattle.tk_engine_unit_events.specs.Running.{RunningId, id_at, keys_of, with_id, with_ids}
use Rattle.tk_plan.specs.Parents.{HasParentAt}
use Rattle.tk_engine_unit_events.specs.Shapes.{ShapeView, frame}
use Rattle.tk_engine_unit_events.proofs.KeySpans.{Adds, IsNext, IsWithin, below_parent}
use Rattle.tk_engine_unit_events.proofs.KeySpans.{each_finishes, nest_later, nesting_finish}
use Rattle.tk_engine_unit_events.proofs.KeySpans.{nesting_none, nesting_plain, nesting_start}
use Rattle.tk_engine_unit_events.proofs.KeySpans.{within_all, within_first}
use Rattle.tk_engine_unit_events.proofs.Played.{published_is_no_step}
use Rattle.tk_engine_unit_events.proofs.Owned.{owner_static}
use Rattle.tk_engine_unit_events.proofs.Emitted.{emitted_finish}
use Rattle.tk_engine_unit_events.proofs.Emitted.{emitted_all, emitted_report}
use Rattle.tk_engine_unit_events.proofs.Emitted.{emitted_skip, emitted_start, emitting_later}
use Rattle.tk_engine_unit_events.proofs.Emitted.{emitting_none}
use Rattle.tk_engine_unit_events.proofs.Emitted.{sender_later}
use Rattle.tk_query_lifecycle.proofs.IdMapLemmas.{at_id}

-- what holds of a sink before and after an event holds of it, whatever emitting answered
pub after_emit : {F : Type 0} (old now new : SenderView) (r : Result (Unit {0}) F)
    (P : SenderView → Type 0)
    → OnOk r (now ≡ new) → OnErr r (now ≡ old) → P old → P new → P now
after_emit old now new (Ok _) P ok err before after = subst P (sym ok) after
after_emit old now new (Err _) P ok err before after = subst P (sym err) before

plain_kind : (k : Kind) → publishes k ≡ true → (kind_code k == kind_code Dynamic) ≡ false
plain_kind Reporting e = refl
plain_kind File e = refl
plain_kind Dynamic e = cc
plain_kind Skipped e = cc
plain_kind Started e = cc
plain_kind Finished e = cc

pub later_ids : (s : SenderView) (e : Event) (running : List RunningId) → HaveIds s running
    → HaveIds (sends s e) running
later_ids s e running h = All-weaker (λ k. HasId (record_of_sender s) k.key k.id)
    (λ k. HasId (record_of_sender (sends s e)) k.key k.id)
    (λ k i. sender_later s e k.key k.id i) running h

pub innermost_is : (running rest : List RunningId) (first : RunningId) → running ≡ first ∷ rest
    → IsOneOf first.key (keys_of running)
innermost_is running rest first is = subst (λ l. IsOneOf first.key (keys_of l)) (sym is) (inl refl)

pub cancel : (a x y : List Event) → a ++ x ≡ a ++ y → x ≡ y
cancel [] x y e = e
cancel (v ∷ a) x y e = let rest : a ++ x ≡ a ++ y = cc in cancel a x y rest

-- ---- the events that a unit has emitted

-- where a sink took one event more, so did the list of the unit's events
pub same_more : (f : Frame) (unit : ℕ) (start now : SenderView) (p q : Progress) (e : Event)
    (i : IsEmitting f unit (since start now) p)
    (j : IsEmitting f unit (since start (sends now e)) q)
    → i.events ++ e ∷ [] ≡ j.events
same_more f unit start now p q e i j =
    cancel start.sent (i.events ++ e ∷ []) j.events
    (sym (append_assoc start.sent i.events (e ∷ [])) ∙ ap (λ l. l ++ e ∷ []) (sym i.sent)
    ∙ j.sent)

same_events : (f : Frame) (unit : ℕ) (start now : SenderView) (p q : Progress)
    (i : IsEmitting f unit (since start now) p) (j : IsEmitting f unit (since start now) q)
    → i.events ≡ j.events
same_events f unit start now p q i j = cancel start.sent i.events j.events (sym i.sent ∙ j.sent)

-- of these events the keys have their own until they finish
abbrev Nests : Frame → ℕ → List RunningId → List Event → Type 0
Nests f w running l = IsNesting (so_far f w l) l running

pub nests_more : (f : Frame) (unit : ℕ) (start now : SenderView) (p q : Progress) (e : Event)
    (running : List RunningId) (i : IsEmitting f unit (since start now) p)
    (j : IsEmitting f unit (since start (sends now e)) q)
    → Nests f start.worker running (i.events ++ e ∷ []) → Nests f start.worker running j.events
nests_more f unit start now p q e running i j n = subst (Nests f start.worker running)
    (same_more f unit start now p q e i j) n

nests_same : (f : Frame) (unit : ℕ) (start now : SenderView) (p q : Progress)
    (running : List RunningId) (i : IsEmitting f unit (since start now) p)
    (j : IsEmitting f unit (since start now) q)
    → Nests f start.worker running i.events → Nests f start.worker running j.events
nests_same f unit start now p q running i j n = subst (Nests f start.worker running)
    (same_events f unit start now p q i j) n

-- an event of a key that has this id already
pub adds : (f : Frame) (w : ℕ) (l : List Event) (e : Event) (running : List RunningId) (key : ℕ)
    (id : List SegmentView) → HasId (so_far f w l) key id → e.key ≡ key → All (IsWithin id) running
    → Adds (so_far f w l) (so_far f w (l ++ e ∷ [])) running e id
adds f w l e running key id its same within = record {
  later = kept_id f w l e;
  named = subst (λ k. HasId (so_far f w (l ++ e ∷ [])) k id) (sym same)
      (kept_id f w l e key id its);
  within = within;
}

-- an event of the innermost running key
adds_first : (f : Frame) (w : ℕ) (l : List Event) (e : Event) (first : RunningId)
    (rest : List RunningId) → Nests f w (first ∷ rest) l → e.key ≡ first.key
    → Adds (so_far f w l) (so_far f w (l ++ e ∷ [])) (first ∷ rest) e first.id
adds_first f w l e first rest n same =
    adds f w l e (first ∷ rest) first.key first.id
    (All-head (λ k. HasId (so_far f w l) k.key k.id) first rest n.ids) same
    (within_first first rest n.chain)

not_started : (k : Kind) → publishes k ≡ true → k ≡ Started → ⊥
not_started k p e = let bad : true ≡ false = sym p ∙ ap publishes e in cc

finish_is_not : (k : Kind) → k ≡ Finished → k ≡ Started → ⊥
finish_is_not k a b = let bad : Finished ≡ Started = sym a ∙ b in cc

pub skip_is_not : (k : Kind) → k ≡ Skipped → k ≡ Started → ⊥
skip_is_not k a b = let bad : Skipped ≡ Started = sym a ∙ b in cc

pub dynamic_is_not : (k : Kind) → k ≡ Dynamic → k ≡ Started → ⊥
dynamic_is_not k a b = let bad : Dynamic ≡ Started = sym a ∙ b in cc

-- what the innermost running key publishes
pub ran_published : (f : Frame) (unit : ℕ) (start now : SenderView) (running : List RunningId)
    (registered : List (List ℕ)) (next : ℕ)
    (first : RunningId) (e : Event) → IsRunning f unit start now running registered next
    → (rest : List RunningId) × (running ≡ first ∷ rest) → publishes e.kind ≡ true
    → e.key ≡ first.key
    → IsRunning f unit start (sends now e) running registered next
ran_published f unit start now running registered next first e r is kind key =
    let i = r.emitting in
    let l = i.events in
    let w = start.worker in
    let j = emitted_report f unit start now (progress running registered next) e i
    (published_is_no_step e.kind kind) (plain_kind e.kind kind)
    (subst (λ k. IsOneOf k (keys_of running)) (sym key) (innermost_is running is.0 first is.1)) in
    let n : Nests f w (first ∷ is.0) l = subst (λ m. Nests f w m l) is.1 r.nesting in
    let more : Nests f w (first ∷ is.0) (l ++ e ∷ [])
    = nesting_plain (so_far f w l) (so_far f w (l ++ e ∷ [])) l e (first ∷ is.0) first.id n
    (adds_first f w l e first is.0 n key) (not_started e.kind kind) in
    record {
      emitting = j;
      ids = later_ids now e running r.ids;
      nesting = nests_more f unit start now (progress running registered next)
          (progress running registered next) e running i j
          (subst (λ m. Nests f w m (l ++ e ∷ [])) (sym is.1) more);
    }

-- the innermost running key finishes
pub ran_finish : (f : Frame) (unit : ℕ) (start now : SenderView) (running rest : List RunningId)
    (registered : List (List ℕ)) (next : ℕ)
    (first : RunningId) (e : Event) → IsRunning f unit start now running registered next
    → running ≡ first ∷ rest → e.kind ≡ Finished → e.key ≡ first.key
    → IsRunning f unit start (sends now e) rest registered next
ran_finish f unit start now running rest registered next first e r is kind key =
    let i : IsEmitting f unit (since start now)
    (record {
      running = e.key ∷ keys_of rest;
      registered = is_registered registered;
      next = next;
    })
    = subst (λ l. IsEmitting f unit (since start now)
    (record { running = l; registered = is_registered registered; next = next }))
    (ap keys_of is ∙ ap (λ k. k ∷ keys_of rest) (sym key)) r.emitting in
    let j = emitted_finish f unit start now (keys_of rest)
    (is_registered registered) next e i kind in
    let l = r.emitting.events in
    let w = start.worker in
    let n : Nests f w (first ∷ rest) l = subst (λ m. Nests f w m l) is r.nesting in
    record {
      emitting = j;
      ids = All-tail (λ k. HasId (record_of_sender (sends now e)) k.key k.id) first rest
          (later_ids now e (first ∷ rest) (subst (HaveIds now) is r.ids));
      nesting = nests_more f unit start now (progress running registered next)
          (progress rest registered next) e rest r.emitting j
          (nesting_finish (so_far f w l) (so_far f w (l ++ e ∷ [])) l e first rest first.id n
          (adds_first f w l e first rest n key) kind key (finish_is_not e.kind kind));
    }

-- ---- static keys

table_id : (table : List Descriptor) (k : ℕ) (id : List SegmentView)
    → slice_get (ids_of table) k ≡ Some id → (d : Descriptor) × (slice_get table k ≡ Some d)
    × (d.id ≡ id)
table_id [] k id e = cc
table_id (d ∷ ds) zero id e = (d, refl, same_Some _ _ e)
table_id (d ∷ ds) (suc k) id e = table_id ds k id e

pub static_id : (r : Recorded) (k : ℕ) (id : List SegmentView)
    → slice_get (ids_of r.table) k ≡ Some id → HasId r k id
static_id r k id e = let d = table_id r.table k id e in
    record { descriptor = d.0; described = from_table r k d.0 d.1; id_is = d.2 }

-- a static id whose parent's id the innermost running key has stands below that key
next_static : (f : Frame) (w : ℕ) (l : List Event) (running : List RunningId)
    (id : List SegmentView) → All (λ k. HasId (so_far f w l) k.key k.id) running
    → HasInnermostParent f (keys_of running) id → IsNext running id
next_static f w l [] id ids h = tt
next_static f w l (k ∷ ks) id ids h =
    let r = so_far f w l in
    let same : k.id ≡ parent_of id = one_id r k.key k.id (parent_of id)
    (All-head (λ x. HasId r x.key x.id) k ks ids) (static_id r k.key (parent_of id) h.1) in
    subst (λ x. IsBelow x id) (sym same) (below_parent id h.0)

pub described_id : (r : Recorded) (k : ℕ) (d : Descriptor) → slice_get r.table k ≡ Some d
    → HasId r k d.id
described_id r k d e = record { descriptor = d; described = from_table r k d e; id_is = refl }

-- a static key that may start may have its first event
may_begin : (f : Frame) (unit w : ℕ) (l : List Event) (running : List ℕ) (key : ℕ)
    → MayStart f unit running key → MayBegin (state f unit w l running) key
may_begin f unit w l running key m =
    let its = described_id (so_far f w l) key m.descriptor m.described in
    record {
      id = m.descriptor.id;
      its = its;
      belongs = m.belongs;
      parent = λ id h long.
          let same : m.descriptor.id ≡ id = one_id (so_far f w l) key m.descriptor.id id its h in
          let p = m.parent (subst (λ x. 1 < length x) (sym same) long) in (
            p.0,
            subst (λ x. HasId (so_far f w l) p.0 (parent_of x)) same
                (static_id (so_far f w l) p.0 (parent_of m.descriptor.id) p.1),
            p.2,
          );
    }

static_below : (table : List Descriptor) (k : ℕ) (d : Descriptor) → slice_get table k ≡ Some d
    → k < length table
static_below [] k d e = cc
static_below (x ∷ xs) zero d e = omega arith
static_below (x ∷ xs) (suc k) d e = let h = static_below xs k d e in omega (arith, h)

-- a static key starts
pub ran_start : (f : Frame) (unit : ℕ) (start now : SenderView) (running : List RunningId)
    (registered : List (List ℕ)) (next key : ℕ)
    (id : List SegmentView) (e : Event) → IsRunning f unit start now running registered next
    → MayStart f unit (keys_of running) key → next ≤ key → slice_get (ids_of f.table) key ≡ Some id
    → e.kind ≡ Started → e.key ≡ key
    → IsRunning f unit start (sends now e) (record { key = key; id = id } ∷ running) registered
    (key + 1)
ran_start f unit start now running registered next key id e r m low at kind same =
    let i = r.emitting in
    let b = may_begin f unit start.worker i.events (keys_of running) key m in
    let static = static_below f.table key m.descriptor m.described in
    let table : now.table ≡ f.table = i.same.table ∙ i.table in
    let l = i.events in
    let w = start.worker in
    let j : IsEmitting f unit (since start (sends now e))
    (record {
      running = key ∷ keys_of running;
      registered = is_registered registered;
      next = key + 1;
    })
    = subst (λ k. IsEmitting f unit (since start (sends now e))
    (record {
      running = k ∷ keys_of running;
      registered = is_registered registered;
      next = k + 1;
    })) same
    (emitted_start f unit start now (progress running registered next) e i kind
    (subst (λ k. next ≤ k) (sym same) low) (subst (λ k. k < length f.table) (sym same) static)
    (subst (MayBegin (state f unit start.worker i.events (keys_of running))) (sym same) b)) in
    let its : HasId (so_far f w l) key id = static_id (so_far f w l) key id at in
    let own : m.descriptor.id ≡ id = same_Some _ _
    (sym (at_id f.table key m.descriptor m.described) ∙ at) in
    let next_is : IsNext running id = next_static f w l running id r.nesting.ids
    (subst (HasInnermostParent f (keys_of running)) own m.innermost) in
    record {
      emitting = j;
      nesting = nests_more f unit start now (progress running registered next)
          (record {
            running = key ∷ keys_of running;
            registered = is_registered registered;
            next = key + 1;
          }) e (record { key = key; id = id } ∷ running) i j
          (nesting_start (so_far f w l) (so_far f w (l ++ e ∷ [])) l e running key id r.nesting
          (adds f w l e running key id its same (within_all running id r.nesting.chain next_is))
          same next_is);
      ids = All-cons (λ k. HasId (record_of_sender (sends now e)) k.key k.id)
          (record { key = key; id = id }) running
          (static_id (record_of_sender (sends now e)) key id
          (ap (λ t. slice_get (ids_of t) key) table ∙ at)) (later_ids now e running r.ids);
    }

-- or is skipped
pub ran_skip : (f : Frame) (unit : ℕ) (start now : SenderView) (running : List RunningId)
    (registered : List (List ℕ)) (next key : ℕ)
    (e : Event) → IsRunning f unit start now running registered next
    → MayStart f unit (keys_of running) key → next ≤ key → e.kind ≡ Skipped → e.key ≡ key
    → IsRunning f unit start (sends now e) running registered (key + 1)
ran_skip f unit start now running registered next key e r m low kind same =
    let i = r.emitting in
    let b = may_begin f unit start.worker i.events (keys_of running) key m in
    let static = static_below f.table key m.descriptor m.described in
    let l = i.events in
    let w = start.worker in
    let id = m.descriptor.id in
    let j : IsEmitting f unit (since start (sends now e))
    (record {
      running = keys_of running;
      registered = is_registered registered;
      next = key + 1;
    })
    = subst (λ k. IsEmitting f unit (since start (sends now e))
    (record { running = keys_of running; registered = is_registered registered; next = k + 1 }))
    same
    (emitted_skip f unit start now (progress running registered next) e i kind
    (subst (λ k. next ≤ k) (sym same) low) (subst (λ k. k < length f.table) (sym same) static)
    (subst (MayBegin (state f unit start.worker i.events (keys_of running))) (sym same) b)) in
    let next_is : IsNext running id = next_static f w l running id r.nesting.ids m.innermost in
    record {
      emitting = j;
      ids = later_ids now e running r.ids;
      nesting = nests_more f unit start now (progress running registered next)
          (record {
            running = keys_of running;
            registered = is_registered registered;
            next = key + 1;
          }) e running i j
          (nesting_plain (so_far f w l) (so_far f w (l ++ e ∷ [])) l e running id r.nesting
          (adds f w l e running key id (described_id (so_far f w l) key m.descriptor m.described)
          same (within_all running id r.nesting.chain next_is)) (skip_is_not e.kind kind));
    }

no_key : (first : RunningKey) (rest : List RunningKey) → [] ≡ first ∷ rest → ⊥
no_key first rest e = cc

first_same : {x y : RunningKey} {xs ys : List RunningKey} → x ∷ xs ≡ y ∷ ys → x ≡ y
first_same e = cc

-- what is left where the innermost running key was taken off
pub popped : (old new rest : List RunningKey) (first : RunningKey) (r : Option RunningKey)
    → old ≡ first ∷ rest
    → IfSome r (λ k. old ≡ k ∷ new) → IfNone r ((old ≡ []) × (new ≡ [])) → old ≡ first ∷ new
popped old new rest first None is some none = absurd (no_key first rest (sym none.0 ∙ is))
popped old new rest first (Some k) is some none =
    let same : k ≡ first = first_same (sym some ∙ is) in
    some ∙ ap (λ x. x ∷ new) same

-- the parent of a static key is the key above it
pub parent_above : (table : List Descriptor) (key above : ℕ) (id : List SegmentView)
    → slice_get (ids_of table) key ≡ Some id → HasParentAt table key above
    → (1 < length id) × (slice_get (ids_of table) above ≡ Some (parent_of id))
parent_above table key above id is p =
    let same : p.id ≡ id = same_Some _ _ (sym p.its ∙ is) in (
      subst (λ i. 1 < length i) same p.long,
      subst
          (λ i. slice_get (ids_of table) above ≡ Some (parent_of i)) same p.parent,
    )

-- the innermost key that runs is that of an id's parent
pub innermost_parent : (s : ShapeView) (running rest : List RunningKey) (k : RunningKey) (above : ℕ)
    (id : List SegmentView) → running ≡ k ∷ rest
    → k.key ≡ above → (1 < length id)
    × (slice_get (ids_of s.plan.table) above ≡ Some (parent_of id))
    → HasInnermostParent (frame s) (keys_of (with_ids s.plan.table running)) id
innermost_parent s running rest k above id is same p =
    subst (λ (ks : List RunningKey). HasInnermostParent (frame s)
    (keys_of (with_ids s.plan.table ks)) id) (sym is)
    (p.0, subst (λ n. slice_get (ids_of s.plan.table) n ≡ Some (parent_of id)) (sym same) p.1)

pub innermost_among : (s : ShapeView) (running rest : List RunningKey) (k : RunningKey) (above : ℕ)
    (id : List SegmentView) → running ≡ k ∷ rest
    → k.key ≡ above → (1 < length id)
    × (slice_get (ids_of s.plan.table) above ≡ Some (parent_of id))
    → HasParentAmong (frame s) (keys_of (with_ids s.plan.table running)) id
innermost_among s running rest k above id is same p = λ more. (
  k.key,
  subst (λ n. slice_get (ids_of s.plan.table) n ≡ Some (parent_of id)) (sym same) p.1,
  inl (innermost_is (with_ids s.plan.table running) (with_ids s.plan.table rest)
      (with_id s.plan.table k) (ap (with_ids s.plan.table) is)),
)

-- no key runs
pub none_innermost : (s : ShapeView) (running : List RunningKey) (id : List SegmentView)
    → running ≡ [] → HasInnermostParent (frame s) (keys_of (with_ids s.plan.table running)) id
none_innermost s running id is = subst
    (λ (ks : List RunningKey). HasInnermostParent (frame s) (keys_of (with_ids s.plan.table ks)) id)
    (sym is) tt

-- a static key whose owner is the unit, and whose parent runs, may start
pub may_start : (s : ShapeView) (unit key : ℕ) (running : List RunningId) (d : Descriptor)
    → AreDifferent s.plan.table → slice_get s.plan.table key ≡ Some d
    → get_or s.owners key (frame s).units ≡ unit → HasParentAmong (frame s) (keys_of running) d.id
    → HasInnermostParent (frame s) (keys_of running) d.id
    → MayStart (frame s) unit (keys_of running) key
may_start s unit key running d different is owner parent innermost = record {
  descriptor = d;
  described = is;
  belongs = owner_static s.plan.table s.owners (frame s).units key d.id different
      (at_id s.plan.table key d is) ∙ owner;
  parent = parent;
  innermost = innermost;
}

-- a unit after the start of a static key
pub started : (f : Frame) (unit : ℕ) (start old now : SenderView) (running pushed : List RunningId)
    (registered : List (List ℕ)) (next after key : ℕ) (id : List SegmentView) (e : Event)
    → now ≡ sends old e → pushed ≡ record { key = key; id = id } ∷ running → after ≡ key + 1
    → e.kind ≡ Started → e.key ≡ key
    → IsRunning f unit start old running registered next → MayStart f unit (keys_of running) key
    → next ≤ key → slice_get (ids_of f.table) key ≡ Some id
    → IsRunning f unit start now pushed registered after
started f unit start old now running pushed registered next after key id e sent push more kind own r
    may low at =
    subst (λ s. IsRunning f unit start s pushed registered after) (sym sent)
    (subst (λ l. IsRunning f unit start (sends old e) l registered after) (sym push)
    (subst (λ n. IsRunning f unit start (sends old e)
    (record { key = key; id = id } ∷ running) registered n) (sym more)
    (ran_start f unit start old running registered next key id e r may low at kind own)))

-- a later key may be the next one
ran_later : (f : Frame) (unit : ℕ) (start now : SenderView) (running : List RunningId)
    (registered : List (List ℕ)) (next after : ℕ)
    → next ≤ after → IsRunning f unit start now running registered next
    → IsRunning f unit start now running registered after
ran_later f unit start now running registered next after more r =
    let j = emitting_later f unit start now (progress running registered next) r.emitting after more
    in
    record {
      emitting = j;
      ids = r.ids;
      nesting = nests_same f unit start now
          (progress running registered next) (progress running registered after) running r.emitting j
          r.nesting;
    }

-- a unit after the skip of a static key
pub skipped : (f : Frame) (unit : ℕ) (start old now : SenderView) (running : List RunningId)
    (registered : List (List ℕ)) (next after key : ℕ) (e : Event)
    → now ≡ sends old e → key < after → e.kind ≡ Skipped → e.key ≡ key
    → IsRunning f unit start old running registered next → MayStart f unit (keys_of running) key
    → next ≤ key
    → IsRunning f unit start now running registered after
skipped f unit start old now running registered next after key e sent more kind own r may low =
    subst (λ s. IsRunning f unit start s running registered after) (sym sent)
    (ran_later f unit start (sends old e) running registered (key + 1) after (omega (arith, more))
    (ran_skip f unit start old running registered next key e r may low kind own))

-- what may start in a shape of the engine may start in its frame
pub may_here : (s : ShapeView) (f : Frame) (u unit key : ℕ) (running : List RunningKey)
    → frame s ≡ f → u ≡ unit
    → MayStart (frame s) u (keys_of (with_ids s.plan.table running)) key
    → MayStart f unit (keys_of (with_ids f.table running)) key
may_here s f u unit key running a b m =
    subst (λ (g : Frame). MayStart g unit (keys_of (with_ids g.table running)) key) a
    (subst (λ v. MayStart (frame s) v (keys_of (with_ids s.plan.table running)) key) b m)

-- a static key has its id in the table
pub static_is : (f : Frame) (unit key : ℕ) (running : List ℕ) → MayStart f unit running key
    → slice_get (ids_of f.table) key ≡ Some (id_at f.table key)
static_is f unit key running m =
    let is = at_id f.table key m.descriptor m.described in
    is ∙ ap (λ i. Some i) (sym (ap (λ o. unwrap_or o []) is))

-- ---- a unit that begins, and that ends

plain_before : (f : Frame) → KeepsAround f → (key : ℕ) (d : Descriptor)
    → desc_in (entries_by 0 f.before) key ≡ Some d → ⊥
plain_before f around key d e =
    let r = registration_of (entries_by 0 f.before) key d e in
    plain f around r.prefix r.event (r.suffix ++ f.after)
    (ap (λ l. l ++ f.after) (sym (events_by 0 f.before) ∙ r.is)
    ∙ append_assoc r.prefix (r.event ∷ r.suffix) f.after) r.dynamic

static_first : (f : Frame) (w : ℕ) → KeepsAround f → (key : ℕ) (id : List SegmentView)
    → HasId (so_far f w []) key id → (d : Descriptor) × (slice_get f.table key ≡ Some d)
    × (d.id ≡ id)
static_first f w around key id h =
    ⊎_elim
    (λ a. (h.descriptor, a, h.id_is))
    (λ b. absurd (plain_before f around key h.descriptor
    (ap (λ l. desc_in l key) (sym (append-nil (entries_by 0 f.before))) ∙ b.1)))
    (table_or_entry (so_far f w []) key h.descriptor h.described)

pub ran_nothing : (f : Frame) (unit : ℕ) (start : SenderView) (running : List RunningId)
    (registered : List (List ℕ)) (next : ℕ) → running ≡ [] → KeepsAround f → unit < f.units
    → start.table ≡ f.table
    → IsRunning f unit start start running registered next
ran_nothing f unit start running registered next none around low table =
    let j = emitting_none f unit start (is_registered registered) next around low table
    (λ key id h. let d = static_first f start.worker around key id h in
    (key, at_id f.table key d.0 d.1 ∙ ap (λ i. Some i) d.2))
    (λ key id h. let d = static_first f start.worker around key id h in
    record {
      descriptor = d.0;
      described = from_table (record_of_sender start) key d.0
          (ap (λ t. slice_get t key) table ∙ d.1);
      id_is = d.2;
    }) in
    let nothing : [] ≡ j.events = cancel start.sent [] j.events (append-nil start.sent ∙ j.sent) in
    let begins : IsRunning f unit start start [] registered next = record {
      emitting = j;
      ids = All-nil (λ k. HasId (record_of_sender start) k.key k.id);
      nesting = subst (Nests f start.worker []) nothing (nesting_none (so_far f start.worker []));
    } in
    subst (λ l. IsRunning f unit start start l registered next) (sym none) begins

pub ran_same : (f : Frame) (unit : ℕ) (start now : SenderView) (running : List RunningId)
    (registered : List (List ℕ)) (next : ℕ)
    → IsRunning f unit start now running registered next → IsSameSender start now
ran_same f unit start now running registered next r = r.emitting.same

pub ran_some : (f : Frame) (unit : ℕ) (start now : SenderView) (running : List RunningId)
    (registered : List (List ℕ)) (next : ℕ)
    → IsRunning f unit start now running registered next → Extends start now
ran_some f unit start now running registered next r = (r.emitting.events, r.emitting.sent)

-- a unit of which no key runs, and each of whose static keys had its turn
pub ran_all : (f : Frame) (may_step : Event → Type 0) (keys : UnitKeys) (start now : SenderView)
    (running : List RunningId) (registered : List (List ℕ)) (next : ℕ)
    → IsRunning f keys.unit start now running registered next
    → HasPlayed f.table may_step keys.first next start now → running ≡ [] → keys.end ≤ next
    → HasRun f may_step keys start now
ran_all f may_step keys start now running registered next r d none past =
    let i = r.emitting in
    let same : d.events ≡ i.events = cancel start.sent d.events i.events (sym d.sent ∙ i.sent) in
    let w = start.worker in
    let n : Nests f w [] i.events = subst (λ m. Nests f w m i.events) none r.nesting in (
      i.events,
      i.sent,
      record {
        keeps = emitted_all f keys.unit start now (progress running registered next) i
            (ap keys_of none);
        steps = subst (All (StepsAs f.table may_step)) same d.each_holds;
        covered = λ key a b. subst
            (λ l. AreCovered f.table (entries_by start.worker l) keys.first next) same d.all_hold
            key a (omega (arith, b, past));
        nest = nest_later (so_far f w i.events) (run_alone f w i.events) i.events
            (later_id f.table (so_far f w i.events).entries (entries_by 0 f.after)) n.nest;
        finish = each_finishes (so_far f w i.events) i.events n;
      },
    )

pub began : (s : ShapeView) (f : Frame) (u unit : ℕ) (start now : SenderView)
    (running : List RunningId) (registered : List (List ℕ)) (next : ℕ) → frame s ≡ f → u ≡ unit
    → now ≡ start → running ≡ []
    → KeepsAround (frame s) → u < (frame s).units → start.table ≡ f.table
    → IsRunning f unit start now running registered next
began s f u unit start now running registered next a b c none around low table =
    subst (λ v. IsRunning f unit start v running registered next) (sym c)
    (ran_nothing f unit start running registered next none (subst KeepsAround a around)
    (subst (λ (g : Frame). unit < g.units) a (subst (λ v. v < (frame s).units) b low)) table)

-- what holds where there is none
pub at_none : {A : Type 0} (r : Option A) (b : Bool) (P : Type 0) → is_some r ≡ not b → IfNone r P
    → b ≡ true → P
at_none None b P e h t = h
at_none (Some x) b P e h t = let bad : true ≡ false = e ∙ ap not t in cc
