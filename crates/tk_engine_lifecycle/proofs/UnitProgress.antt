-- One event more of a unit that is under way.
use Rattle.std.proofs.Common.{◌≡◌, ◌≢◌, ◌<◌, ℕ, inl, inr, ⊎_elim, Bool, true, false, cond, if◌then◌else◌, List, [], ◌∷◌, ◌++◌, length, refl, sym, ap, ◌∙◌, subst, append_assoc, append-nil, arith, tests}
use Rattle.std.proofs.lemmas.List.{map-append}
use Rattle.std.proofs.lemmas.List.Elements.{All-push, All-weaker}
use Rattle.tk_ids.specs.IdText.{SegmentView, parent_of}
use Rattle.tk_events.specs.declared.events.Event.{Event}
use Rattle.tk_events.specs.declared.kinds.Kind.{Kind}
use Rattle.tk_queue_session.specs.Emission.{entries_by, entry_by}
use Rattle.tk_query_lifecycle.specs.Lifecycle.{HasId}
use Rattle.tk_record.specs.Entries.{with_entry}
use Rattle.tk_query_lifecycle.specs.KeepsLifecycle.{is_step, steps_of}
use Rattle.tk_engine_lifecycle.specs.Units.{Frame, AreOf}
use Rattle.tk_engine_lifecycle.specs.UnderWay.{AreNested, IsOneOf, MayFollow, so_far}
use Rattle.tk_engine_lifecycle.proofs.Splits.{InFirst, InSecond, in_parts}
use Rattle.tk_engine_lifecycle.proofs.ByKey.{events_by, hits, hits-append, is_at, kinds, later_id, one_id, steps_is}

-- ---- the steps of a key after one event more

pub steps_by : (key w : ℕ) (l : List Event) → steps_of key (entries_by w l) ≡ kinds (hits key l)
steps_by key w l = steps_is key (entries_by w l) ∙ ap (λ x. kinds (hits key x)) (events_by w l)

kinds_step : (b : Bool) (k : Kind) (xs ys zs : List Kind) → zs ≡ xs ++ ys → (if b then k ∷ zs else zs) ≡ (if b then k ∷ xs else xs) ++ ys
kinds_step true k xs ys zs e = ap (λ l. k ∷ l) e
kinds_step false k xs ys zs e = e

kinds-append : (xs ys : List Event) → kinds (xs ++ ys) ≡ kinds xs ++ kinds ys
kinds-append [] ys = refl
kinds-append (x ∷ xs) ys = kinds_step (is_step x.kind) x.kind (kinds xs) (kinds ys) (kinds (xs ++ ys)) (kinds-append xs ys)

-- an event of another key adds no step
pub other_steps : (key w : ℕ) (l : List Event) (e : Event) → e.key ≢ key → steps_of key (entries_by w (l ++ e ∷ [])) ≡ steps_of key (entries_by w l)
other_steps key w l e differ =
    let miss : is_at key e ≡ false = grind (arith, tests, differ) in
    steps_by key w (l ++ e ∷ [])
    ∙ ap kinds (hits-append key l (e ∷ []) ∙ ap (λ b. hits key l ++ cond b (e ∷ []) []) miss ∙ append-nil (hits key l))
    ∙ sym (steps_by key w l)

-- an event of the key adds its kind, if it is a step
pub own_steps : (key w : ℕ) (l : List Event) (e : Event) → e.key ≡ key
    → steps_of key (entries_by w (l ++ e ∷ [])) ≡ steps_of key (entries_by w l) ++ (if is_step e.kind then e.kind ∷ [] else [])
own_steps key w l e same =
    let hit : is_at key e ≡ true = grind (arith, tests, same) in
    steps_by key w (l ++ e ∷ [])
    ∙ ap kinds (hits-append key l (e ∷ []) ∙ ap (λ b. hits key l ++ cond b (e ∷ []) []) hit)
    ∙ kinds-append (hits key l) (e ∷ [])
    ∙ ap (λ x. x ++ (if is_step e.kind then e.kind ∷ [] else [])) (sym (steps_by key w l))

-- ---- the record after one event more

pub so_far_more : (f : Frame) (w : ℕ) (l : List Event) (e : Event) → so_far f w (l ++ e ∷ []) ≡ with_entry (so_far f w l) (entry_by w e)
so_far_more f w l e =
    ap (λ x. record { table = f.table; entries = x })
    (ap (λ x. entries_by 0 f.before ++ x) (map-append (entry_by w) l (e ∷ [])) ∙ sym (append_assoc (entries_by 0 f.before) (entries_by w l) (entry_by w e ∷ [])))

pub kept_id : (f : Frame) (w : ℕ) (l : List Event) (e : Event) (key : ℕ) (id : List SegmentView) → HasId (so_far f w l) key id → HasId (so_far f w (l ++ e ∷ [])) key id
kept_id f w l e key id h = subst (λ r. HasId r key id) (sym (so_far_more f w l e)) (later_id f.table (entries_by 0 f.before ++ entries_by w l) (entry_by w e ∷ []) key id h)

at_end : (f : Frame) (w : ℕ) (l : List Event) (e : Event) (a : List Event) (x : Event) (b start : List Event) → MayFollow (so_far f w l) (entry_by w e)
    → a ≡ l ++ start → e ∷ [] ≡ start ++ x ∷ b → MayFollow (so_far f w a) (entry_by w x)
at_end f w l e a x b [] last is more =
    let event : e ≡ x = cc in
    subst (λ y. MayFollow (so_far f w a) (entry_by w y)) event (subst (λ y. MayFollow (so_far f w y) (entry_by w e)) (sym (is ∙ append-nil l)) last)
at_end f w l e a x b (y ∷ []) last is more = cc
at_end f w l e a x b (y ∷ (z ∷ start)) last is more = cc

-- each event may follow those before it, if the last one may
pub each_more : (f : Frame) (w : ℕ) (l : List Event) (e : Event)
    → ((a : List Event) (x : Event) (b : List Event) → l ≡ a ++ x ∷ b → MayFollow (so_far f w a) (entry_by w x)) → MayFollow (so_far f w l) (entry_by w e)
    → (a : List Event) (x : Event) (b : List Event) → l ++ e ∷ [] ≡ a ++ x ∷ b → MayFollow (so_far f w a) (entry_by w x)
each_more f w l e each last a x b is =
    ⊎_elim
    (λ (s : InFirst a x b l (e ∷ [])). each a x s.rest s.is)
    (λ (s : InSecond a x b l (e ∷ [])). at_end f w l e a x b s.start last s.is s.more)
    (in_parts a x b l (e ∷ []) is)

pub own_more : (f : Frame) (unit w : ℕ) (l : List Event) (e : Event) (id : List SegmentView) → AreOf (λ i. f.owner i ≡ unit) (so_far f w l) l
    → HasId (so_far f w (l ++ e ∷ [])) e.key id → f.owner id ≡ unit → AreOf (λ i. f.owner i ≡ unit) (so_far f w (l ++ e ∷ [])) (l ++ e ∷ [])
own_more f unit w l e id own its belongs =
    All-push (λ x. (i : List SegmentView) × HasId (so_far f w (l ++ e ∷ [])) x.key i × (f.owner i ≡ unit)) l e
    (All-weaker (λ x. (i : List SegmentView) × HasId (so_far f w l) x.key i × (f.owner i ≡ unit)) (λ x. (i : List SegmentView) × HasId (so_far f w (l ++ e ∷ [])) x.key i × (f.owner i ≡ unit))
    (λ x h. (h.0, kept_id f w l e x.key h.0 h.1, h.2)) l own)
    (id, its, belongs)

-- ---- nesting

pub nested_more : (f : Frame) (w : ℕ) (l : List Event) (e : Event) (running : List ℕ)
    → ((key : ℕ) → IsOneOf key running → (id : List SegmentView) × HasId (so_far f w l) key id)
    → AreNested f (so_far f w l) running → AreNested f (so_far f w (l ++ e ∷ [])) running
nested_more f w l e [] ids h = tt
nested_more f w l e (key ∷ running) ids h =
    let its = ids key (inl refl) in (
      λ id i long.
          let same = one_id (so_far f w (l ++ e ∷ [])) key id its.0 i (kept_id f w l e key its.0 its.1) in
          let p = h.0 its.0 its.1 (subst (λ x. 1 < length x) same long) in
          (p.0, subst (λ x. HasId (so_far f w (l ++ e ∷ [])) p.0 (parent_of x)) (sym same) (kept_id f w l e p.0 (parent_of its.0) p.1), p.2),
      h.1,
      nested_more f w l e running (λ k o. ids k (inr o)) h.2,
    )
