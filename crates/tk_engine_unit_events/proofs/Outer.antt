-- The keys that run around one that goes on running.
use Rattle.std.proofs.Common.{◌≡◌, ◌≢◌, ◌<◌, ◌+◌, ◌==◌, ◌&&◌, ℕ, ◌⊎◌, inl, inr, ⊎_elim, Bool, true}
use Rattle.std.proofs.Common.{false, if◌then◌else◌, List, [], ◌∷◌, ◌++◌, length, All, refl, sym, ap}
use Rattle.std.proofs.Common.{ap₂, ◌∙◌, subst, append_assoc, append-nil, arith, tests}
use Rattle.std.proofs.lemmas.Bool.{and_parts, and_right, cases_eq}
use Rattle.std.proofs.lemmas.List.{length-append, map-append}
use Rattle.std.proofs.lemmas.List.Elements.{All-append, All-cons, All-head, All-nil, All-tail}
use Rattle.std.proofs.lemmas.List.Elements.{All-weaker}
use Rattle.tk_ids.specs.IdText.{IsBelow, SegmentView}
use Rattle.tk_events.specs.declared.events.Event.{Event}
use Rattle.tk_events.specs.declared.kinds.Kind.{Kind}
use Rattle.tk_events.specs.declared.kinds.Kind.TheVariants.{Finished, Started}
use Rattle.tk_record.specs.Recorded.{Recorded}
use Rattle.tk_queue_session.specs.Emission.{entries_by, entry_by}
use Rattle.tk_queue_session.specs.Senders.{SenderView}
use Rattle.tk_query_lifecycle.specs.KeepsLifecycle.{IsWhole, is_step, steps_of}
use Rattle.tk_query_lifecycle.specs.Lifecycle.{HasId}
use Rattle.tk_engine_execute.specs.Engines.{Extends}
use Rattle.tk_engine_lifecycle.specs.UnderWay.{IsOneOf, so_far}
use Rattle.tk_engine_lifecycle.specs.Units.{Frame}
use Rattle.tk_engine_lifecycle.proofs.ByKey.{later_id, one_id}
use Rattle.tk_engine_lifecycle.proofs.Splits.{head_is, tail_is}
use Rattle.tk_engine_unit_events.specs.Events.{AreChained, IsRunning}
use Rattle.tk_engine_unit_events.specs.Nesting.{BelongsTo, LacksFinish}
use Rattle.tk_engine_unit_events.specs.Running.{RunningId, keys_of, with_ids}
use Rattle.tk_engine_unit_events.specs.Standing.{BegunUnit, StandsAt}
use Rattle.tk_engine_unit_events.specs.declared.unit_events.UnitProgress.{UnitProgress}
use Rattle.tk_engine_unit_events.proofs.KeySpans.{all_both, below_below, one_of}
use Rattle.tk_engine_unit_events.proofs.UnitStates.{cancel}
use Rattle.tk_plan.proofs.ListParts.{all_back}

-- ---- ids

some_long : (s : SegmentView) (more : List SegmentView) → 0 < length (s ∷ more)
some_long s more = omega arith

not_below : (id : List SegmentView) → IsBelow id id → ⊥
not_below id b =
    let longer : length id ≡ length id + length (b.0 ∷ b.1) = ap length b.2
    ∙ length-append id (b.0 ∷ b.1) in
    absurd (omega (arith, longer, some_long b.0 b.1))

-- ---- steps

steps-append : (key w : ℕ) (a b : List Event)
    → steps_of key (entries_by w (a ++ b)) ≡ steps_of key (entries_by w a) ++ steps_of key
    (entries_by w b)
steps-append key w [] b = refl
steps-append key w (e ∷ a) b = step_more (is_step e.kind && (e.key == key)) e.kind
    (steps_of key (entries_by w (a ++ b))) (steps_of key (entries_by w a))
    (steps_of key (entries_by w b)) (steps-append key w a b) where
      step_more : (here : Bool) (k : Kind) (all xs ys : List Kind) → all ≡ xs ++ ys
          → (if here then k ∷ all else all) ≡ (if here then k ∷ xs else xs) ++ ys
      step_more true k all xs ys h = ap (λ l. k ∷ l) h
      step_more false k all xs ys h = h

-- events of other keys are no steps of this one
no_steps : (key w : ℕ) (l : List Event) → All (λ e. e.key ≢ key) l
    → steps_of key (entries_by w l) ≡ []
no_steps key w [] h = refl
no_steps key w (e ∷ l) h =
    let differ = All-head (λ (x : Event). x.key ≢ key) e l h in
    let other : (e.key == key) ≡ false = grind (arith, tests, differ) in
    ap (λ b. if b then e.kind ∷ steps_of key (entries_by w l) else steps_of key (entries_by w l))
    (and_right (is_step e.kind) (e.key == key) other)
    ∙ no_steps key w l (All-tail (λ (x : Event). x.key ≢ key) e l h)

-- where a key has no step, none of the events finishes it
lacks_finish : (key w : ℕ) (l : List Event) → steps_of key (entries_by w l) ≡ [] → LacksFinish key l
lacks_finish key w [] h = All-nil (λ (e : Event). e.kind ≡ Finished → e.key ≢ key)
lacks_finish key w (e ∷ l) h =
    All-cons (λ (x : Event). x.kind ≡ Finished → x.key ≢ key) e l
    (λ kind same. some_step (is_step e.kind && (e.key == key)) e.kind
    (steps_of key (entries_by w l))
    (finishes e.kind kind (e.key == key)
    (let t : (e.key == key) ≡ true = grind (arith, tests, same) in t)) h)
    (lacks_finish key w l
    (rest_none (is_step e.kind && (e.key == key)) e.kind (steps_of key (entries_by w l)) h))
  where
    some_step : (b : Bool) (k : Kind) (ks : List Kind) → b ≡ true
        → (if b then k ∷ ks else ks) ≡ [] → ⊥
    some_step true k ks t h = cc
    some_step false k ks t h = cc

    rest_none : (b : Bool) (k : Kind) (ks : List Kind) → (if b then k ∷ ks else ks) ≡ [] → ks ≡ []
    rest_none true k ks h = cc
    rest_none false k ks h = h

    finishes : (k : Kind) → k ≡ Finished → (b : Bool) → b ≡ true → (is_step k && b) ≡ true
    finishes k e b t = ap₂ (λ x y. is_step x && y) e t

-- the events before the start of a key, and after it, where it has no other step
record StartsLast (key w : ℕ) (l : List Event) : Type 0 where
  before : List Event
  start : Event
  after : List Event
  is : l ≡ before ++ start ∷ after
  kind : start.kind ≡ Started
  its : start.key ≡ key
  none : steps_of key (entries_by w after) ≡ []

start_at : (key w : ℕ) (e : Event) (l : List Event) (b : Bool)
    → (is_step e.kind && (e.key == key)) ≡ b
    → (steps_of key (entries_by w l) ≡ Started ∷ [] → StartsLast key w l)
    → (if b then e.kind ∷ steps_of key (entries_by w l) else steps_of key (entries_by w l)) ≡
    Started ∷ [] → StartsLast key w (e ∷ l)
start_at key w e l true here rest h =
    let its = (and_parts (is_step e.kind) (e.key == key) here).1 in
    let same : e.key ≡ key = grind (arith, tests, its) in
    record {
      before = [];
      start = e;
      after = l;
      is = refl;
      kind = head_is h;
      its = same;
      none = tail_is h;
    }
start_at key w e l false here rest h =
    let s = rest h in
    record {
      before = e ∷ s.before;
      start = s.start;
      after = s.after;
      is = ap (λ x. e ∷ x) s.is;
      kind = s.kind;
      its = s.its;
      none = s.none;
    }

start_of : (key w : ℕ) (l : List Event) → steps_of key (entries_by w l) ≡ Started ∷ []
    → StartsLast key w l
start_of key w [] h = cc
start_of key w (e ∷ l) h = start_at key w e l (is_step e.kind && (e.key == key)) refl
    (λ k. start_of key w l k) h

-- ---- chains of running keys

one_or_not : (n : ℕ) (xs : List ℕ) → IsOneOf n xs ⊎ (IsOneOf n xs → ⊥)
one_or_not n [] = inr (λ o. o)
one_or_not n (x ∷ xs) =
    ⊎_elim (λ a. inl (inl a))
    (λ a. ⊎_elim (λ b. inl (inr b)) (λ b. inr (λ o. ⊎_elim a b o)) (one_or_not n xs)) (cases_eq n x)

-- a key with an id below this one isn't the key that has it
differ : (r : Recorded) (first : RunningId) (outer : List RunningId) (n : ℕ)
    → HasId r first.key first.id → All (λ k. HasId r k.key k.id) outer
    → All (λ k. IsBelow k.id first.id) outer
    → IsOneOf n (keys_of outer) → n ≡ first.key → ⊥
differ r first outer n its ids below o same =
    let k = one_of (λ k. HasId r k.key k.id × IsBelow k.id first.id) outer n
    (all_both (λ k. HasId r k.key k.id) (λ k. IsBelow k.id first.id) outer ids below) o in
    let id : k.0.id ≡ first.id = one_id r first.key k.0.id first.id
    (subst (λ m. HasId r m k.0.id) (k.1 ∙ same) k.2.0) its in
    not_below first.id (subst (λ i. IsBelow i first.id) id k.2.1)

-- the id of a key that is one of those around another stands above the other's
above_it : (r : Recorded) (x y : RunningId) (outer : List RunningId) → HasId r x.key x.id
    → All (λ k. HasId r k.key k.id) outer → All (λ k. IsBelow k.id y.id) outer
    → IsOneOf x.key (keys_of outer) → IsBelow x.id y.id
above_it r x y outer its ids below o =
    let k = one_of (λ k. HasId r k.key k.id × IsBelow k.id y.id) outer x.key
    (all_both (λ k. HasId r k.key k.id) (λ k. IsBelow k.id y.id) outer ids below) o in
    let id : k.0.id ≡ x.id = one_id r x.key k.0.id x.id
    (subst (λ m. HasId r m k.0.id) k.1 k.2.0) its in
    subst (λ i. IsBelow i y.id) id k.2.1

-- two chains with the same keys are the same
same_keys : (r : Recorded) (xs ys : List RunningId) → All (λ k. HasId r k.key k.id) xs
    → All (λ k. HasId r k.key k.id) ys → AreChained xs → AreChained ys
    → ((n : ℕ) → IsOneOf n (keys_of xs) → IsOneOf n (keys_of ys))
    → ((n : ℕ) → IsOneOf n (keys_of ys) → IsOneOf n (keys_of xs)) → keys_of xs ≡ keys_of ys
same_keys r [] [] hx hy cx cy there back = refl
same_keys r [] (y ∷ ys) hx hy cx cy there back = absurd (back y.key (inl refl))
same_keys r (x ∷ xs) [] hx hy cx cy there back = absurd (there x.key (inl refl))
same_keys r (x ∷ xs) (y ∷ ys) hx hy cx cy there back =
    let P : RunningId → Type 0 = λ k. HasId r k.key k.id in
    let x_is = All-head P x xs hx in
    let y_is = All-head P y ys hy in
    let xs_are = All-tail P x xs hx in
    let ys_are = All-tail P y ys hy in
    ⊎_elim
    (λ same. ap₂ (λ h t. h ∷ t) same
    (same_keys r xs ys xs_are ys_are cx.1 cy.1
    (λ n o. ⊎_elim (λ e. absurd (differ r x xs n x_is xs_are cx.0 o (e ∙ sym same))) (λ m. m)
    (there n (inr o)))
    (λ n o. ⊎_elim (λ e. absurd (differ r y ys n y_is ys_are cy.0 o (e ∙ same))) (λ m. m)
    (back n (inr o)))))
    (λ other.
    let x_above = above_it r x y ys x_is ys_are cy.0
    (⊎_elim (λ e. absurd (other e)) (λ m. m) (there x.key (inl refl))) in
    let y_above = above_it r y x xs y_is xs_are cx.0
    (⊎_elim (λ e. absurd (other (sym e))) (λ m. m) (back y.key (inl refl))) in
    absurd (not_below x.id (below_below x.id y.id x.id x_above y_above)))
    (cases_eq x.key y.key)

-- ---- from one state of a unit to a later one

later_ids : (f : Frame) (w : ℕ) (a l : List Event) (key : ℕ) (id : List SegmentView)
    → HasId (so_far f w a) key id → HasId (so_far f w (a ++ l)) key id
later_ids f w a l key id h =
    let more : entries_by 0 f.before ++ entries_by w (a ++ l) ≡
    (entries_by 0 f.before ++ entries_by w a) ++ entries_by w l
    = ap (λ x. entries_by 0 f.before ++ x) (map-append (entry_by w) a l)
    ∙ sym (append_assoc (entries_by 0 f.before) (entries_by w a) (entries_by w l)) in
    subst (λ x. HasId (record { table = f.table; entries = x }) key id) (sym more)
    (later_id f.table (entries_by 0 f.before ++ entries_by w a) (entries_by w l) key id h)

not_whole : (ks : List Kind) → ks ≡ Started ∷ [] → IsWhole ks → ⊥
not_whole ks e w = let bad : IsWhole (Started ∷ []) = subst IsWhole e w in bad

cut_left : (a b : List Kind) → a ≡ Started ∷ [] → a ++ b ≡ Started ∷ [] → b ≡ []
cut_left a b e h = tail_is (ap (λ x. x ++ b) (sym e) ∙ h)

-- what belongs to a key is of no key above it
other_key : (r : Recorded) (first z : RunningId) (e : Event) → HasId r first.key first.id
    → HasId r z.key z.id → IsBelow z.id first.id → BelongsTo r first.key e → e.key ≢ z.key
other_key r first z e its above below b same =
    let id : b.id ≡ first.id = one_id r first.key b.id first.id b.its its in
    let own : b.own ≡ z.id = one_id r z.key b.own z.id
    (subst (λ k. HasId r k b.own) same b.named) above in
    ⊎_elim
    (λ here. not_below first.id (subst (λ i. IsBelow i first.id) (sym own ∙ here ∙ id) below))
    (λ under. not_below first.id
    (below_below first.id z.id first.id
    (subst (λ i. IsBelow i z.id) id (subst (λ o. IsBelow b.id o) own under)) below))
    b.within

-- a key that is the innermost running one before and after has the same keys around it
pub same_outer : (f : Frame) (unit : ℕ) (start a b : SenderView) (x y : RunningId)
    (xs ys : List RunningId) (p q : List (List ℕ)) (m n : ℕ)
    → IsRunning f unit start a (x ∷ xs) p m → IsRunning f unit start b (y ∷ ys) q n → Extends a b
    → x.key ≡ y.key → keys_of xs ≡ keys_of ys
same_outer f unit start a b x y xs ys p q m n i j more same =
    let w = start.worker in
    let ea = i.emitting.events in
    let eb = j.emitting.events in
    let l = more.0 in
    let longer : eb ≡ ea ++ l = cancel start.sent eb (ea ++ l)
    (sym j.emitting.sent ∙ more.1 ∙ ap (λ s. s ++ l) i.emitting.sent
    ∙ append_assoc start.sent ea l) in
    let r = so_far f w eb in
    let P : RunningId → Type 0 = λ k. HasId r k.key k.id in
    let ids_x : All P (x ∷ xs) = All-weaker (λ k. HasId (so_far f w ea) k.key k.id) P
    (λ k h. subst (λ es. HasId (so_far f w es) k.key k.id) (sym longer)
    (later_ids f w ea l k.key k.id h)) (x ∷ xs) i.nesting.ids in
    let ids_y : All P (y ∷ ys) = j.nesting.ids in
    let x_is = All-head P x xs ids_x in
    let y_is = All-head P y ys ids_y in
    let steps_x = i.emitting.going.under_way.started in
    let steps_y = j.emitting.going.under_way.started in
    let all_steps : (key : ℕ)
    → steps_of key (entries_by w eb) ≡ steps_of key (entries_by w ea) ++ steps_of key
    (entries_by w l)
    = λ key. ap (λ es. steps_of key (entries_by w es)) longer ∙ steps-append key w ea l in
    let none : steps_of x.key (entries_by w l) ≡ []
    = cut_left (steps_of x.key (entries_by w ea)) (steps_of x.key (entries_by w l))
    (steps_x x.key (inl refl)) (sym (all_steps x.key) ∙ steps_y x.key (inl same)) in
    let s = start_of x.key w ea (steps_x x.key (inl refl)) in
    let lacks : LacksFinish x.key (s.after ++ l) = All-append
    (λ (e : Event). e.kind ≡ Finished → e.key ≢ x.key) s.after l
    (lacks_finish x.key w s.after s.none) (lacks_finish x.key w l none) in
    let split : eb ≡ s.before ++ s.start ∷ ((s.after ++ l) ++ [])
    = longer ∙ ap (λ es. es ++ l) s.is ∙ append_assoc s.before (s.start ∷ s.after) l
    ∙ ap (λ es. s.before ++ s.start ∷ es) (sym (append-nil (s.after ++ l))) in
    let belong = all_back (BelongsTo r s.start.key) s.after l
    (j.nesting.nest s.before s.start (s.after ++ l) [] split s.kind
    (subst (λ k. LacksFinish k (s.after ++ l)) (sym s.its) lacks)) in
    let belongs : All (BelongsTo r x.key) l = subst (λ k. All (BelongsTo r k) l) s.its belong in
    let id : y.id ≡ x.id = one_id r x.key y.id x.id
    (subst (λ k. HasId r k y.id) (sym same) y_is) x_is in
    let unmoved : (z : RunningId) → HasId r z.key z.id → IsBelow z.id x.id
    → steps_of z.key (entries_by w eb) ≡ steps_of z.key (entries_by w ea)
    = λ z its below.
    all_steps z.key
    ∙ ap (λ k. steps_of z.key (entries_by w ea) ++ k)
    (no_steps z.key w l (All-weaker (BelongsTo r x.key) (λ e. e.key ≢ z.key)
    (λ e h. other_key r x z e x_is its below h) l belongs))
    ∙ append-nil (steps_of z.key (entries_by w ea)) in
    let there : (k : ℕ) → IsOneOf k (keys_of (x ∷ xs)) → IsOneOf k (keys_of (y ∷ ys))
    = λ k o. ⊎_elim (λ e. inl (e ∙ same))
    (λ o.
    let z = one_of (λ v. P v × IsBelow v.id x.id) xs k
    (all_both P (λ v. IsBelow v.id x.id) xs (All-tail P x xs ids_x) i.nesting.chain.0) o in
    let steps = ap (λ v. steps_of v (entries_by w eb)) (sym z.1) ∙ unmoved z.0 z.2.0 z.2.1
    ∙ ap (λ v. steps_of v (entries_by w ea)) z.1 ∙ steps_x k (inr o) in
    ⊎_elim (λ yes. yes) (λ no. absurd
    (not_whole (steps_of k (entries_by w eb)) steps (j.emitting.going.under_way.whole k no)))
    (one_or_not k (keys_of (y ∷ ys))))
    o in
    let back : (k : ℕ) → IsOneOf k (keys_of (y ∷ ys)) → IsOneOf k (keys_of (x ∷ xs))
    = λ k o. ⊎_elim (λ e. inl (e ∙ sym same))
    (λ o.
    let z = one_of (λ v. P v × IsBelow v.id y.id) ys k
    (all_both P (λ v. IsBelow v.id y.id) ys (All-tail P y ys ids_y) j.nesting.chain.0) o in
    let steps = ap (λ v. steps_of v (entries_by w ea)) (sym z.1)
    ∙ sym (unmoved z.0 z.2.0 (subst (λ v. IsBelow z.0.id v) id z.2.1))
    ∙ ap (λ v. steps_of v (entries_by w eb)) z.1 ∙ steps_y k (inr o) in
    ⊎_elim (λ yes. yes) (λ no. absurd
    (not_whole (steps_of k (entries_by w ea)) steps (i.emitting.going.under_way.whole k no)))
    (one_or_not k (keys_of (x ∷ xs))))
    o in
    tail_is (same_keys r (x ∷ xs) (y ∷ ys) ids_x ids_y i.nesting.chain j.nesting.chain there back)

by_keys : (f : Frame) (unit : ℕ) (start a b : SenderView) (key : ℕ) (before after : List ℕ)
    (xs ys : List RunningId) (p q : List (List ℕ)) (m n : ℕ)
    → IsRunning f unit start a xs p m → IsRunning f unit start b ys q n → Extends a b
    → keys_of xs ≡ key ∷ before → keys_of ys ≡ key ∷ after → after ≡ before
by_keys f unit start a b key before after [] ys p q m n i j more e h = cc
by_keys f unit start a b key before after (x ∷ xs) [] p q m n i j more e h = cc
by_keys f unit start a b key before after (x ∷ xs) (y ∷ ys) p q m n i j more e h =
    sym (tail_is h) ∙ sym
    (same_outer f unit start a b x y xs ys p q m n i j more (head_is e ∙ sym (head_is h)))
    ∙ tail_is e

pub keeps_outer : (unit : BegunUnit) (a b : SenderView) (p q : UnitProgress) (key : ℕ)
    (before after : List ℕ) → StandsAt unit a p → StandsAt unit b q → Extends a b
    → keys_of (with_ids unit.frame.table p.running.elements) ≡ key ∷ before
    → keys_of (with_ids unit.frame.table q.running.elements) ≡ key ∷ after → after ≡ before
keeps_outer unit a b p q key before after i j more e h =
    by_keys unit.frame unit.keys.unit unit.start a b key before after
    (with_ids unit.frame.table p.running.elements)
    (with_ids unit.frame.table q.running.elements) p.registered.keys q.registered.keys p.next
    q.next i.running j.running more e h
