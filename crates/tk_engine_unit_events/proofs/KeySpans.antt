-- The events of a key from its start to its finish, after one event more.
use Rattle.std.proofs.Common.{◌≡◌, ◌≢◌, ◌<◌, ◌-◌, ℕ, zero, suc, ◌⊎◌, inl, inr, ⊎_elim, List, []}
use Rattle.std.proofs.Common.{◌∷◌, ◌++◌, length, take, All, refl, sym, ap, ap₂, ◌∙◌, subst}
use Rattle.std.proofs.Common.{append_assoc, append-nil, arith}
use Rattle.std.proofs.lemmas.List.Elements.{All-nil, All-cons, All-head, All-tail, All-push}
use Rattle.std.proofs.lemmas.List.Elements.{All-weaker}
use Rattle.tk_base.proofs.Lists.{nil_left}
use Rattle.tk_ids.specs.IdText.{SegmentView, parent_of}
use Rattle.tk_events.specs.declared.events.Event.{Event}
use Rattle.tk_events.specs.declared.kinds.Kind.TheVariants.{Finished, Started}
use Rattle.tk_record.specs.Recorded.{Recorded}
use Rattle.tk_query_lifecycle.specs.Lifecycle.{HasId}
use Rattle.tk_engine_lifecycle.specs.UnderWay.{IsOneOf}
use Rattle.tk_base.proofs.Lists.{no_split}
use Rattle.tk_engine_lifecycle.proofs.Splits.{InFirst, InSecond, head_is, in_parts, tail_is}
use Rattle.tk_engine_lifecycle.proofs.SeparateTurns.{all_at}
use Rattle.tk_ids.specs.IdText.{IsBelow}
use Rattle.tk_engine_unit_events.specs.Events.{AreChained, IsNesting}
use Rattle.tk_engine_unit_events.specs.Nesting.{BelongsTo, EachFinishes, EventsNest, LacksFinish}
use Rattle.tk_engine_unit_events.specs.Running.{RunningId, keys_of}
use Rattle.tk_plan.proofs.ListParts.{all_prefix}

-- ---- lists in parts

-- c begins with a, and b is what is left of it, before d
pub record Begins {A : Type 0} (a b c d : List A) : Type 0 where
  pub rest : List A
  pub is : c ≡ a ++ rest
  pub more : b ≡ rest ++ d

pub begins_either : {A : Type 0} (a b c d : List A) → a ++ b ≡ c ++ d → Begins a b c d
    ⊎ Begins c d a b
begins_either [] b c d e = inl (record { rest = c; is = refl; more = e })
begins_either (z ∷ a) b [] d e = inr (record { rest = z ∷ a; is = refl; more = sym e })
begins_either (z ∷ a) b (y ∷ c) d e =
    ⊎_elim
    (λ (l : Begins a b c d). inl
    (record { rest = l.rest; is = ap₂ (λ h t. h ∷ t) (sym (head_is e)) l.is; more = l.more }))
    (λ (r : Begins c d a b). inr
    (record { rest = r.rest; is = ap₂ (λ h t. h ∷ t) (head_is e) r.is; more = r.more }))
    (begins_either a b c d (tail_is e))

pub all_both : {A : Type 0} (P Q : A → Type 0) (xs : List A) → All P xs → All Q xs
    → All (λ x. P x × Q x) xs
all_both P Q [] p q = All-nil (λ x. P x × Q x)
all_both P Q (x ∷ xs) p q = All-cons (λ y. P y × Q y) x xs (All-head P x xs p, All-head Q x xs q)
    (all_both P Q xs (All-tail P x xs p) (All-tail Q x xs q))

-- the one element of a list
only_one : (e : Event) (s : List Event) (x : Event) (after : List Event) → e ∷ [] ≡ s ++ x ∷ after
    → e ≡ x
only_one e [] x after h = head_is h
only_one e (y ∷ []) x after h = cc
only_one e (y ∷ (z ∷ s)) x after h = cc

none_after : (e : Event) (s : List Event) (x : Event) (during after : List Event)
    → e ∷ [] ≡ s ++ x ∷ (during ++ after) → during ≡ []
none_after e [] x during after h = nil_left during after (sym (tail_is h))
none_after e (y ∷ []) x during after h = cc
none_after e (y ∷ (z ∷ s)) x during after h = cc

last_part : (P : Event → Type 0) (e : Event) (rest y after during : List Event) → during ≡ rest ++ y
    → e ∷ [] ≡ y ++ after → All P (rest ++ e ∷ []) → All P during
last_part P e rest [] after during is more h = subst (All P) (sym (is ∙ append-nil rest))
    (all_prefix P rest (e ∷ []) h)
last_part P e rest (z ∷ []) after during is more h = subst (All P)
    (sym (is ∙ ap (λ v. rest ++ v ∷ []) (sym (head_is more)))) h
last_part P e rest (z ∷ (v ∷ y)) after during is more h = cc

-- ---- ids below one another

pub below_below : (a b c : List SegmentView) → IsBelow a b → IsBelow b c → IsBelow a c
below_below a b c p q = (
  p.0,
  p.1 ++ q.0 ∷ q.1,
  q.2 ∙ ap (λ x. x ++ q.0 ∷ q.1) p.2
      ∙ append_assoc a (p.0 ∷ p.1) (q.0 ∷ q.1),
)

take_split : (id : List SegmentView) (n : ℕ) → n < length id → (s : SegmentView)
    × (more : List SegmentView) × (id ≡ take n id ++ s ∷ more)
take_split [] n h = absurd (omega (arith, h))
take_split (x ∷ xs) zero h = (x, xs, refl)
take_split (x ∷ xs) (suc n) h = let r = take_split xs n (omega (arith, h)) in
    (r.0, r.1, ap (λ y. x ∷ y) r.2)

pub below_parent : (id : List SegmentView) → 1 < length id → IsBelow (parent_of id) id
below_parent id long = take_split id (length id - 1) (omega (arith, long))

-- the innermost of the running keys, where there is one, has an id above this one
abbrev pub IsNext : List RunningId → List SegmentView → Type 0
IsNext [] id = Unit {0}
IsNext (key ∷ outer) id = IsBelow key.id id

-- the id is the key's, or stands below it
abbrev pub IsWithin : List SegmentView → RunningId → Type 0
IsWithin id key = (id ≡ key.id) ⊎ IsBelow key.id id

pub within_first : (key : RunningId) (outer : List RunningId) → AreChained (key ∷ outer)
    → All (IsWithin key.id) (key ∷ outer)
within_first key outer c =
    All-cons (IsWithin key.id) key outer (inl refl)
    (All-weaker (λ a. IsBelow a.id key.id) (IsWithin key.id) (λ a b. inr b) outer c.0)

pub below_all : (running : List RunningId) (id : List SegmentView) → AreChained running
    → IsNext running id → All (λ a. IsBelow a.id id) running
below_all [] id c next = All-nil (λ (a : RunningId). IsBelow a.id id)
below_all (key ∷ outer) id c next =
    All-cons (λ (a : RunningId). IsBelow a.id id) key outer next
    (All-weaker (λ a. IsBelow a.id key.id) (λ a. IsBelow a.id id)
    (λ a b. below_below a.id key.id id b next) outer c.0)

pub within_all : (running : List RunningId) (id : List SegmentView) → AreChained running
    → IsNext running id → All (IsWithin id) running
within_all running id c next = All-weaker (λ a. IsBelow a.id id) (IsWithin id)
    (λ a b. inr b) running (below_all running id c next)

-- ---- one event more

pub belongs_later : (r s : Recorded)
    → ((k : ℕ) (id : List SegmentView) → HasId r k id → HasId s k id) → (key : ℕ) (e : Event)
    → BelongsTo r key e → BelongsTo s key e
belongs_later r s later key e b =
    record {
      id = b.id;
      its = later key b.id b.its;
      own = b.own;
      named = later e.key b.own b.named;
      within = b.within;
    }

pub one_of : (P : RunningId → Type 0) (running : List RunningId) (n : ℕ) → All P running
    → IsOneOf n (keys_of running) → (k : RunningId) × (k.key ≡ n) × P k
one_of P [] n h o = absurd o
one_of P (k ∷ ks) n h (inl same) = (k, sym same, All-head P k ks h)
one_of P (k ∷ ks) n h (inr o) = one_of P ks n (All-tail P k ks h) o

-- an event with this id, which stands within each of the running keys
pub record Adds (r s : Recorded) (running : List RunningId) (e : Event)
    (id : List SegmentView) : Type 0 where
  pub later : (k : ℕ) (i : List SegmentView) → HasId r k i → HasId s k i
  pub named : HasId s e.key id
  pub within : All (IsWithin id) running

nest_end : (r s : Recorded) (l : List Event) (e : Event) (running : List RunningId)
    (id : List SegmentView) → IsNesting r l running → Adds r s running e id
    → (before : List Event) (start : Event) (rest : List Event) → l ≡ before ++ start ∷ rest
    → start.kind ≡ Started → LacksFinish start.key rest
    → All (BelongsTo s start.key) (rest ++ e ∷ [])
nest_end r s l e running id n a before start rest is kind none =
    let own = n.nest before start rest []
    (is ∙ ap (λ x. before ++ start ∷ x) (sym (append-nil rest))) kind none in
    let k = one_of (λ k. HasId r k.key k.id × IsWithin id k) running start.key
    (all_both (λ k. HasId r k.key k.id) (IsWithin id) running n.ids a.within)
    (n.unfinished before start rest is kind none) in
    All-push (BelongsTo s start.key) rest e
    (All-weaker (BelongsTo r start.key) (BelongsTo s start.key)
    (belongs_later r s a.later start.key) rest own)
    (record {
      id = k.0.id;
      its = subst (λ m. HasId s m k.0.id) k.1 (a.later k.0.key k.0.id k.2.0);
      own = id;
      named = a.named;
      within = k.2.1;
    })

nest_more : (r s : Recorded) (l : List Event) (e : Event) (running : List RunningId)
    (id : List SegmentView) → IsNesting r l running → Adds r s running e id
    → EventsNest s (l ++ e ∷ [])
nest_more r s l e running id n a before start during after is kind none =
    let P : Event → Type 0 = BelongsTo s start.key in
    ⊎_elim
    (λ (x : InFirst before start (during ++ after) l (e ∷ [])).
    ⊎_elim
    (λ (p : Begins during after x.rest (e ∷ [])).
    All-weaker (BelongsTo r start.key) P (belongs_later r s a.later start.key) during
    (n.nest before start during p.rest (x.is ∙ ap (λ y. before ++ start ∷ y) p.is) kind none))
    (λ (p : Begins x.rest (e ∷ []) during after).
    last_part P e x.rest p.rest after during p.is p.more
    (nest_end r s l e running id n a before start x.rest x.is kind
    (all_prefix (λ y. y.kind ≡ Finished → y.key ≢ start.key) x.rest p.rest
    (subst (LacksFinish start.key) p.is none))))
    (begins_either during after x.rest (e ∷ []) x.more))
    (λ (x : InSecond before start (during ++ after) l (e ∷ [])). subst (All P)
    (sym (none_after e x.start start during after x.more)) (All-nil P))
    (in_parts before start (during ++ after) l (e ∷ []) is)

unfinished_more : (r : Recorded) (l : List Event) (e : Event) (old new : List RunningId)
    → IsNesting r l old
    → ((n : ℕ) → IsOneOf n (keys_of old) → (e.kind ≡ Finished → e.key ≢ n)
    → IsOneOf n (keys_of new)) → (e.kind ≡ Started → IsOneOf e.key (keys_of new))
    → (before : List Event) (start : Event) (after : List Event)
    → l ++ e ∷ [] ≡ before ++ start ∷ after → start.kind ≡ Started → LacksFinish start.key after
    → IsOneOf start.key (keys_of new)
unfinished_more r l e old new n keeps own before start after is kind none =
    let P : Event → Type 0 = λ y. y.kind ≡ Finished → y.key ≢ start.key in
    ⊎_elim
    (λ (x : InFirst before start after l (e ∷ [])).
    let lacks : All P (x.rest ++ e ∷ []) = subst (All P) x.more none in
    keeps start.key (n.unfinished before start x.rest x.is kind (all_prefix P x.rest (e ∷ []) lacks))
    (all_at P x.rest e [] lacks))
    (λ (x : InSecond before start after l (e ∷ [])).
    let same = only_one e x.start start after x.more in
    subst (λ (y : Event). IsOneOf y.key (keys_of new)) same
    (own (ap (λ (y : Event). y.kind) same ∙ kind)))
    (in_parts before start after l (e ∷ []) is)

nesting_more : (r s : Recorded) (l : List Event) (e : Event) (old new : List RunningId)
    (id : List SegmentView) → IsNesting r l old → Adds r s old e id
    → ((n : ℕ) → IsOneOf n (keys_of old) → (e.kind ≡ Finished → e.key ≢ n)
    → IsOneOf n (keys_of new)) → (e.kind ≡ Started → IsOneOf e.key (keys_of new))
    → All (λ k. HasId s k.key k.id) new → AreChained new → IsNesting s (l ++ e ∷ []) new
nesting_more r s l e old new id n a keeps own ids chain = record {
  nest = nest_more r s l e old id n a;
  unfinished = unfinished_more r l e old new n keeps own;
  ids = ids;
  chain = chain;
}

ids_later : (r s : Recorded) → ((k : ℕ) (i : List SegmentView) → HasId r k i → HasId s k i)
    → (running : List RunningId) → All (λ k. HasId r k.key k.id) running
    → All (λ k. HasId s k.key k.id) running
ids_later r s later running h = All-weaker (λ k. HasId r k.key k.id) (λ k. HasId s k.key k.id)
    (λ k i. later k.key k.id i) running h

-- an event that starts no key and finishes none
pub nesting_plain : (r s : Recorded) (l : List Event) (e : Event) (running : List RunningId)
    (id : List SegmentView) → IsNesting r l running → Adds r s running e id
    → (e.kind ≡ Started → ⊥) → IsNesting s (l ++ e ∷ []) running
nesting_plain r s l e running id n a plain =
    nesting_more r s l e running running id n a (λ m o f. o) (λ k. absurd (plain k))
    (ids_later r s a.later running n.ids) n.chain

-- a key starts, which stands below the innermost running one
pub nesting_start : (r s : Recorded) (l : List Event) (e : Event) (running : List RunningId)
    (key : ℕ) (id : List SegmentView) → IsNesting r l running → Adds r s running e id
    → e.key ≡ key → IsNext running id
    → IsNesting s (l ++ e ∷ []) (record { key = key; id = id } ∷ running)
nesting_start r s l e running key id n a same next =
    nesting_more r s l e running (record { key = key; id = id } ∷ running) id n a (λ m o f. inr o)
    (λ k. inl same)
    (All-cons (λ k. HasId s k.key k.id) (record { key = key; id = id }) running
    (subst (λ m. HasId s m id) same a.named) (ids_later r s a.later running n.ids))
    (below_all running id n.chain next, n.chain)

-- the innermost running key finishes
pub nesting_finish : (r s : Recorded) (l : List Event) (e : Event) (first : RunningId)
    (rest : List RunningId) (id : List SegmentView) → IsNesting r l (first ∷ rest)
    → Adds r s (first ∷ rest) e id
    → e.kind ≡ Finished → e.key ≡ first.key → (e.kind ≡ Started → ⊥)
    → IsNesting s (l ++ e ∷ []) rest
nesting_finish r s l e first rest id n a kind same plain =
    nesting_more r s l e (first ∷ rest) rest id n a
    (λ m o f. ⊎_elim (λ here. absurd (f kind (same ∙ sym here))) (λ more. more) o)
    (λ k. absurd (plain k))
    (All-tail (λ k. HasId s k.key k.id) first rest (ids_later r s a.later (first ∷ rest) n.ids))
    n.chain.1

-- a unit that begins
pub nesting_none : (r : Recorded) → IsNesting r [] []
nesting_none r = record {
  nest = λ before start during after is kind none. absurd
      (no_split before start (during ++ after) is);
  unfinished = λ before start after is kind none. absurd (no_split before start after is);
  ids = All-nil (λ (k : RunningId). HasId r k.key k.id);
  chain = tt;
}

-- a unit of which no key runs
pub each_finishes : (r : Recorded) (l : List Event) → IsNesting r l [] → EachFinishes l
each_finishes r l n before start after is kind none = n.unfinished before start after is kind none

pub nest_later : (r s : Recorded) (l : List Event)
    → ((k : ℕ) (i : List SegmentView) → HasId r k i → HasId s k i) → EventsNest r l → EventsNest s l
nest_later r s l later n before start during after is kind none =
    All-weaker (BelongsTo r start.key) (BelongsTo s start.key)
    (belongs_later r s later start.key) during (n before start during after is kind none)

-- ---- lists one after the other

pub nest-append : (r : Recorded) (a b : List Event) → EventsNest r a → EachFinishes a
    → EventsNest r b → EventsNest r (a ++ b)
nest-append r a b first ends second before start during after is kind none =
    ⊎_elim
    (λ (x : InFirst before start (during ++ after) a b).
    ⊎_elim
    (λ (p : Begins during after x.rest b). first before start during p.rest
    (x.is ∙ ap (λ y. before ++ start ∷ y) p.is) kind none)
    (λ (p : Begins x.rest b during after).
    absurd (ends before start x.rest x.is kind
    (all_prefix (λ y. y.kind ≡ Finished → y.key ≢ start.key) x.rest p.rest
    (subst (LacksFinish start.key) p.is none))))
    (begins_either during after x.rest b x.more))
    (λ (x : InSecond before start (during ++ after) a b). second x.start start during after x.more
    kind none)
    (in_parts before start (during ++ after) a b is)
