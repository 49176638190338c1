-- What a key has among the entries before an event of a turn, it has before that event where the unit runs alone.
use Rattle.std.proofs.Common.{◌≡◌, ◌≢◌, ◌==◌, ℕ, ⊎_elim, Bool, true, false, cond, List, [], ◌∷◌, ◌++◌, filter, flat_map, refl, sym, ap, ap₂}
use Rattle.std.proofs.Common.{◌∙◌, arith, tests}
use Rattle.std.proofs.lemmas.Bool.{cases_Bool}
use Rattle.std.proofs.lemmas.List.Elements.{filter-append}
use Rattle.std.proofs.lemmas.Grind.{flat_map-append}
use Rattle.tk_base.proofs.Lists.{nil_left, nil_right}
use Rattle.tk_events.specs.declared.events.Event.{Event}
use Rattle.tk_events.specs.declared.events.Entry.{Entry}
use Rattle.tk_record.specs.Mixing.{of_worker}
use Rattle.tk_queue_session.proofs.ReceiverSteps.{of_worker-append}
use Rattle.tk_engine_lifecycle.specs.Units.{Frame}
use Rattle.tk_engine_lifecycle.proofs.ByKey.{events, hits, hits-append}
use Rattle.tk_engine_lifecycle.proofs.Turns.{Turn, emitted, is_by}
use Rattle.tk_engine_lifecycle.proofs.SeparateTurns.{Hit, KeptRun, other_first, own_first}
use Rattle.tk_engine_lifecycle.proofs.KeysOfOneTurn.{drop_first, hits_of, none_after, none_before}

hits_one : (key : ℕ) (e : Event) (es : List Event) → hits key (e ∷ es) ≡ hits key (e ∷ []) ++ hits key es
hits_one key e es = hits-append key (e ∷ []) es

own_worker : (x : Entry) → (x.worker == x.worker) ≡ true
own_worker x = grind (arith, tests)

rest_nil : (key v : ℕ) (x : Entry) (xs : List Entry) → hits key (of_worker v (x ∷ xs)) ≡ [] → hits key (of_worker v xs) ≡ []
rest_nil key v x xs h =
    ⊎_elim
    (λ e. nil_right (hits key (x.event ∷ [])) (hits key (of_worker v xs))
    (sym (hits_one key x.event (of_worker v xs)) ∙ ap (hits key) (sym (own_first v x xs e)) ∙ h))
    (λ e. ap (hits key) (sym (other_first v x xs e)) ∙ h)
    (cases_Bool (x.worker == v))

-- where the other workers have no event of the key, all of them have those of one worker
pub one_worker : (key w : ℕ) (xs : List Entry) → ((v : ℕ) → v ≢ w → hits key (of_worker v xs) ≡ []) → hits key (events xs) ≡ hits key (of_worker w xs)
one_worker key w [] h = refl
one_worker key w (x ∷ xs) h =
    let more = one_worker key w xs (λ v n. rest_nil key v x xs (h v n)) in
    ⊎_elim
    (λ e. hits_one key x.event (events xs) ∙ ap (λ l. hits key (x.event ∷ []) ++ l) more ∙ sym (hits_one key x.event (of_worker w xs)) ∙ ap (hits key) (sym (own_first w x xs e)))
    (λ e.
    let n : x.worker ≢ w = grind (arith, tests, e) in
    let its : hits key (x.event ∷ of_worker x.worker xs) ≡ [] = ap (hits key) (sym (own_first x.worker x xs (own_worker x))) ∙ h x.worker n in
    let none : hits key (x.event ∷ []) ≡ []
    = nil_left (hits key (x.event ∷ [])) (hits key (of_worker x.worker xs)) (sym (hits_one key x.event (of_worker x.worker xs)) ∙ its) in
    hits_one key x.event (events xs) ∙ ap₂ (λ a b. a ++ b) none more ∙ ap (hits key) (sym (other_first w x xs e)))
    (cases_Bool (x.worker == w))

pub hits_emitted : (key : ℕ) (ts : List Turn) → hits key (emitted ts) ≡ flat_map (hits_of key) ts
hits_emitted key [] = refl
hits_emitted key (t ∷ ts) = hits-append key t.list (emitted ts) ∙ ap (λ l. hits key t.list ++ l) (hits_emitted key ts)

none_kept : (test : Turn → Bool) (key : ℕ) (ts : List Turn) → flat_map (hits_of key) ts ≡ [] → flat_map (hits_of key) (filter test ts) ≡ []
none_kept test key [] h = refl
none_kept test key (t ∷ ts) h =
    let more = none_kept test key ts (nil_right (hits_of key t) (flat_map (hits_of key) ts) h) in
    ⊎_elim
    (λ e. ap (λ b. flat_map (hits_of key) (cond b (t ∷ filter test ts) (filter test ts))) e
    ∙ ap₂ (λ a b. a ++ b) (nil_left (hits_of key t) (flat_map (hits_of key) ts) h) more)
    (λ e. ap (λ b. flat_map (hits_of key) (cond b (t ∷ filter test ts) (filter test ts))) e ∙ more)
    (cases_Bool (test t))

pub none_emitted : (test : Turn → Bool) (key : ℕ) (ts : List Turn) → flat_map (hits_of key) ts ≡ [] → hits key (emitted (filter test ts)) ≡ []
none_emitted test key ts h = hits_emitted key (filter test ts) ∙ none_kept test key ts h

-- what a worker has nowhere in the middle, it has not in its beginning
start_nil : (f : Frame) (entries : List Entry) (c : KeptRun f entries) (m n : List Entry) (key v : ℕ) → c.mid ≡ m ++ n
    → hits key (emitted (filter (is_by v) c.ts)) ≡ [] → hits key (of_worker v m) ≡ []
start_nil f entries c m n key v is h =
    nil_left (hits key (of_worker v m)) (hits key (of_worker v n))
    (sym (hits-append key (of_worker v m) (of_worker v n)) ∙ ap (hits key) (sym (of_worker-append v m n) ∙ ap (of_worker v) (sym is) ∙ sym (c.emits v)) ∙ h)

-- a key that no turn has an event of has none in the middle
pub none_in_start : (f : Frame) (entries : List Entry) (c : KeptRun f entries) (m n : List Entry) (key : ℕ) → c.mid ≡ m ++ n
    → flat_map (hits_of key) c.ts ≡ [] → hits key (events m) ≡ []
none_in_start f entries c m n key is h =
    one_worker key 0 m (λ v _. start_nil f entries c m n key v is (none_emitted (is_by v) key c.ts h))
    ∙ start_nil f entries c m n key 0 is (none_emitted (is_by 0) key c.ts h)

-- the start of the middle, up to an event of a turn, or to its end
pub record StartsTo (f : Frame) (entries : List Entry) (c : KeptRun f entries) (m : List Entry) (t : Turn) (a : List Event) : Type 0 where
  pub rest : List Entry
  pub is : c.mid ≡ m ++ rest
  pub prefix : List Turn
  pub suffix : List Turn
  pub turn : c.ts ≡ prefix ++ t ∷ suffix
  pub list : of_worker t.worker m ≡ emitted (filter (is_by t.worker) prefix) ++ a

-- there a key of the turn has the events that it has in the turn up to there
pub own_in_start : (f : Frame) (entries : List Entry) (c : KeptRun f entries) (m : List Entry) (t : Turn) (a : List Event) (key : ℕ) → StartsTo f entries c m t a
    → Hit key t.list → hits key (events m) ≡ hits key a
own_in_start f entries c m t a key s h =
    let before = none_before f entries c s.prefix t s.suffix key s.turn h in
    let after = none_after f entries c s.prefix t s.suffix key s.turn h in
    one_worker key t.worker m (λ v n.
    let fails : is_by v t ≡ false = grind (arith, tests, n) in
    start_nil f entries c m s.rest key v s.is
    (ap (λ l. hits key (emitted (filter (is_by v) l))) s.turn
    ∙ ap (λ l. hits key (emitted l)) (filter-append (is_by v) s.prefix (t ∷ s.suffix) ∙ ap (λ l. filter (is_by v) s.prefix ++ l) (drop_first (is_by v) t s.suffix fails))
    ∙ hits_emitted key (filter (is_by v) s.prefix ++ filter (is_by v) s.suffix)
    ∙ flat_map-append (hits_of key) (filter (is_by v) s.prefix) (filter (is_by v) s.suffix)
    ∙ ap₂ (λ x y. x ++ y) (none_kept (is_by v) key s.prefix before) (none_kept (is_by v) key s.suffix after)))
    ∙ ap (hits key) s.list
    ∙ hits-append key (emitted (filter (is_by t.worker) s.prefix)) a
    ∙ ap (λ l. l ++ hits key a) (none_emitted (is_by t.worker) key s.prefix before)
