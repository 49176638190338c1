-- A run of an engine whose units keep the lifecycle keeps it.
use Rattle.std.proofs.Common.{◌≡◌, ◌<◌, ◌==◌, ℕ, ◌⊎◌, inl, inr, ⊎_elim, true, List, [], ◌∷◌, ◌++◌, length, filter, flat_map, take, Some, slice_get, refl, sym, ap, ap₂, ◌∙◌, subst, append_assoc, arith, tests}
use Rattle.std.proofs.lemmas.List.{map-append}
use Rattle.tk_base.proofs.Lists.{nil_left, nil_right, no_split}
use Rattle.tk_ids.specs.IdText.{SegmentView, parent_of}
use Rattle.tk_ids.specs.declared.descriptors.Descriptor.{Descriptor}
use Rattle.tk_events.specs.declared.events.Event.{Event}
use Rattle.tk_events.specs.declared.events.Entry.{Entry}
use Rattle.tk_record.specs.Recorded.{Recorded}
use Rattle.tk_record.specs.Mixing.{of_worker}
use Rattle.tk_queue_session.specs.Emission.{entries_by, entry_by}
use Rattle.tk_query_lifecycle.specs.Lifecycle.{HasId, KnowsId, runs}
use Rattle.tk_query_lifecycle.specs.KeepsLifecycle.{KeepsLifecycle}
use Rattle.tk_queue_session.proofs.ReceiverSteps.{of_worker-append}
use Rattle.tk_engine_lifecycle.specs.Units.{Frame, run_alone}
use Rattle.tk_engine_lifecycle.proofs.Splits.{Joined, joined, split_get, split_take, unfiltered}
use Rattle.tk_engine_lifecycle.proofs.ByKey.{events, events-append, events_by, has_run, hits, hits-append, same_id, same_runs}
use Rattle.tk_engine_lifecycle.proofs.Turns.{Turn, emitted, is_by}
use Rattle.tk_engine_lifecycle.proofs.SeparateTurns.{Hit, KeptRun, hit_or_none, own_first}
use Rattle.tk_engine_lifecycle.proofs.KeysOfOneTurn.{hits_of, none_common}
use Rattle.tk_engine_lifecycle.proofs.Prefixes.{StartsTo, none_in_start, own_in_start}

-- ---- what is asked of an entry after others

abbrev pub Below : List Descriptor → List Entry → Entry → Type 0
Below table p x =
    (id : List SegmentView) → HasId (record { table = table; entries = p ++ x ∷ [] }) x.event.key id → 1 < length id
    → (parent : ℕ) × HasId (record { table = table; entries = p }) parent (parent_of id) × (runs parent p ≡ true)

abbrev pub New : List Descriptor → List Entry → Entry → Type 0
New table p x = ¬ KnowsId (record { table = table; entries = p }) x

pub new_at : (r : Recorded) (p : List Entry) (x : Entry) (q : List Entry) → KeepsLifecycle r → r.entries ≡ p ++ x ∷ q → New r.table p x
new_at r p x q k is =
    let get : slice_get r.entries (length p) ≡ Some x = ap (λ l. slice_get l (length p)) is ∙ split_get p x q in
    let same : take (length p) r.entries ≡ p = ap (take (length p)) is ∙ split_take p x q in
    subst (λ l. New r.table l x) same (k.ids (length p) x get)

pub below_at : (r : Recorded) (p : List Entry) (x : Entry) (q : List Entry) → KeepsLifecycle r → r.entries ≡ p ++ x ∷ q → Below r.table p x
below_at r p x q k is =
    let get : slice_get r.entries (length p) ≡ Some x = ap (λ l. slice_get l (length p)) is ∙ split_get p x q in
    let same : take (length p) r.entries ≡ p = ap (take (length p)) is ∙ split_take p x q in
    subst (λ l. Below r.table l x) same (k.below (length p) x get)

-- ---- the turn of an entry in the middle

pub record TurnAt (f : Frame) (entries : List Entry) (c : KeptRun f entries) (m : List Entry) (x : Entry) : Type 0 where
  pub t : Turn
  pub a : List Event
  pub b : List Event
  pub list : t.list ≡ a ++ x.event ∷ b
  pub starts : StartsTo f entries c m t a

pub turn_at : (f : Frame) (entries : List Entry) (c : KeptRun f entries) (m : List Entry) (x : Entry) (n : List Entry) → c.mid ≡ m ++ x ∷ n → TurnAt f entries c m x
turn_at f entries c m x n is =
    let w = x.worker in
    let own : (x.worker == x.worker) ≡ true = grind (arith, tests) in
    let whole : emitted (filter (is_by w) c.ts) ≡ of_worker w m ++ x.event ∷ of_worker w n
    = c.emits w ∙ ap (of_worker w) is ∙ of_worker-append w m (x ∷ n) ∙ ap (λ l. of_worker w m ++ l) (own_first w x n own) in
    let j : Joined (λ (t : Turn). t.list) (filter (is_by w) c.ts) (of_worker w m) x.event (of_worker w n) = joined (λ (t : Turn). t.list) (filter (is_by w) c.ts) (of_worker w m) x.event (of_worker w n) whole in
    let u = unfiltered (is_by w) c.ts j.prefix j.one j.suffix j.is in
    let worker : w ≡ j.one.worker = grind (arith, tests, u.passes) in
    record {
      t = j.one;
      a = j.before;
      b = j.after;
      list = j.within;
      starts = record {
        rest = x ∷ n;
        is = is;
        prefix = u.prefix;
        suffix = u.suffix;
        turn = u.is;
        list = subst (λ v. of_worker v m ≡ emitted (filter (is_by v) u.prefix) ++ j.before) worker (j.first ∙ ap (λ l. emitted l ++ j.before) (sym u.kept));
      };
    }

-- ---- before an entry in the middle, in the run and alone

abbrev pub start_of : (f : Frame) → List Entry → List Entry
start_of f m = entries_by 0 f.before ++ m

pub start_events : (f : Frame) (m : List Entry) → events (start_of f m) ≡ f.before ++ events m
start_events f m = events-append (entries_by 0 f.before) m ∙ ap (λ l. l ++ events m) (events_by 0 f.before)

pub alone_start : (f : Frame) (w : ℕ) (a : List Event) → events (start_of f (entries_by w a)) ≡ f.before ++ a
alone_start f w a = start_events f (entries_by w a) ∙ ap (λ l. f.before ++ l) (events_by w a)

pub hit_before : (f : Frame) (key : ℕ) → Hit key f.before → Hit key (f.before ++ f.after)
hit_before f key h = record { prefix = h.prefix; event = h.event; suffix = h.suffix ++ f.after; is = ap (λ l. l ++ f.after) h.is ∙ append_assoc h.prefix (h.event ∷ h.suffix) f.after; key_is = h.key_is }

split_none : (key : ℕ) (p : List Turn) (t : Turn) (q : List Turn) → flat_map (hits_of key) (p ++ t ∷ q) ≡ flat_map (hits_of key) p ++ (hits_of key t ++ flat_map (hits_of key) q)
split_none key [] t q = refl
split_none key (x ∷ p) t q = ap (λ l. hits_of key x ++ l) (split_none key p t q) ∙ sym (append_assoc (hits_of key x) (flat_map (hits_of key) p) (hits_of key t ++ flat_map (hits_of key) q))

-- the key has the same events there, in the run and where the unit runs alone
pub same_before : (f : Frame) (entries : List Entry) (c : KeptRun f entries) (m : List Entry) (x : Entry) (t : TurnAt f entries c m x) (key : ℕ)
    → Hit key t.t.list ⊎ Hit key f.before
    → hits key (events (start_of f m)) ≡ hits key (events (start_of f (entries_by t.t.worker t.a)))
same_before f entries c m x t key h =
    let there : hits key (events m) ≡ hits key t.a = ⊎_elim
    (λ o. own_in_start f entries c m t.t t.a key t.starts o)
    (λ b.
    let none = none_common f entries c key (hit_before f key b) in
    let own : hits key t.t.list ≡ []
    = nil_left (hits_of key t.t) _ (nil_right (flat_map (hits_of key) t.starts.prefix) _
    (sym (split_none key t.starts.prefix t.t t.starts.suffix) ∙ ap (flat_map (hits_of key)) (sym t.starts.turn) ∙ none)) in
    none_in_start f entries c m t.starts.rest key t.starts.is none
    ∙ sym (nil_left (hits key t.a) (hits key (x.event ∷ t.b))
    (sym (hits-append key t.a (x.event ∷ t.b)) ∙ ap (hits key) (sym t.list) ∙ own)))
    h in
    ap (hits key) (start_events f m) ∙ hits-append key f.before (events m) ∙ ap (λ l. hits key f.before ++ l) there
    ∙ sym (hits-append key f.before t.a) ∙ ap (hits key) (sym (alone_start f t.t.worker t.a))

-- an event in a turn is a hit of its key there
pub its_hit : (f : Frame) (entries : List Entry) (c : KeptRun f entries) (m : List Entry) (x : Entry) (t : TurnAt f entries c m x) → Hit x.event.key t.t.list
its_hit f entries c m x t = record { prefix = t.a; event = x.event; suffix = t.b; is = t.list; key_is = refl }

-- the entry where the unit runs alone
abbrev pub alone_entry : (f : Frame) (entries : List Entry) (c : KeptRun f entries) (m : List Entry) (x : Entry) → TurnAt f entries c m x → Entry
alone_entry f entries c m x t = entry_by t.t.worker x.event

pub alone_split : (f : Frame) (entries : List Entry) (c : KeptRun f entries) (m : List Entry) (x : Entry) (t : TurnAt f entries c m x)
    → (run_alone f t.t.worker t.t.list).entries ≡ start_of f (entries_by t.t.worker t.a) ++ alone_entry f entries c m x t ∷ (entries_by t.t.worker t.b ++ entries_by 0 f.after)
alone_split f entries c m x t =
    let w = t.t.worker in
    let e0 = entries_by 0 f.before in
    let parts : entries_by w t.t.list ≡ entries_by w t.a ++ entry_by w x.event ∷ entries_by w t.b = ap (entries_by w) t.list ∙ map-append (entry_by w) t.a (x.event ∷ t.b) in
    ap (λ l. (e0 ++ l) ++ entries_by 0 f.after) parts
    ∙ ap (λ l. l ++ entries_by 0 f.after) (sym (append_assoc e0 (entries_by w t.a) (entry_by w x.event ∷ entries_by w t.b)))
    ∙ append_assoc (e0 ++ entries_by w t.a) (entry_by w x.event ∷ entries_by w t.b) (entries_by 0 f.after)

pub one_more : (key : ℕ) (xs ys : List Entry) (x y : Entry) → hits key (events xs) ≡ hits key (events ys) → x.event ≡ y.event → hits key (events (xs ++ x ∷ [])) ≡ hits key (events (ys ++ y ∷ []))
one_more key xs ys x y same e =
    ap (hits key) (events-append xs (x ∷ [])) ∙ hits-append key (events xs) (x.event ∷ [])
    ∙ ap₂ (λ l v. l ++ hits key (v ∷ [])) same e
    ∙ sym (ap (hits key) (events-append ys (y ∷ [])) ∙ hits-append key (events ys) (y.event ∷ []))

-- the id of the entry's key is the same in both
pub id_alone : (f : Frame) (entries : List Entry) (c : KeptRun f entries) (m : List Entry) (x : Entry) (t : TurnAt f entries c m x) (id : List SegmentView)
    → HasId (record { table = f.table; entries = start_of f m ++ x ∷ [] }) x.event.key id
    → HasId (record { table = f.table; entries = start_of f (entries_by t.t.worker t.a) ++ alone_entry f entries c m x t ∷ [] }) x.event.key id
id_alone f entries c m x t id h =
    let same = same_before f entries c m x t x.event.key (inl (its_hit f entries c m x t)) in
    same_id (record { table = f.table; entries = start_of f m ++ x ∷ [] })
    (record { table = f.table; entries = start_of f (entries_by t.t.worker t.a) ++ alone_entry f entries c m x t ∷ [] }) x.event.key id refl
    (one_more x.event.key (start_of f m) (start_of f (entries_by t.t.worker t.a)) x (alone_entry f entries c m x t) same refl) h

-- a key that runs there has an event before, or in the turn
runs_hit : (f : Frame) (w key : ℕ) (a : List Event) → runs key (start_of f (entries_by w a)) ≡ true → Hit key a ⊎ Hit key f.before
runs_hit f w key a r =
    let h = has_run (start_of f (entries_by w a)) key r in
    ⊎_elim
    (λ n. ⊎_elim
    (λ m. absurd (no_split [] h.0 h.1
    (sym (ap (hits key) (alone_start f w a) ∙ hits-append key f.before a ∙ ap₂ (λ x y. x ++ y) m n) ∙ h.2)))
    (λ b. inr b)
    (hit_or_none key f.before))
    (λ o. inl o)
    (hit_or_none key a)

in_list : (key : ℕ) (l a : List Event) (e : Event) (b : List Event) → l ≡ a ++ e ∷ b → Hit key a → Hit key l
in_list key l a e b is h = record { prefix = h.prefix; event = h.event; suffix = h.suffix ++ e ∷ b; is = is ∙ ap (λ x. x ++ e ∷ b) h.is ∙ append_assoc h.prefix (h.event ∷ h.suffix) (e ∷ b); key_is = h.key_is }

pub below_mid : (f : Frame) (entries : List Entry) (c : KeptRun f entries) (m : List Entry) (x : Entry) (n : List Entry) → c.mid ≡ m ++ x ∷ n → Below f.table (start_of f m) x
below_mid f entries c m x n is id h long =
    let t = turn_at f entries c m x n is in
    let k = c.each t.starts.prefix t.t t.starts.suffix t.starts.turn in
    let alone = below_at (run_alone f t.t.worker t.t.list) (start_of f (entries_by t.t.worker t.a)) (alone_entry f entries c m x t) (entries_by t.t.worker t.b ++ entries_by 0 f.after) k.1.keeps (alone_split f entries c m x t) in
    let it = alone id (id_alone f entries c m x t id h) long in
    let its : Hit it.0 t.t.list ⊎ Hit it.0 f.before = ⊎_elim (λ o. inl (in_list it.0 t.t.list t.a x.event t.b t.list o)) (λ b. inr b) (runs_hit f t.t.worker it.0 t.a it.2) in
    let same = same_before f entries c m x t it.0 its in (
      it.0,
      same_id (record { table = f.table; entries = start_of f (entries_by t.t.worker t.a) }) (record { table = f.table; entries = start_of f m }) it.0 (parent_of id) refl (sym same) it.1,
      same_runs (start_of f m) (start_of f (entries_by t.t.worker t.a)) it.0 same ∙ it.2,
    )
