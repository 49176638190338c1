-- A key with an event in a turn has none in another.
use Rattle.std.proofs.Common.{◌≡◌, ℕ, ⊎_elim, Bool, true, false, cond, List, [], ◌∷◌, ◌++◌, filter, flat_map, Some, None, slice_get, sym, ap, ◌∙◌, append_assoc, arith, tests}
use Rattle.std.proofs.lemmas.List.Elements.{filter-append}
use Rattle.std.proofs.lemmas.Grind.{flat_map-append}
use Rattle.std.proofs.lemmas.Option.{same_Some}
use Rattle.tk_ids.specs.declared.descriptors.Descriptor.{Descriptor}
use Rattle.tk_events.specs.declared.events.Event.{Event}
use Rattle.tk_events.specs.declared.events.Entry.{Entry}
use Rattle.tk_record.specs.Mixing.{of_worker}
use Rattle.tk_queue_session.specs.Emission.{entry_by, entries_by}
use Rattle.tk_engine_lifecycle.specs.Units.{Frame}
use Rattle.tk_engine_lifecycle.proofs.Splits.{Gives, none_or_one}
use Rattle.tk_engine_lifecycle.proofs.ByKey.{Registration, hit_in, hits, is_dynamic}
use Rattle.tk_engine_lifecycle.proofs.Registered.{once, same_worker}
use Rattle.tk_engine_lifecycle.proofs.Turns.{Turn, emitted, is_by}
use Rattle.tk_engine_lifecycle.proofs.SeparateTurns.{Hit, KeptRun, at_worker, common_apart, own, registered_alone}

-- the entry of an event in the middle of a run
pub record InRun (f : Frame) (entries : List Entry) (w : ℕ) (e : Event) : Type 0 where
  pub prefix : List Entry
  pub suffix : List Entry
  pub is : entries ≡ prefix ++ entry_by w e ∷ suffix

whole_at : (f : Frame) (entries mid m n : List Entry) (x : Entry) → entries ≡ entries_by 0 f.before ++ mid ++ entries_by 0 f.after → mid ≡ m ++ x ∷ n
    → entries ≡ (entries_by 0 f.before ++ m) ++ x ∷ (n ++ entries_by 0 f.after)
whole_at f entries mid m n x e is =
    let b = entries_by 0 f.before in
    let a = entries_by 0 f.after in
    e ∙ ap (λ l. b ++ l ++ a) is ∙ ap (λ l. l ++ a) (sym (append_assoc b m (x ∷ n))) ∙ append_assoc (b ++ m) (x ∷ n) a

-- what a turn emitted stands in the worker's list
emitted_at : (p : List Turn) (t : Turn) (q : List Turn) (a : List Event) (e : Event) (b : List Event) → t.list ≡ a ++ e ∷ b
    → emitted (p ++ t ∷ q) ≡ (emitted p ++ a) ++ e ∷ (b ++ emitted q)
emitted_at p t q a e b is =
    flat_map-append (λ (x : Turn). x.list) p (t ∷ q)
    ∙ ap (λ l. emitted p ++ (l ++ emitted q)) is
    ∙ ap (λ l. emitted p ++ l) (append_assoc a (e ∷ b) (emitted q))
    ∙ sym (append_assoc (emitted p) a (e ∷ (b ++ emitted q)))

keep_first : (test : Turn → Bool) (t : Turn) (q : List Turn) → test t ≡ true → filter test (t ∷ q) ≡ t ∷ filter test q
keep_first test t q passes = ap (λ b. cond b (t ∷ filter test q) (filter test q)) passes

pub drop_first : (test : Turn → Bool) (t : Turn) (q : List Turn) → test t ≡ false → filter test (t ∷ q) ≡ filter test q
drop_first test t q fails = ap (λ b. cond b (t ∷ filter test q) (filter test q)) fails

by_itself : (t : Turn) → is_by t.worker t ≡ true
by_itself t = grind (arith, tests)

-- the worker's list at an event of a turn
pub list_at : (f : Frame) (entries : List Entry) (c : KeptRun f entries) (p : List Turn) (t : Turn) (q : List Turn) (a : List Event) (e : Event) (b : List Event)
    → c.ts ≡ p ++ t ∷ q → t.list ≡ a ++ e ∷ b
    → of_worker t.worker c.mid ≡ (emitted (filter (is_by t.worker) p) ++ a) ++ e ∷ (b ++ emitted (filter (is_by t.worker) q))
list_at f entries c p t q a e b is at =
    let test = is_by t.worker in
    sym (c.emits t.worker) ∙ ap (λ l. emitted (filter test l)) is
    ∙ ap emitted (filter-append test p (t ∷ q) ∙ ap (λ l. filter test p ++ l) (keep_first test t q (by_itself t)))
    ∙ emitted_at (filter test p) t (filter test q) a e b at

turn_in_run : (f : Frame) (entries : List Entry) (c : KeptRun f entries) (p : List Turn) (t : Turn) (q : List Turn) (a : List Event) (e : Event) (b : List Event)
    → c.ts ≡ p ++ t ∷ q → t.list ≡ a ++ e ∷ b → InRun f entries t.worker e
turn_in_run f entries c p t q a e b is at =
    let w = at_worker t.worker c.mid (emitted (filter (is_by t.worker) p) ++ a) e (b ++ emitted (filter (is_by t.worker) q)) (list_at f entries c p t q a e b is at) in
    record { prefix = entries_by 0 f.before ++ w.prefix; suffix = w.suffix ++ entries_by 0 f.after; is = whole_at f entries c.mid w.prefix w.suffix (entry_by t.worker e) c.whole w.is }

-- two registrations of a key by one worker
twice : (f : Frame) (entries : List Entry) (c : KeptRun f entries) (w : ℕ) (x : List Event) (e : Event) (y : List Event) (e' : Event) (z : List Event)
    → of_worker w c.mid ≡ x ++ e ∷ (y ++ e' ∷ z) → is_dynamic e ≡ true → is_dynamic e' ≡ true → e.key ≡ e'.key → ⊥
twice f entries c w x e y e' z is d d' same =
    let one = at_worker w c.mid x e (y ++ e' ∷ z) is in
    let two = at_worker w one.suffix y e' z one.after in
    let there : entries ≡ (entries_by 0 f.before ++ one.prefix) ++ entry_by w e ∷ (two.prefix ++ entry_by w e' ∷ (two.suffix ++ entries_by 0 f.after))
    = whole_at f entries c.mid one.prefix one.suffix (entry_by w e) c.whole one.is
    ∙ ap (λ l. (entries_by 0 f.before ++ one.prefix) ++ entry_by w e ∷ l)
    (ap (λ l. l ++ entries_by 0 f.after) two.is ∙ append_assoc two.prefix (entry_by w e' ∷ two.suffix) (entries_by 0 f.after)) in
    once (record { table = f.table; entries = entries }) (entries_by 0 f.before ++ one.prefix) (entry_by w e) two.prefix (entry_by w e') (two.suffix ++ entries_by 0 f.after) c.lawful there d d' same

-- two turns of one worker that register the same key
two_turns : (f : Frame) (entries : List Entry) (c : KeptRun f entries) (p : List Turn) (t : Turn) (q : List Turn) (t' : Turn) (s : List Turn) (key : ℕ)
    → c.ts ≡ p ++ t ∷ (q ++ t' ∷ s) → t.worker ≡ t'.worker → Registration key t.list → Registration key t'.list → ⊥
two_turns f entries c p t q t' s key is worker r r' =
    let test = is_by t.worker in
    let passes : is_by t.worker t' ≡ true = grind (arith, tests, worker) in
    let rest : filter test (q ++ t' ∷ s) ≡ filter test q ++ t' ∷ filter test s = filter-append test q (t' ∷ s) ∙ ap (λ l. filter test q ++ l) (keep_first test t' s passes) in
    let inner : emitted (filter test (q ++ t' ∷ s)) ≡ (emitted (filter test q) ++ r'.prefix) ++ r'.event ∷ (r'.suffix ++ emitted (filter test s))
    = ap emitted rest ∙ emitted_at (filter test q) t' (filter test s) r'.prefix r'.event r'.suffix r'.is in
    let list : of_worker t.worker c.mid ≡ (emitted (filter test p) ++ r.prefix) ++ r.event ∷ ((r.suffix ++ (emitted (filter test q) ++ r'.prefix)) ++ r'.event ∷ (r'.suffix ++ emitted (filter test s)))
    = list_at f entries c p t (q ++ t' ∷ s) r.prefix r.event r.suffix is r.is
    ∙ ap (λ l. (emitted (filter test p) ++ r.prefix) ++ r.event ∷ l)
    (ap (λ l. r.suffix ++ l) inner ∙ sym (append_assoc r.suffix (emitted (filter test q) ++ r'.prefix) (r'.event ∷ (r'.suffix ++ emitted (filter test s))))) in
    twice f entries c t.worker (emitted (filter test p) ++ r.prefix) r.event (r.suffix ++ (emitted (filter test q) ++ r'.prefix)) r'.event (r'.suffix ++ emitted (filter test s))
    list r.dynamic r'.dynamic (r.key_is ∙ sym r'.key_is)

pub second_at : (p : List Turn) (t : Turn) (q : List Turn) (t' : Turn) (s : List Turn) (ts : List Turn) → ts ≡ p ++ t ∷ (q ++ t' ∷ s) → ts ≡ (p ++ t ∷ q) ++ t' ∷ s
second_at p t q t' s ts is = is ∙ sym (append_assoc p (t ∷ q) (t' ∷ s))

one_of : (f : Frame) (key : ℕ) (a b : Descriptor) → slice_get f.table key ≡ Some a → slice_get f.table key ≡ Some b → a.id ≡ b.id
one_of f key a b x y = let same : Some a ≡ Some b = sym x ∙ y in ap (λ (d : Descriptor). d.id) (same_Some _ _ same)

none_some : (f : Frame) (key : ℕ) (d : Descriptor) → slice_get f.table key ≡ None → slice_get f.table key ≡ Some d → ⊥
none_some f key d n s = cc

-- no key has events in two turns
pub in_one : (f : Frame) (entries : List Entry) (c : KeptRun f entries) (p : List Turn) (t : Turn) (q : List Turn) (t' : Turn) (s : List Turn) (key : ℕ)
    → c.ts ≡ p ++ t ∷ (q ++ t' ∷ s) → Hit key t.list → Hit key t'.list → ⊥
in_one f entries c p t q t' s key is h h' =
    let is' = second_at p t q t' s c.ts is in
    let k = c.each p t (q ++ t' ∷ s) is in
    let k' = c.each (p ++ t ∷ q) t' s is' in
    let o = own f t key k.1 h in
    let o' = own f t' key k'.1 h' in
    ⊎_elim
    (λ a. ⊎_elim
    (λ b. c.apart p t q t' s is (sym o.belongs ∙ ap f.owner (sym a.2 ∙ one_of f key a.0 b.0 a.1 b.1 ∙ b.2) ∙ o'.belongs))
    (λ b. none_some f key a.0 b.0 a.1)
    (registered_alone f t' key o'.id c.around o'.its))
    (λ a. ⊎_elim
    (λ b. none_some f key b.0 a.0 b.1)
    (λ b.
    let e = a.1 in
    let e' = b.1 in
    let x = turn_in_run f entries c p t (q ++ t' ∷ s) e.prefix e.event e.suffix is e.is in
    let y = turn_in_run f entries c (p ++ t ∷ q) t' s e'.prefix e'.event e'.suffix is' e'.is in
    let worker = same_worker (record { table = f.table; entries = entries }) x.prefix (entry_by t.worker e.event) x.suffix y.prefix (entry_by t'.worker e'.event) y.suffix c.lawful x.is y.is e.dynamic e'.dynamic (e.key_is ∙ sym e'.key_is) in
    two_turns f entries c p t q t' s key is worker e e')
    (registered_alone f t' key o'.id c.around o'.its))
    (registered_alone f t key o.id c.around o.its)

-- ---- where a key has no event

abbrev pub hits_of : ℕ → Turn → List Event
hits_of key t = hits key t.list

pub given_hit : (key : ℕ) (t : Turn) (e : Event) (more : List Event) → hits_of key t ≡ e ∷ more → Hit key t.list
given_hit key t e more g = let h = hit_in key t.list e more g in record { prefix = h.0; event = e; suffix = h.1; is = h.2; key_is = h.3 }

pub none_before : (f : Frame) (entries : List Entry) (c : KeptRun f entries) (p : List Turn) (t : Turn) (q : List Turn) (key : ℕ)
    → c.ts ≡ p ++ t ∷ q → Hit key t.list → flat_map (hits_of key) p ≡ []
none_before f entries c p t q key is h =
    ⊎_elim (λ n. n)
    (λ (g : Gives (hits_of key) p). absurd (in_one f entries c g.prefix g.one g.suffix t q key
    (is ∙ ap (λ l. l ++ t ∷ q) g.is ∙ append_assoc g.prefix (g.one ∷ g.suffix) (t ∷ q))
    (given_hit key g.one g.first g.rest g.given) h))
    (none_or_one (hits_of key) p)

pub none_after : (f : Frame) (entries : List Entry) (c : KeptRun f entries) (p : List Turn) (t : Turn) (q : List Turn) (key : ℕ)
    → c.ts ≡ p ++ t ∷ q → Hit key t.list → flat_map (hits_of key) q ≡ []
none_after f entries c p t q key is h =
    ⊎_elim (λ n. n)
    (λ (g : Gives (hits_of key) q). absurd (in_one f entries c p t g.prefix g.one g.suffix key (is ∙ ap (λ l. p ++ t ∷ l) g.is) h (given_hit key g.one g.first g.rest g.given)))
    (none_or_one (hits_of key) q)

pub none_common : (f : Frame) (entries : List Entry) (c : KeptRun f entries) (key : ℕ) → Hit key (f.before ++ f.after) → flat_map (hits_of key) c.ts ≡ []
none_common f entries c key h =
    ⊎_elim (λ n. n)
    (λ (g : Gives (hits_of key) c.ts). let k = c.each g.prefix g.one g.suffix g.is in
    absurd (common_apart f g.one key c.around k.0 k.1 h (given_hit key g.one g.first g.rest g.given)))
    (none_or_one (hits_of key) c.ts)
