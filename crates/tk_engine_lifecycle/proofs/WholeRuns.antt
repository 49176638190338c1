-- A run of an engine whose units keep the lifecycle keeps it: ids, the entries around the turns, and the keys' steps.
use Rattle.std.proofs.Common.{◌≡◌, ℕ, inl, ⊎_elim, Bool, true, cond, List, [], ◌∷◌, ◌++◌, filter, take, refl, sym, ap, ap₂, ◌∙◌, subst, append_assoc, append-nil, arith, tests}
use Rattle.std.proofs.lemmas.List.Elements.{filter-append}
use Rattle.tk_base.proofs.Lists.{nil_left, no_split}
use Rattle.tk_ids.specs.IdText.{SegmentView, parent_of}
use Rattle.tk_events.specs.declared.events.Event.{Event}
use Rattle.tk_events.specs.declared.events.Entry.{Entry}
use Rattle.tk_record.specs.Recorded.{Recorded}
use Rattle.tk_record.specs.Record.{IsRecord}
use Rattle.tk_queue_session.specs.Emission.{entries_by}
use Rattle.tk_query_lifecycle.specs.Lifecycle.{HasId, runs}
use Rattle.tk_query_lifecycle.specs.KeepsLifecycle.{IsWhole, KeepsLifecycle, steps_of}
use Rattle.tk_claims.specs.Run.{IsRun}
use Rattle.tk_engine_lifecycle.specs.Units.{Frame, KeepsAround, UnitsKeepLifecycle, run_alone}
use Rattle.tk_engine_lifecycle.proofs.Splits.{Gives, InFirst, InSecond, get_split, in_parts, none_or_one}
use Rattle.tk_engine_lifecycle.proofs.ByKey.{Registration, events, events-append, events_by, from_table, has_run, hits, hits-append, is_dynamic, later_id, one_id, registration_of, same_id, same_runs, same_steps, table_or_entry}
use Rattle.tk_engine_lifecycle.proofs.Turns.{Turn, emitted, is_by, turned}
use Rattle.tk_engine_lifecycle.proofs.SeparateTurns.{Hit, KeptRun, alone_events, hit_or_none, own, plain}
use Rattle.tk_engine_lifecycle.proofs.KeysOfOneTurn.{given_hit, hits_of, none_after, none_common}
use Rattle.tk_engine_lifecycle.proofs.Prefixes.{StartsTo, none_emitted, none_in_start, own_in_start}
use Rattle.tk_engine_lifecycle.proofs.Kept.{Below, New, alone_entry, alone_split, below_at, below_mid, id_alone, its_hit, new_at, one_more, same_before, start_events, start_of, turn_at}

-- ---- the events of a key in the whole

whole_events : (f : Frame) (mid : List Entry) → events (entries_by 0 f.before ++ mid ++ entries_by 0 f.after) ≡ (f.before ++ events mid) ++ f.after
whole_events f mid = events-append (start_of f mid) (entries_by 0 f.after) ∙ ap₂ (λ a b. a ++ b) (start_events f mid) (events_by 0 f.after)

pub three : (key : ℕ) (a b c : List Event) → hits key ((a ++ b) ++ c) ≡ (hits key a ++ hits key b) ++ hits key c
three key a b c = hits-append key (a ++ b) c ∙ ap (λ l. l ++ hits key c) (hits-append key a b)

same_whole : (f : Frame) (entries : List Entry) (c : KeptRun f entries) (w key : ℕ) (l : List Event) → hits key (events c.mid) ≡ hits key l
    → hits key (events entries) ≡ hits key (events (run_alone f w l).entries)
same_whole f entries c w key l same =
    ap (λ x. hits key (events x)) c.whole ∙ ap (hits key) (whole_events f c.mid) ∙ three key f.before (events c.mid) f.after
    ∙ ap (λ x. (hits key f.before ++ x) ++ hits key f.after) same
    ∙ sym (three key f.before l f.after) ∙ ap (hits key) (sym (alone_events f w l))

emitted-append : (xs ys : List Turn) → emitted (xs ++ ys) ≡ emitted xs ++ emitted ys
emitted-append [] ys = refl
emitted-append (x ∷ xs) ys = ap (λ l. x.list ++ l) (emitted-append xs ys) ∙ sym (append_assoc x.list (emitted xs) (emitted ys))

worker_list : (test : Turn → Bool) (p : List Turn) (t : Turn) (q : List Turn) → test t ≡ true → emitted (filter test (p ++ t ∷ q)) ≡ emitted (filter test p) ++ (t.list ++ emitted (filter test q))
worker_list test p t q passes =
    ap emitted (filter-append test p (t ∷ q) ∙ ap (λ b. filter test p ++ cond b (t ∷ filter test q) (filter test q)) passes)
    ∙ emitted-append (filter test p) (t ∷ filter test q)

-- a key of a turn has the events of the turn in the middle
pub turn_whole : (f : Frame) (entries : List Entry) (c : KeptRun f entries) (p : List Turn) (t : Turn) (q : List Turn) (key : ℕ) → c.ts ≡ p ++ t ∷ q → Hit key t.list
    → hits key (events entries) ≡ hits key (events (run_alone f t.worker t.list).entries)
turn_whole f entries c p t q key is h =
    let test = is_by t.worker in
    let by : test t ≡ true = grind (arith, tests) in
    let rest = emitted (filter test q) in
    let starts : StartsTo f entries c c.mid t (t.list ++ rest) = record {
      rest = [];
      is = sym (append-nil c.mid);
      prefix = p;
      suffix = q;
      turn = is;
      list = sym (c.emits t.worker) ∙ ap (λ l. emitted (filter test l)) is ∙ worker_list test p t q by;
    } in
    same_whole f entries c t.worker key t.list
    (own_in_start f entries c c.mid t (t.list ++ rest) key starts h
    ∙ hits-append key t.list rest ∙ ap (λ l. hits key t.list ++ l) (none_emitted test key q (none_after f entries c p t q key is h))
    ∙ append-nil (hits key t.list))

-- ---- ids

at_start : (f : Frame) (entries : List Entry) (c : KeptRun f entries) (p : List Turn) (t : Turn) (q : List Turn) (t' : Turn) (q' start : List Turn)
    → c.ts ≡ p ++ t ∷ q → t ∷ q ≡ start ++ t' ∷ q' → t.unit ≡ t'.unit → t' ≡ t
at_start f entries c p t q t' q' [] is more same = cc
at_start f entries c p t q t' q' (x ∷ start) is more same =
    let rest : q ≡ start ++ t' ∷ q' = cc in
    absurd (c.apart p t start t' q' (is ∙ ap (λ l. p ++ t ∷ l) rest) same)

-- turns of one unit are one turn
one_turn : (f : Frame) (entries : List Entry) (c : KeptRun f entries) (p : List Turn) (t : Turn) (q p' : List Turn) (t' : Turn) (q' : List Turn)
    → c.ts ≡ p ++ t ∷ q → c.ts ≡ p' ++ t' ∷ q' → t.unit ≡ t'.unit → t' ≡ t
one_turn f entries c p t q p' t' q' is is' same =
    ⊎_elim
    (λ (a : InFirst p' t' q' p (t ∷ q)). absurd (c.apart p' t' a.rest t q (is' ∙ ap (λ l. p' ++ t' ∷ l) a.more) (sym same)))
    (λ (b : InSecond p' t' q' p (t ∷ q)). at_start f entries c p t q t' q' b.start is b.more same)
    (in_parts p' t' q' p (t ∷ q) (sym is ∙ is'))

-- an event in the middle has an entry
pub record EntryOf (xs : List Entry) (e : Event) : Type 0 where
  pub prefix : List Entry
  pub entry : Entry
  pub suffix : List Entry
  pub is : xs ≡ prefix ++ entry ∷ suffix
  pub event_is : entry.event ≡ e

entry_of : (xs : List Entry) (p : List Event) (e : Event) (q : List Event) → events xs ≡ p ++ e ∷ q → EntryOf xs e
entry_of [] [] e q h = cc
entry_of [] (y ∷ p) e q h = cc
entry_of (x ∷ xs) [] e q h = let event : x.event ≡ e = cc in record { prefix = []; entry = x; suffix = xs; is = refl; event_is = event }
entry_of (x ∷ xs) (y ∷ p) e q h =
    let rest : events xs ≡ p ++ e ∷ q = cc in
    let m = entry_of xs p e q rest in
    record { prefix = x ∷ m.prefix; entry = m.entry; suffix = m.suffix; is = ap (λ l. x ∷ l) m.is; event_is = m.event_is }

-- a registration before an entry in the middle stands in the middle
registration_before : (f : Frame) (entries : List Entry) (c : KeptRun f entries) (m : List Entry) (key : ℕ) → Registration key (events (start_of f m)) → Registration key (events m)
registration_before f entries c m key r =
    ⊎_elim
    (λ (a : InFirst r.prefix r.event r.suffix f.before (events m)). absurd (plain f c.around r.prefix r.event (a.rest ++ f.after) (ap (λ x. x ++ f.after) a.is ∙ append_assoc r.prefix (r.event ∷ a.rest) f.after) r.dynamic))
    (λ (b : InSecond r.prefix r.event r.suffix f.before (events m)). record { prefix = b.start; event = r.event; suffix = r.suffix; is = b.more; dynamic = r.dynamic; key_is = r.key_is })
    (in_parts r.prefix r.event r.suffix f.before (events m) (sym (start_events f m) ∙ r.is))

-- the turn in which a key with an id was registered before, where its id belongs to the turn's unit
pub record RegisteredIn (f : Frame) (entries : List Entry) (c : KeptRun f entries) (key : ℕ) (id : List SegmentView) : Type 0 where
  pub prefix : List Turn
  pub turn : Turn
  pub suffix : List Turn
  pub is : c.ts ≡ prefix ++ turn ∷ suffix
  pub hit : Hit key turn.list
  pub belongs : f.owner id ≡ turn.unit

belongs_to : (f : Frame) (entries : List Entry) (c : KeptRun f entries) (p : List Turn) (t : Turn) (q : List Turn) (key : ℕ) (id : List SegmentView) → c.ts ≡ p ++ t ∷ q → Hit key t.list
    → HasId (record { table = f.table; entries = entries }) key id → f.owner id ≡ t.unit
belongs_to f entries c p t q key id is h its =
    let k = c.each p t q is in
    let o = own f t key k.1 h in
    let alone = same_id (record { table = f.table; entries = entries }) (run_alone f t.worker t.list) key id refl (turn_whole f entries c p t q key is h) its in
    ap f.owner (one_id (run_alone f t.worker t.list) key id o.id alone o.its) ∙ o.belongs

registered_in : (f : Frame) (entries : List Entry) (c : KeptRun f entries) (m n : List Entry) (key : ℕ) (id : List SegmentView) → c.mid ≡ m ++ n
    → HasId (record { table = f.table; entries = entries }) key id → Registration key (events m) → RegisteredIn f entries c key id
registered_in f entries c m n key id is its r =
    let e = entry_of m r.prefix r.event r.suffix r.is in
    let at : c.mid ≡ e.prefix ++ e.entry ∷ (e.suffix ++ n) = is ∙ ap (λ l. l ++ n) e.is ∙ append_assoc e.prefix (e.entry ∷ e.suffix) n in
    let t = turn_at f entries c e.prefix e.entry (e.suffix ++ n) at in
    let key_is : e.entry.event.key ≡ key = ap (λ (v : Event). v.key) e.event_is ∙ r.key_is in
    let hit : Hit key t.t.list = subst (λ k. Hit k t.t.list) key_is (its_hit f entries c e.prefix e.entry t) in
    record {
      prefix = t.starts.prefix;
      turn = t.t;
      suffix = t.starts.suffix;
      is = t.starts.turn;
      hit = hit;
      belongs = belongs_to f entries c t.starts.prefix t.t t.starts.suffix key id t.starts.turn hit its;
    }

entries_at : (f : Frame) (entries : List Entry) (c : KeptRun f entries) (m n : List Entry) → c.mid ≡ m ++ n → entries ≡ start_of f m ++ (n ++ entries_by 0 f.after)
entries_at f entries c m n is =
    c.whole ∙ ap (λ l. (entries_by 0 f.before ++ l) ++ entries_by 0 f.after) is
    ∙ ap (λ l. l ++ entries_by 0 f.after) (sym (append_assoc (entries_by 0 f.before) m n)) ∙ append_assoc (start_of f m) n (entries_by 0 f.after)

id_in_run : (f : Frame) (entries : List Entry) (c : KeptRun f entries) (xs ys : List Entry) (key : ℕ) (id : List SegmentView) → entries ≡ xs ++ ys
    → HasId (record { table = f.table; entries = xs }) key id → HasId (record { table = f.table; entries = entries }) key id
id_in_run f entries c xs ys key id is h = subst (λ l. HasId (record { table = f.table; entries = l }) key id) (sym is) (later_id f.table xs ys key id h)

pub new_mid : (f : Frame) (entries : List Entry) (c : KeptRun f entries) (m : List Entry) (x : Entry) (n : List Entry) → c.mid ≡ m ++ x ∷ n → New f.table (start_of f m) x
new_mid f entries c m x n is k =
    let t = turn_at f entries c m x n is in
    let each = c.each t.starts.prefix t.t t.starts.suffix t.starts.turn in
    let la = start_of f (entries_by t.t.worker t.a) in
    let alone = new_at (run_alone f t.t.worker t.t.list) la (alone_entry f entries c m x t) (entries_by t.t.worker t.b ++ entries_by 0 f.after) each.1.keeps (alone_split f entries c m x t) in
    let its = id_alone f entries c m x t k.id k.registered in
    let refute : HasId (record { table = f.table; entries = la }) k.earlier k.id → ⊥ = λ known. alone (record { dynamic = k.dynamic; id = k.id; registered = its; earlier = k.earlier; known = known }) in
    ⊎_elim
    (λ s. refute (record { descriptor = k.known.descriptor; described = from_table (record { table = f.table; entries = la }) k.earlier k.known.descriptor s; id_is = k.known.id_is }))
    (λ d.
    let r = registration_before f entries c m k.earlier (registration_of (start_of f m) k.earlier k.known.descriptor d.1) in
    let there = id_in_run f entries c (start_of f m) (x ∷ n ++ entries_by 0 f.after) k.earlier k.id (entries_at f entries c m (x ∷ n) is) k.known in
    let g = registered_in f entries c m (x ∷ n) k.earlier k.id is there r in
    let here = id_in_run f entries c (start_of f m ++ x ∷ []) (n ++ entries_by 0 f.after) x.event.key k.id
    (entries_at f entries c m (x ∷ n) is ∙ sym (append_assoc (start_of f m) (x ∷ []) (n ++ entries_by 0 f.after))) k.registered in
    let mine = belongs_to f entries c t.starts.prefix t.t t.starts.suffix x.event.key k.id t.starts.turn (its_hit f entries c m x t) here in
    let one = one_turn f entries c t.starts.prefix t.t t.starts.suffix g.prefix g.turn g.suffix t.starts.turn g.is (sym mine ∙ g.belongs) in
    let hit : Hit k.earlier t.t.list = subst (λ (v : Turn). Hit k.earlier v.list) one g.hit in
    let same = same_before f entries c m x t k.earlier (inl hit) in
    refute (same_id (record { table = f.table; entries = start_of f m }) (record { table = f.table; entries = la }) k.earlier k.id refl same k.known))
    (table_or_entry (record { table = f.table; entries = start_of f m }) k.earlier k.known.descriptor k.known.described)

-- ---- around the turns

pub around_split : (f : Frame) (p : List Entry) (x : Entry) (q : List Entry) → entries_by 0 f.before ≡ p ++ x ∷ q → (run_alone f 0 []).entries ≡ p ++ x ∷ (q ++ entries_by 0 f.after)
around_split f p x q is = ap (λ l. l ++ entries_by 0 f.after) (append-nil (entries_by 0 f.before) ∙ is) ∙ append_assoc p (x ∷ q) (entries_by 0 f.after)

pub after_split : (f : Frame) (p : List Entry) (x : Entry) (q : List Entry) → entries_by 0 f.after ≡ p ++ x ∷ q → (run_alone f 0 []).entries ≡ (entries_by 0 f.before ++ p) ++ x ∷ q
after_split f p x q is = ap₂ (λ a b. a ++ b) (append-nil (entries_by 0 f.before)) is ∙ sym (append_assoc (entries_by 0 f.before) p (x ∷ q))

pub after_events : (f : Frame) (p : List Entry) (x : Entry) (q : List Entry) → entries_by 0 f.after ≡ p ++ x ∷ q → f.after ≡ events p ++ x.event ∷ events q
after_events f p x q is = sym (events_by 0 f.after) ∙ ap events is ∙ events-append p (x ∷ q)

-- a key of an event around the turns has the same events before an entry after the turns, in the run and without the turns
same_after : (f : Frame) (entries : List Entry) (c : KeptRun f entries) (p : List Entry) (key : ℕ) → Hit key (f.before ++ f.after)
    → hits key (events (start_of f c.mid ++ p)) ≡ hits key (events (entries_by 0 f.before ++ p))
same_after f entries c p key h =
    let none = none_in_start f entries c c.mid [] key (sym (append-nil c.mid)) (none_common f entries c key h) in
    ap (hits key) (events-append (start_of f c.mid) p ∙ ap (λ l. l ++ events p) (start_events f c.mid))
    ∙ three key f.before (events c.mid) (events p)
    ∙ ap (λ l. (hits key f.before ++ l) ++ hits key (events p)) none
    ∙ ap (λ l. l ++ hits key (events p)) (append-nil (hits key f.before))
    ∙ sym (ap (hits key) (events-append (entries_by 0 f.before) p ∙ ap (λ l. l ++ events p) (events_by 0 f.before)) ∙ hits-append key f.before (events p))

pub hit_after : (f : Frame) (p : List Entry) (x : Entry) (q : List Entry) → entries_by 0 f.after ≡ p ++ x ∷ q → Hit x.event.key (f.before ++ f.after)
hit_after f p x q is = record {
  prefix = f.before ++ events p;
  event = x.event;
  suffix = events q;
  is = ap (λ l. f.before ++ l) (after_events f p x q is) ∙ sym (append_assoc f.before (events p) (x.event ∷ events q));
  key_is = refl;
}

pub running_hit : (f : Frame) (p : List Entry) (x : Entry) (q : List Entry) (key : ℕ) → entries_by 0 f.after ≡ p ++ x ∷ q → runs key (entries_by 0 f.before ++ p) ≡ true → Hit key (f.before ++ f.after)
running_hit f p x q key is r =
    let h = has_run (entries_by 0 f.before ++ p) key r in
    let parts : events (entries_by 0 f.before ++ p) ≡ f.before ++ events p = events-append (entries_by 0 f.before) p ∙ ap (λ l. l ++ events p) (events_by 0 f.before) in
    let whole : f.before ++ f.after ≡ (f.before ++ events p) ++ x.event ∷ events q = ap (λ l. f.before ++ l) (after_events f p x q is) ∙ sym (append_assoc f.before (events p) (x.event ∷ events q)) in
    ⊎_elim
    (λ n. absurd (no_split [] h.0 h.1
    (sym (ap (hits key) parts ∙ nil_left (hits key (f.before ++ events p)) (hits key (x.event ∷ events q))
    (sym (hits-append key (f.before ++ events p) (x.event ∷ events q)) ∙ ap (hits key) (sym whole) ∙ n)) ∙ h.2)))
    (λ o. o)
    (hit_or_none key (f.before ++ f.after))

-- what comes after the turns registers nothing
pub plain_after : (f : Frame) (p : List Entry) (x : Entry) (q : List Entry) → KeepsAround f → entries_by 0 f.after ≡ p ++ x ∷ q → is_dynamic x.event ≡ true → ⊥
unfolding hit_after
plain_after f p x q around is dynamic = let h = hit_after f p x q is in plain f around h.prefix h.event h.suffix h.is dynamic

new_after : (f : Frame) (entries : List Entry) (c : KeptRun f entries) (p : List Entry) (x : Entry) (q : List Entry) → entries_by 0 f.after ≡ p ++ x ∷ q → New f.table (start_of f c.mid ++ p) x
new_after f entries c p x q is k = plain_after f p x q c.around is k.dynamic

below_after : (f : Frame) (entries : List Entry) (c : KeptRun f entries) (p : List Entry) (x : Entry) (q : List Entry) → entries_by 0 f.after ≡ p ++ x ∷ q → Below f.table (start_of f c.mid ++ p) x
below_after f entries c p x q is id h long =
    let own = same_after f entries c p x.event.key (hit_after f p x q is) in
    let here = same_id (record { table = f.table; entries = (start_of f c.mid ++ p) ++ x ∷ [] }) (record { table = f.table; entries = (entries_by 0 f.before ++ p) ++ x ∷ [] }) x.event.key id refl
    (one_more x.event.key (start_of f c.mid ++ p) (entries_by 0 f.before ++ p) x x own refl) h in
    let it = below_at (run_alone f 0 []) (entries_by 0 f.before ++ p) x q c.around.keeps (after_split f p x q is) id here long in
    let same = same_after f entries c p it.0 (running_hit f p x q it.0 is it.2) in (
      it.0,
      same_id (record { table = f.table; entries = entries_by 0 f.before ++ p }) (record { table = f.table; entries = start_of f c.mid ++ p }) it.0 (parent_of id) refl (sym same) it.1,
      same_runs (start_of f c.mid ++ p) (entries_by 0 f.before ++ p) it.0 same ∙ it.2,
    )

-- ---- the whole

new_and_below : (f : Frame) (entries : List Entry) (c : KeptRun f entries) (p : List Entry) (x : Entry) (q : List Entry) → entries ≡ p ++ x ∷ q → New f.table p x × Below f.table p x
new_and_below f entries c p x q is =
    ⊎_elim
    (λ (a : InFirst p x q (start_of f c.mid) (entries_by 0 f.after)).
    ⊎_elim
    (λ (b : InFirst p x a.rest (entries_by 0 f.before) c.mid). (
      new_at (run_alone f 0 []) p x (b.rest ++ entries_by 0 f.after) c.around.keeps (around_split f p x b.rest b.is),
      below_at (run_alone f 0 []) p x (b.rest ++ entries_by 0 f.after) c.around.keeps (around_split f p x b.rest b.is),
    ))
    (λ (b : InSecond p x a.rest (entries_by 0 f.before) c.mid).
    subst (λ l. New f.table l x × Below f.table l x) (sym b.is) (new_mid f entries c b.start x a.rest b.more, below_mid f entries c b.start x a.rest b.more))
    (in_parts p x a.rest (entries_by 0 f.before) c.mid a.is))
    (λ (a : InSecond p x q (start_of f c.mid) (entries_by 0 f.after)).
    subst (λ l. New f.table l x × Below f.table l x) (sym a.is) (new_after f entries c a.start x q a.more, below_after f entries c a.start x q a.more))
    (in_parts p x q (start_of f c.mid) (entries_by 0 f.after) (sym c.whole ∙ is))

steps_whole : (f : Frame) (entries : List Entry) (c : KeptRun f entries) (key : ℕ) → IsWhole (steps_of key entries)
steps_whole f entries c key =
    ⊎_elim
    (λ n. ⊎_elim
    (λ m.
    let none = none_in_start f entries c c.mid [] key (sym (append-nil c.mid)) m in
    let same = same_whole f entries c 0 key [] none in
    subst IsWhole (sym (same_steps entries (run_alone f 0 []).entries key same)) (c.around.keeps.whole key))
    (λ (g : Gives (hits_of key) c.ts).
    let k = c.each g.prefix g.one g.suffix g.is in
    let same = turn_whole f entries c g.prefix g.one g.suffix key g.is (given_hit key g.one g.first g.rest g.given) in
    subst IsWhole (sym (same_steps entries (run_alone f g.one.worker g.one.list).entries key same)) (k.1.keeps.whole key))
    (none_or_one (hits_of key) c.ts))
    (λ h.
    let none = none_in_start f entries c c.mid [] key (sym (append-nil c.mid)) (none_common f entries c key h) in
    let same = same_whole f entries c 0 key [] none in
    subst IsWhole (sym (same_steps entries (run_alone f 0 []).entries key same)) (c.around.keeps.whole key))
    (hit_or_none key (f.before ++ f.after))

pub kept : (f : Frame) (entries : List Entry) → KeptRun f entries → KeepsLifecycle (record { table = f.table; entries = entries })
kept f entries c = record {
  ids = λ p x get. let s = get_split entries p x get in (new_and_below f entries c (take p entries) x s.0 s.1).0;
  below = λ p x get. let s = get_split entries p x get in (new_and_below f entries c (take p entries) x s.0 s.1).1;
  whole = steps_whole f entries c;
}

-- a run of an engine whose units keep the lifecycle
abbrev pub kept_run : (f : Frame) (may : ℕ → ℕ → ℕ → List Event → Type 0) (workers : ℕ) (r : Recorded) → UnitsKeepLifecycle f may
    → IsRun may f.table f.before f.after f.units workers r → IsRecord r → KeptRun f r.entries
kept_run f may workers r units run lawful =
    let t = turned may f.units workers run.mid run.shared in
    let same : record { table = f.table; entries = r.entries } ≡ r = ap (λ table. record { table = table; entries = r.entries }) (sym run.over) in
    record {
      lawful = subst IsRecord (sym same) lawful;
      around = units.around;
      mid = run.mid;
      whole = run.whole;
      ts = t.ts;
      each = λ p x q is. let e = t.each p x q is in (e.0, units.each x.unit x.worker e.1.0 x.list e.0 e.1.1);
      apart = t.apart;
      emits = t.emits;
    }

-- the law
pub runs_keep : (f : Frame) (may : ℕ → ℕ → ℕ → List Event → Type 0) (workers : ℕ) (r : Recorded) → UnitsKeepLifecycle f may
    → IsRun may f.table f.before f.after f.units workers r → IsRecord r → KeepsLifecycle r
runs_keep f may workers r units run lawful =
    let same : record { table = f.table; entries = r.entries } ≡ r = ap (λ table. record { table = table; entries = r.entries }) (sym run.over) in
    subst KeepsLifecycle same (kept f r.entries (kept_run f may workers r units run lawful))
