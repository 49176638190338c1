-- A unit that has emitted what keeps the lifecycle, and of which no key runs, keeps it alone.
use Rattle.std.proofs.Common.{◌≡◌, ◌<◌, ℕ, ⊎_elim, List, [], ◌∷◌, ◌++◌, take, All, refl, sym, ap, ap₂, ◌∙◌, subst, append-nil, arith}
use Rattle.std.proofs.lemmas.List.Elements.{All-weaker}
use Rattle.tk_base.proofs.Lists.{nil_left, nil_right}
use Rattle.tk_ids.specs.IdText.{SegmentView, parent_of}
use Rattle.tk_events.specs.declared.events.Event.{Event}
use Rattle.tk_events.specs.declared.events.Entry.{Entry}
use Rattle.tk_queue_session.specs.Emission.{entries_by, entry_by}
use Rattle.tk_query_lifecycle.specs.Lifecycle.{HasId}
use Rattle.tk_query_lifecycle.specs.KeepsLifecycle.{IsWhole, steps_of}
use Rattle.tk_engine_lifecycle.specs.Units.{Frame, AreOf, KeepsAlone, KeepsAround, run_alone}
use Rattle.tk_engine_lifecycle.proofs.States.{state}
use Rattle.tk_engine_lifecycle.specs.UnderWay.{IsUnderWay, so_far}
use Rattle.tk_engine_lifecycle.proofs.Splits.{InFirst, InSecond, get_split, in_parts}
use Rattle.tk_engine_lifecycle.proofs.ByKey.{events, events-append, events_by, from_table, hits, hits-append, later_id, one_id, same_id, same_runs, same_steps}
use Rattle.tk_engine_lifecycle.proofs.SeparateTurns.{Hit, all_at, alone_events, common, hit_or_none}
use Rattle.tk_engine_lifecycle.proofs.WholeRuns.{after_split, around_split, hit_after, plain_after, running_hit, three}
use Rattle.tk_engine_lifecycle.proofs.Kept.{Below, New, below_at, new_at, one_more, start_events, start_of}

-- ---- an event of the unit has no key of an event around it

pub own_id : (f : Frame) (unit w : ℕ) (l : List Event) (key : ℕ) → AreOf (λ id. f.owner id ≡ unit) (so_far f w l) l → Hit key l
    → (id : List SegmentView) × HasId (so_far f w l) key id × (f.owner id ≡ unit)
own_id f unit w l key own h =
    let of = all_at (λ e. (id : List SegmentView) × HasId (so_far f w l) e.key id × (f.owner id ≡ unit)) h.prefix h.event h.suffix
    (subst (All (λ e. (id : List SegmentView) × HasId (so_far f w l) e.key id × (f.owner id ≡ unit))) h.is own) in
    (of.0, subst (λ k. HasId (so_far f w l) k of.0) h.key_is of.1, of.2)

pub common_not_own : (f : Frame) (unit w : ℕ) (l : List Event) (key : ℕ) → KeepsAround f → unit < f.units → AreOf (λ id. f.owner id ≡ unit) (so_far f w l) l
    → Hit key (f.before ++ f.after) → Hit key l → ⊥
common_not_own f unit w l key around low own h k =
    let c = common f key around h in
    let o = own_id f unit w l key own k in
    let its : HasId (so_far f w l) key c.descriptor.id = record { descriptor = c.descriptor; described = from_table (so_far f w l) key c.descriptor c.described; id_is = refl } in
    let same = one_id (so_far f w l) key c.descriptor.id o.0 its o.1 in
    let owner : f.owner c.descriptor.id ≡ unit = ap f.owner same ∙ o.2 in
    omega (arith, c.belongs, owner, low)

pub no_own : (f : Frame) (unit w : ℕ) (l : List Event) (key : ℕ) → KeepsAround f → unit < f.units → AreOf (λ id. f.owner id ≡ unit) (so_far f w l) l
    → Hit key (f.before ++ f.after) → hits key l ≡ []
no_own f unit w l key around low own h = ⊎_elim (λ n. n) (λ k. absurd (common_not_own f unit w l key around low own h k)) (hit_or_none key l)

-- ---- an entry of a worker is one of its events

pub record ByWorker (w : ℕ) (l : List Event) (p : List Entry) (x : Entry) : Type 0 where
  pub before : List Event
  pub event : Event
  pub after : List Event
  pub is : l ≡ before ++ event ∷ after
  pub prefix : p ≡ entries_by w before
  pub entry : x ≡ entry_by w event

pub by_worker : (w : ℕ) (l : List Event) (p : List Entry) (x : Entry) (q : List Entry) → entries_by w l ≡ p ++ x ∷ q → ByWorker w l p x
by_worker w [] [] x q e = cc
by_worker w [] (y ∷ p) x q e = cc
by_worker w (v ∷ l) [] x q e = let same : entry_by w v ≡ x = cc in record { before = []; event = v; after = l; is = refl; prefix = refl; entry = sym same }
by_worker w (v ∷ l) (y ∷ p) x q e =
    let first : entry_by w v ≡ y = cc in
    let rest : entries_by w l ≡ p ++ x ∷ q = cc in
    let m = by_worker w l p x q rest in
    record { before = v ∷ m.before; event = m.event; after = m.after; is = ap (λ z. v ∷ z) m.is; prefix = ap₂ (λ a b. a ∷ b) (sym first) m.prefix; entry = m.entry }

-- ---- after the unit's events

same_after : (f : Frame) (w : ℕ) (l : List Event) (p : List Entry) (key : ℕ) → hits key l ≡ []
    → hits key (events (start_of f (entries_by w l) ++ p)) ≡ hits key (events (entries_by 0 f.before ++ p))
same_after f w l p key none =
    ap (hits key) (events-append (start_of f (entries_by w l)) p ∙ ap (λ x. x ++ events p) (start_events f (entries_by w l) ∙ ap (λ x. f.before ++ x) (events_by w l)))
    ∙ three key f.before l (events p)
    ∙ ap (λ x. (hits key f.before ++ x) ++ hits key (events p)) none
    ∙ ap (λ x. x ++ hits key (events p)) (append-nil (hits key f.before))
    ∙ sym (ap (hits key) (events-append (entries_by 0 f.before) p ∙ ap (λ x. x ++ events p) (events_by 0 f.before)) ∙ hits-append key f.before (events p))

below_after : (f : Frame) (unit w : ℕ) (l : List Event) → KeepsAround f → unit < f.units → AreOf (λ id. f.owner id ≡ unit) (so_far f w l) l
    → (p : List Entry) (x : Entry) (q : List Entry) → entries_by 0 f.after ≡ p ++ x ∷ q → Below f.table (start_of f (entries_by w l) ++ p) x
below_after f unit w l around low own p x q is id h long =
    let mine = same_after f w l p x.event.key (no_own f unit w l x.event.key around low own (hit_after f p x q is)) in
    let here = same_id (record { table = f.table; entries = (start_of f (entries_by w l) ++ p) ++ x ∷ [] }) (record { table = f.table; entries = (entries_by 0 f.before ++ p) ++ x ∷ [] }) x.event.key id refl
    (one_more x.event.key (start_of f (entries_by w l) ++ p) (entries_by 0 f.before ++ p) x x mine refl) h in
    let it = below_at (run_alone f 0 []) (entries_by 0 f.before ++ p) x q around.keeps (after_split f p x q is) id here long in
    let same = same_after f w l p it.0 (no_own f unit w l it.0 around low own (running_hit f p x q it.0 is it.2)) in (
      it.0,
      same_id (record { table = f.table; entries = entries_by 0 f.before ++ p }) (record { table = f.table; entries = start_of f (entries_by w l) ++ p }) it.0 (parent_of id) refl (sym same) it.1,
      same_runs (start_of f (entries_by w l) ++ p) (entries_by 0 f.before ++ p) it.0 same ∙ it.2,
    )

new_after : (f : Frame) → KeepsAround f → (s p : List Entry) (x : Entry) (q : List Entry) → entries_by 0 f.after ≡ p ++ x ∷ q → New f.table (s ++ p) x
new_after f around s p x q is k = plain_after f p x q around is k.dynamic

of_unit : (f : Frame) (unit w : ℕ) (l : List Event) → IsUnderWay (state f unit w l []) → (p : List Entry) (x : Entry) (q : List Entry) → entries_by w l ≡ p ++ x ∷ q
    → New f.table (start_of f p) x × Below f.table (start_of f p) x
of_unit f unit w l u p x q is =
    let b = by_worker w l p x q is in
    let m = u.each b.before b.event b.after b.is in
    subst (λ y. New f.table (start_of f p) y × Below f.table (start_of f p) y) (sym b.entry)
    (subst (λ s. New f.table (start_of f s) (entry_by w b.event) × Below f.table (start_of f s) (entry_by w b.event)) (sym b.prefix) (m.new, m.below))

new_and_below : (f : Frame) (unit w : ℕ) (l : List Event) → KeepsAround f → unit < f.units → IsUnderWay (state f unit w l [])
    → (p : List Entry) (x : Entry) (q : List Entry) → (run_alone f w l).entries ≡ p ++ x ∷ q → New f.table p x × Below f.table p x
new_and_below f unit w l around low u p x q is =
    ⊎_elim
    (λ (a : InFirst p x q (start_of f (entries_by w l)) (entries_by 0 f.after)).
    ⊎_elim
    (λ (b : InFirst p x a.rest (entries_by 0 f.before) (entries_by w l)). (
      new_at (run_alone f 0 []) p x (b.rest ++ entries_by 0 f.after) around.keeps (around_split f p x b.rest b.is),
      below_at (run_alone f 0 []) p x (b.rest ++ entries_by 0 f.after) around.keeps (around_split f p x b.rest b.is),
    ))
    (λ (b : InSecond p x a.rest (entries_by 0 f.before) (entries_by w l)).
    subst (λ s. New f.table s x × Below f.table s x) (sym b.is) (of_unit f unit w l u b.start x a.rest b.more))
    (in_parts p x a.rest (entries_by 0 f.before) (entries_by w l) a.is))
    (λ (a : InSecond p x q (start_of f (entries_by w l)) (entries_by 0 f.after)).
    subst (λ s. New f.table s x × Below f.table s x) (sym a.is)
    (new_after f around (start_of f (entries_by w l)) a.start x q a.more, below_after f unit w l around low u.own a.start x q a.more))
    (in_parts p x q (start_of f (entries_by w l)) (entries_by 0 f.after) is)

alone_hits : (f : Frame) (w : ℕ) (l : List Event) (key : ℕ) → hits key (events (run_alone f w l).entries) ≡ (hits key f.before ++ hits key l) ++ hits key f.after
alone_hits f w l key = ap (hits key) (alone_events f w l) ∙ three key f.before l f.after

whole_alone : (f : Frame) (unit w : ℕ) (l : List Event) → KeepsAround f → unit < f.units → IsUnderWay (state f unit w l []) → (key : ℕ) → IsWhole (steps_of key (run_alone f w l).entries)
whole_alone f unit w l around low u key =
    ⊎_elim
    (λ n.
    let parts = sym (hits-append key f.before f.after) ∙ n in
    let same : hits key (events (run_alone f w l).entries) ≡ hits key (events (entries_by w l))
    = alone_hits f w l key
    ∙ ap₂ (λ a b. (a ++ hits key l) ++ b) (nil_left (hits key f.before) (hits key f.after) parts)
    (nil_right (hits key f.before) (hits key f.after) parts)
    ∙ append-nil (hits key l) ∙ ap (hits key) (sym (events_by w l)) in
    subst IsWhole (sym (same_steps (run_alone f w l).entries (entries_by w l) key same)) (u.whole key (λ h. h)))
    (λ h.
    let none = no_own f unit w l key around low u.own h in
    let same : hits key (events (run_alone f w l).entries) ≡ hits key (events (run_alone f 0 []).entries)
    = alone_hits f w l key ∙ ap (λ x. (hits key f.before ++ x) ++ hits key f.after) none ∙ sym (alone_hits f 0 [] key) in
    subst IsWhole (sym (same_steps (run_alone f w l).entries (run_alone f 0 []).entries key same)) (around.keeps.whole key))
    (hit_or_none key (f.before ++ f.after))

own_alone : (f : Frame) (unit w : ℕ) (l : List Event) → (es : List Event) → AreOf (λ id. f.owner id ≡ unit) (so_far f w l) es → AreOf (λ id. f.owner id ≡ unit) (run_alone f w l) es
own_alone f unit w l es own = All-weaker (λ e. (id : List SegmentView) × HasId (so_far f w l) e.key id × (f.owner id ≡ unit)) (λ e. (id : List SegmentView) × HasId (run_alone f w l) e.key id × (f.owner id ≡ unit))
    (λ e h. (h.0, later_id f.table (start_of f (entries_by w l)) (entries_by 0 f.after) e.key h.0 h.1, h.2)) es own

-- what a unit emits that keeps the lifecycle and ends where no key runs keeps it alone
pub closes : (f : Frame) (unit w : ℕ) (l : List Event) → KeepsAround f → unit < f.units → IsUnderWay (state f unit w l []) → KeepsAlone f unit w l
closes f unit w l around low u = record {
  keeps = record {
    ids = λ p x get. let s = get_split (run_alone f w l).entries p x get in (new_and_below f unit w l around low u (take p (run_alone f w l).entries) x s.0 s.1).0;
    below = λ p x get. let s = get_split (run_alone f w l).entries p x get in (new_and_below f unit w l around low u (take p (run_alone f w l).entries) x s.0 s.1).1;
    whole = whole_alone f unit w l around low u;
  };
  own = own_alone f unit w l l u.own;
}
