-- The starts, skips and finishes of a key as a list of kinds.
use Rattle.std.proofs.Common.{◌≡◌, ℕ, zero, suc, ◌⊎◌, ⊎_elim, inl, inr, Bool, true, false, ◌&&◌, ◌||◌, not, List, [], ◌∷◌, ◌++◌, take, drop, Some, refl, sym, ap, ◌∙◌, subst, eq-eqb}
use Rattle.std.specs.Prelude.{◌==◌, if◌then◌else◌, slice_get}
use Rattle.std.specs.List.{list_any}
use Rattle.std.proofs.lemmas.Bool.{true≢false}
use Rattle.std.proofs.lemmas.Option.{same_Some, none-some}
use Rattle.tk_events.specs.declared.kinds.Kind.{Kind}
use Rattle.tk_events.specs.declared.kinds.Kind.TheVariants.{Dynamic, Skipped, Started, Finished, Reporting, File}
use Rattle.tk_events.specs.declared.events.Entry.{Entry}
use Rattle.tk_events.specs.Event.{kind_code}
use Rattle.tk_query_lifecycle.specs.Lifecycle.{has_event, has_run, runs}
use Rattle.tk_query_lifecycle.specs.KeepsLifecycle.{is_step, steps_of, IsWhole}

-- whether a kind is among these
abbrev pub has : Kind → List Kind → Bool
has kind ks = list_any (λ k. kind_code k == kind_code kind) ks

abbrev pub IsStep : Kind → Type 0
IsStep Started = Unit {0}
IsStep Skipped = Unit {0}
IsStep Finished = Unit {0}
IsStep Dynamic = ⊥
IsStep Reporting = ⊥
IsStep File = ⊥

cell : (kind : Kind) → IsStep kind → (k : Kind) (same : Bool) (ks : List Kind) (b : Bool) → b ≡ has kind ks → (((kind_code k == kind_code kind) && same) || b) ≡ has kind (if is_step k && same then k ∷ ks else ks)
cell Dynamic s k same ks b e = absurd s
cell Reporting s k same ks b e = absurd s
cell File s k same ks b e = absurd s
cell Started s Started true ks b e = refl
cell Skipped s Skipped true ks b e = refl
cell Finished s Finished true ks b e = refl
cell Started s Started false ks b e = e
cell Started s Skipped true ks b e = e
cell Started s Skipped false ks b e = e
cell Started s Finished true ks b e = e
cell Started s Finished false ks b e = e
cell Started s Dynamic same ks b e = plain same
  where
    plain : (same : Bool) → ((false && same) || b) ≡ has Started (if false && same then Dynamic ∷ ks else ks)
    plain same = e
cell Started s Reporting same ks b e = e
cell Started s File same ks b e = e
cell Skipped s Skipped false ks b e = e
cell Skipped s Started true ks b e = e
cell Skipped s Started false ks b e = e
cell Skipped s Finished true ks b e = e
cell Skipped s Finished false ks b e = e
cell Skipped s Dynamic same ks b e = e
cell Skipped s Reporting same ks b e = e
cell Skipped s File same ks b e = e
cell Finished s Finished false ks b e = e
cell Finished s Started true ks b e = e
cell Finished s Started false ks b e = e
cell Finished s Skipped true ks b e = e
cell Finished s Skipped false ks b e = e
cell Finished s Dynamic same ks b e = e
cell Finished s Reporting same ks b e = e
cell Finished s File same ks b e = e

pub has_steps : (kind : Kind) → IsStep kind → (key : ℕ) (es : List Entry) → has_event kind key es ≡ has kind (steps_of key es)
has_steps kind s key [] = refl
has_steps kind s key (e ∷ es) = cell kind s e.event.kind (e.event.key == key) (steps_of key es) (has_event kind key es) (has_steps kind s key es)

pub has_run_steps : (key : ℕ) (es : List Entry) → has_run key es ≡ (has Started (steps_of key es) || has Skipped (steps_of key es))
has_run_steps key es = ap (λ b. b || has_event Skipped key es) (has_steps Started tt key es) ∙ ap (λ b. has Started (steps_of key es) || b) (has_steps Skipped tt key es)

pub runs_steps : (key : ℕ) (es : List Entry) → runs key es ≡ (has Started (steps_of key es) && not (has Finished (steps_of key es)))
runs_steps key es = ap (λ b. b && not (has_event Finished key es)) (has_steps Started tt key es) ∙ ap (λ b. has Started (steps_of key es) && not b) (has_steps Finished tt key es)

pub steps_append : (key : ℕ) (xs ys : List Entry) → steps_of key (xs ++ ys) ≡ steps_of key xs ++ steps_of key ys
steps_append key [] ys = refl
steps_append key (x ∷ xs) ys =
    elim (is_step x.event.kind && (x.event.key == key)) as (λ b. (if b then x.event.kind ∷ steps_of key (xs ++ ys) else steps_of key (xs ++ ys)) ≡ (if b then x.event.kind ∷ steps_of key xs else steps_of key xs) ++ steps_of key ys) [
      | true ↦ ap (λ l. x.event.kind ∷ l) (steps_append key xs ys)
      | false ↦ steps_append key xs ys
    ]

pub split_at : (es : List Entry) (p : ℕ) (e : Entry) → slice_get es p ≡ Some e → es ≡ take p es ++ e ∷ drop (suc p) es
split_at [] p e at = absurd (none-some e at)
split_at (x ∷ es) zero e at = ap (λ y. y ∷ es) (same_Some x e at)
split_at (x ∷ es) (suc p) e at = ap (λ l. x ∷ l) (split_at es p e at)

-- the steps of a key before an event of it, its own one, and those after it
pub steps_at : (es : List Entry) (p : ℕ) (e : Entry) → slice_get es p ≡ Some e → is_step e.event.kind ≡ true
    → steps_of e.event.key es ≡ steps_of e.event.key (take p es) ++ e.event.kind ∷ steps_of e.event.key (drop (suc p) es)
steps_at es p e at step =
    ap (steps_of e.event.key) (split_at es p e at) ∙ steps_append e.event.key (take p es) (e ∷ drop (suc p) es)
    ∙ ap (λ b. steps_of e.event.key (take p es) ++ (if b && (e.event.key == e.event.key) then e.event.kind ∷ steps_of e.event.key (drop (suc p) es) else steps_of e.event.key (drop (suc p) es))) step
    ∙ ap (λ b. steps_of e.event.key (take p es) ++ (if b then e.event.kind ∷ steps_of e.event.key (drop (suc p) es) else steps_of e.event.key (drop (suc p) es))) (eq-eqb e.event.key e.event.key refl)

-- nothing, a skip, a start, or a start and a finish
pub data SoFar (ks : List Kind) : Type 0 where
  nothing : ks ≡ [] → SoFar ks
  skip : ks ≡ Skipped ∷ [] → SoFar ks
  start : ks ≡ Started ∷ [] → SoFar ks
  run : ks ≡ Started ∷ Finished ∷ [] → SoFar ks

-- one more step
pub begin_more : (ks : List Kind) (kind : Kind) → SoFar ks → (has Started ks || has Skipped ks) ≡ false → (kind ≡ Started) ⊎ (kind ≡ Skipped) → SoFar (ks ++ kind ∷ [])
begin_more ks kind (nothing is) none (inl at) = start (ap (λ l. l ++ kind ∷ []) is ∙ ap (λ k. k ∷ []) at)
begin_more ks kind (nothing is) none (inr at) = skip (ap (λ l. l ++ kind ∷ []) is ∙ ap (λ k. k ∷ []) at)
begin_more ks kind (skip is) none at = absurd (true≢false (sym (ap (λ l. has Started l || has Skipped l) is) ∙ none))
begin_more ks kind (start is) none at = absurd (true≢false (sym (ap (λ l. has Started l || has Skipped l) is) ∙ none))
begin_more ks kind (run is) none at = absurd (true≢false (sym (ap (λ l. has Started l || has Skipped l) is) ∙ none))

pub end_more : (ks : List Kind) → SoFar ks → (has Started ks && not (has Finished ks)) ≡ true → SoFar (ks ++ Finished ∷ [])
end_more ks (nothing is) runs = absurd (true≢false (sym runs ∙ ap (λ l. has Started l && not (has Finished l)) is))
end_more ks (skip is) runs = absurd (true≢false (sym runs ∙ ap (λ l. has Started l && not (has Finished l)) is))
end_more ks (start is) runs = run (ap (λ l. l ++ Finished ∷ []) is)
end_more ks (run is) runs = absurd (true≢false (sym runs ∙ ap (λ l. has Started l && not (has Finished l)) is))

pub whole_at_end : (ks : List Kind) → SoFar ks → (has Started ks && not (has Finished ks)) ≡ false → IsWhole ks
whole_at_end ks (nothing is) rests = subst IsWhole (sym is) tt
whole_at_end ks (skip is) rests = subst IsWhole (sym is) tt
whole_at_end ks (start is) rests = absurd (true≢false (sym (ap (λ l. has Started l && not (has Finished l)) is) ∙ rests))
whole_at_end ks (run is) rests = subst IsWhole (sym is) tt

-- the three whole lists
pub data Whole (ks : List Kind) : Type 0 where
  none : ks ≡ [] → Whole ks
  skipped : ks ≡ Skipped ∷ [] → Whole ks
  ran : ks ≡ Started ∷ Finished ∷ [] → Whole ks

pub to_whole : (ks : List Kind) → IsWhole ks → Whole ks
to_whole [] h = none refl
to_whole (Skipped ∷ []) h = skipped refl
to_whole (Started ∷ Finished ∷ []) h = ran refl
to_whole _ h = absurd h

pub whole_rests : (ks : List Kind) → Whole ks → (has Started ks && not (has Finished ks)) ≡ false
whole_rests ks (none is) = ap (λ l. has Started l && not (has Finished l)) is
whole_rests ks (skipped is) = ap (λ l. has Started l && not (has Finished l)) is
whole_rests ks (ran is) = ap (λ l. has Started l && not (has Finished l)) is

nil_split : (pre : List Kind) (kind : Kind) (post : List Kind) → [] ≡ pre ++ kind ∷ post → ⊥
nil_split [] kind post e = cc
nil_split (x ∷ pre) kind post e = cc

skip_split : (pre : List Kind) (kind : Kind) (post : List Kind) → Skipped ∷ [] ≡ pre ++ kind ∷ post → (pre ≡ []) × (kind ≡ Skipped)
skip_split [] kind post e = (refl, cc)
skip_split (x ∷ []) kind post e = cc
skip_split (x ∷ y ∷ pre) kind post e = cc

ran_split : (pre : List Kind) (kind : Kind) (post : List Kind) → Started ∷ Finished ∷ [] ≡ pre ++ kind ∷ post → ((pre ≡ []) × (kind ≡ Started)) ⊎ ((pre ≡ Started ∷ []) × (kind ≡ Finished))
ran_split [] kind post e = inl (refl, cc)
ran_split (x ∷ []) kind post e = inr (cc, cc)
ran_split (x ∷ y ∷ []) kind post e = cc
ran_split (x ∷ y ∷ z ∷ pre) kind post e = cc

finished_begins : (kind : Kind) → kind ≡ Finished → (kind ≡ Started) ⊎ (kind ≡ Skipped) → ⊥
finished_begins kind at (inl is) = cc
finished_begins kind at (inr is) = cc

-- a start or a skip within a whole list has no start or skip before it
pub no_begin_before : (pre : List Kind) (kind : Kind) (post ks : List Kind) → Whole ks → ks ≡ pre ++ kind ∷ post → (kind ≡ Started) ⊎ (kind ≡ Skipped) → (has Started pre || has Skipped pre) ≡ true → ⊥
no_begin_before pre kind post ks (none e) is at some = nil_split pre kind post (sym e ∙ is)
no_begin_before pre kind post ks (skipped e) is at some = true≢false (sym some ∙ ap (λ l. has Started l || has Skipped l) (skip_split pre kind post (sym e ∙ is)).0)
no_begin_before pre kind post ks (ran e) is at some = ⊎_elim {C = ⊥}
    (λ (h : (pre ≡ []) × (kind ≡ Started)). true≢false (sym some ∙ ap (λ l. has Started l || has Skipped l) h.0))
    (λ (h : (pre ≡ Started ∷ []) × (kind ≡ Finished)). finished_begins kind h.1 at)
    (ran_split pre kind post (sym e ∙ is))

skipped_finished : Finished ≡ Skipped → ⊥
skipped_finished e = cc

started_finished : Finished ≡ Started → ⊥
started_finished e = cc

-- a finish within a whole list has a start before it, and no finish
pub end_runs : (pre post ks : List Kind) → Whole ks → ks ≡ pre ++ Finished ∷ post → (has Started pre && not (has Finished pre)) ≡ true
end_runs pre post ks (none e) is = absurd (nil_split pre Finished post (sym e ∙ is))
end_runs pre post ks (skipped e) is = absurd (skipped_finished (skip_split pre Finished post (sym e ∙ is)).1)
end_runs pre post ks (ran e) is = ⊎_elim {C = (has Started pre && not (has Finished pre)) ≡ true}
    (λ (h : (pre ≡ []) × (Finished ≡ Started)). absurd (started_finished h.1))
    (λ (h : (pre ≡ Started ∷ []) × (Finished ≡ Finished)). ap (λ l. has Started l && not (has Finished l)) h.0)
    (ran_split pre Finished post (sym e ∙ is))

-- where a key runs after the first part of a whole list, the finish is in the rest
pub later_finish : (pre post ks : List Kind) → Whole ks → ks ≡ pre ++ post → (has Started pre && not (has Finished pre)) ≡ true → has Finished post ≡ true
later_finish [] post ks w is runs = absurd (true≢false (sym runs))
later_finish (x ∷ []) post ks (none e) is runs = absurd (cons_nil x post (sym e ∙ is))
  where
    cons_nil : (x : Kind) (l : List Kind) → [] ≡ x ∷ l → ⊥
    cons_nil x l e = cc
later_finish (x ∷ []) post ks (skipped e) is runs = absurd (true≢false (sym runs ∙ ap (λ k. has Started (k ∷ []) && not (has Finished (k ∷ []))) (first_is x post (sym e ∙ is))))
  where
    first_is : (x : Kind) (l : List Kind) → Skipped ∷ [] ≡ x ∷ l → x ≡ Skipped
    first_is x l e = cc
later_finish (x ∷ []) post ks (ran e) is runs = ap (has Finished) (rest_is x post (sym e ∙ is))
  where
    rest_is : (x : Kind) (l : List Kind) → Started ∷ Finished ∷ [] ≡ x ∷ l → l ≡ Finished ∷ []
    rest_is x l e = cc
later_finish (x ∷ y ∷ pre) post ks (none e) is runs = absurd (cons_nil x y (pre ++ post) (sym e ∙ is))
  where
    cons_nil : (x y : Kind) (l : List Kind) → [] ≡ x ∷ y ∷ l → ⊥
    cons_nil x y l e = cc
later_finish (x ∷ y ∷ pre) post ks (skipped e) is runs = absurd (cons_one x y (pre ++ post) (sym e ∙ is))
  where
    cons_one : (x y : Kind) (l : List Kind) → Skipped ∷ [] ≡ x ∷ y ∷ l → ⊥
    cons_one x y l e = cc
later_finish (x ∷ y ∷ pre) post ks (ran e) is runs =
    let s = both_are x y (pre ++ post) (sym e ∙ is) in
    absurd (true≢false (sym runs ∙ ap (λ l. has Started l && not (has Finished l)) (ap (λ k. k ∷ y ∷ pre) s.0 ∙ ap (λ k. Started ∷ k ∷ pre) s.1)))
  where
    both_are : (x y : Kind) (l : List Kind) → Started ∷ Finished ∷ [] ≡ x ∷ y ∷ l → (x ≡ Started) × (y ≡ Finished)
    both_are x y l e = (cc, cc)
