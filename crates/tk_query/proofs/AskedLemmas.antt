-- The events that are asked, beside the flags that say which they are.
use Rattle.std.proofs.Common.{◌≡◌, ℕ, zero, suc, ◌+◌, ◌<◌, ◌≤◌, Bool, true, false, cond, eq-eqb, List, [], ◌∷◌, get_or, map, Option, Some, None, MatchOption, refl, sym, ap, ◌∙◌, subst, arith, ⊎_elim, zero-add}
use Rattle.std.specs.Prelude.{if◌then◌else◌}
use Rattle.std.specs.List.{items_where_true, filter, slice_get}
use Rattle.std.specs.Option.{option_and_then}
use Rattle.std.proofs.lemmas.Bool.{cases_lt, ne_eqb, true≢false}
use Rattle.std.proofs.lemmas.Option.{same_Some, none-some}
use Rattle.tk_lanes.specs.Flags.{IsNextSet, IsNoneSet}
use Rattle.tk_events.specs.declared.events.Entry.{Entry}
use Rattle.tk_record.specs.Recorded.{Recorded}
use Rattle.tk_record.specs.Selections.{PositionedEntry, Selected, positioned, positioned_from}
use Rattle.tk_query_conditions.specs.declared.conditions.Condition.{Condition}
use Rattle.tk_query.specs.declared.execution_steps.ExecutionStep.{ExecutionStep}
use Rattle.tk_query.specs.ExecutionSteps.{step_of, step_at}
use Rattle.tk_query.specs.Holds.{holds}
use Rattle.tk_query.specs.Asked.{event_at, is_there, fits}
use Rattle.tk_query.specs.InOrder.{IsNextFit, HasNoFit}

-- the entry at a place, where its flag is set
abbrev entry_in : List Bool → List Entry → ℕ → Option Entry
entry_in (f ∷ flags) (e ∷ es) zero = if f then Some e else None
entry_in (f ∷ flags) (e ∷ es) (suc i) = entry_in flags es i
entry_in _ _ i = None

-- no event stands before the first place
event_below : (flags : List Bool) (es : List Entry) (n q : ℕ) → q < n → event_at (items_where_true flags (positioned_from n es)) q ≡ None
unfolding positioned_from
event_below [] es n q lt = refl
event_below (f ∷ flags) [] n q lt = refl
event_below (true ∷ flags) (e ∷ es) n q lt =
    ap (λ b. if b then Some e else event_at (items_where_true flags (positioned_from (n + 1) es)) q) (ne_eqb n q (λ same. omega arith)) ∙ event_below flags es (n + 1) q (omega arith)
event_below (false ∷ flags) (e ∷ es) n q lt = event_below flags es (n + 1) q (omega arith)

event_positioned : (flags : List Bool) (es : List Entry) (n i q : ℕ) → q ≡ n + i → event_at (items_where_true flags (positioned_from n es)) q ≡ entry_in flags es i
unfolding positioned_from
event_positioned [] es n i q at = refl
event_positioned (f ∷ flags) [] n i q at = refl
event_positioned (true ∷ flags) (e ∷ es) n zero q at =
    ap (λ b. if b then Some e else event_at (items_where_true flags (positioned_from (n + 1) es)) q) (eq-eqb n q (omega arith))
event_positioned (false ∷ flags) (e ∷ es) n zero q at = event_below flags es (n + 1) q (omega arith)
event_positioned (true ∷ flags) (e ∷ es) n (suc i) q at =
    ap (λ b. if b then Some e else event_at (items_where_true flags (positioned_from (n + 1) es)) q) (ne_eqb n q (λ same. omega arith)) ∙ event_positioned flags es (n + 1) i q (omega arith)
event_positioned (false ∷ flags) (e ∷ es) n (suc i) q at = event_positioned flags es (n + 1) i q (omega arith)

entry_set : (flags : List Bool) (es : List Entry) (i : ℕ) → get_or flags i false ≡ true → entry_in flags es i ≡ slice_get es i
entry_set [] es i set = absurd (true≢false (sym set))
entry_set (f ∷ flags) [] i set = refl
entry_set (f ∷ flags) (e ∷ es) zero set = ap (λ b. if b then Some e else None) set
entry_set (f ∷ flags) (e ∷ es) (suc i) set = entry_set flags es i set

entry_clear : (flags : List Bool) (es : List Entry) (i : ℕ) → get_or flags i false ≡ false → entry_in flags es i ≡ None
entry_clear [] es i clear = refl
entry_clear (f ∷ flags) [] i clear = refl
entry_clear (f ∷ flags) (e ∷ es) zero clear = ap (λ b. if b then Some e else None) clear
entry_clear (f ∷ flags) (e ∷ es) (suc i) clear = entry_clear flags es i clear

-- what a test of an entry says, where that is one of the events asked
pub fits_there : (asked : Selected) (r : Recorded) → r ≡ asked.recorded → (c : Condition) (i : ℕ) (b : Bool) → event_at asked.kept i ≡ slice_get asked.recorded.entries i → MatchOption (slice_get r.entries i) (b ≡ false) (λ e. b ≡ holds r c e) → fits asked c i ≡ b
fits_there asked r same c i b stands given =
    let h = subst (λ (s : Recorded). MatchOption (slice_get s.entries i) (b ≡ false) (λ e. b ≡ holds s c e)) same given in
    ap (is_there (holds asked.recorded c)) stands
    ∙ elim (slice_get asked.recorded.entries i) as (λ o. MatchOption o (b ≡ false) (λ e. b ≡ holds asked.recorded c e) → is_there (holds asked.recorded c) o ≡ b)
    [ None ↦ λ g. sym g | Some e ↦ λ g. sym g ] h

-- the flags say which the events are
pub record AreFlags (asked : Selected) (flags : List Bool) : Type 0 where
  pub kept : asked.kept ≡ items_where_true flags (positioned asked.recorded.entries)

module _ (asked : Selected) (flags : List Bool) (are : AreFlags asked flags) where
  asked_is : (i : ℕ) → event_at asked.kept i ≡ entry_in flags asked.recorded.entries i
  asked_is i = ap (λ kept. event_at kept i) are.kept ∙ event_positioned flags asked.recorded.entries 0 i i (sym (zero-add i))

  pub asked_set : (i : ℕ) → get_or flags i false ≡ true → event_at asked.kept i ≡ slice_get asked.recorded.entries i
  asked_set i set = asked_is i ∙ entry_set flags asked.recorded.entries i set

  pub asked_clear : (i : ℕ) → get_or flags i false ≡ false → event_at asked.kept i ≡ None
  asked_clear i clear = asked_is i ∙ entry_clear flags asked.recorded.entries i clear

  -- what a test of the entry at a set flag says
  pub fits_set : (r : Recorded) → r ≡ asked.recorded → (c : Condition) (i : ℕ) (b : Bool) → get_or flags i false ≡ true → MatchOption (slice_get r.entries i) (b ≡ false) (λ e. b ≡ holds r c e) → fits asked c i ≡ b
  fits_set r same c i b set given = fits_there asked r same c i b (asked_set i set) given

  pub fits_clear : (c : Condition) (i : ℕ) → get_or flags i false ≡ false → fits asked c i ≡ false
  fits_clear c i clear = ap (is_there (holds asked.recorded c)) (asked_clear i clear)

  pub step_set : (r : Recorded) → r ≡ asked.recorded → (i : ℕ) (o : Option ExecutionStep) → get_or flags i false ≡ true → o ≡ option_and_then step_of (slice_get r.entries i) → step_at asked i ≡ o
  step_set r same i o set h = ap (option_and_then step_of) (asked_set i set ∙ ap (λ (s : Recorded). slice_get s.entries i) (sym same)) ∙ sym h

  pub step_clear : (i : ℕ) → get_or flags i false ≡ false → step_at asked i ≡ None
  step_clear i clear = ap (option_and_then step_of) (asked_clear i clear)

-- from one position on, the condition holds of no event up to another
pub record HasNone (asked : Selected) (c : Condition) (from next : ℕ) : Type 0 where
  pub low : from ≤ next
  pub none : (q : ℕ) → from ≤ q → q < next → fits asked c q ≡ false

pub none_first : (asked : Selected) (c : Condition) (from : ℕ) → HasNone asked c from from
none_first asked c from = record { low = omega arith; none = λ q le lt. absurd (omega arith) }

-- the condition holds of no event asked where no flag is set
abbrev pub FitsOnlySet : Selected → Condition → List Bool → Type 0
FitsOnlySet asked c flags = (i : ℕ) → get_or flags i false ≡ false → fits asked c i ≡ false

module _ (asked : Selected) (c : Condition) (flags : List Bool) (only : FitsOnlySet asked c flags) (from next at : ℕ) (has : HasNone asked c from next) where
  before_at : IsNextSet next flags at → (q : ℕ) → from ≤ q → q < at → fits asked c q ≡ false
  before_at set q le lt = ⊎_elim {C = fits asked c q ≡ false}
      (λ (below : q < next). has.none q le below)
      (λ (above : next ≤ q). only q (set.least q above lt))
      (cases_lt q next)

  pub none_more : IsNextSet next flags at → fits asked c at ≡ false → HasNone asked c from (at + 1)
  none_more set here =
      let on = set.from in
      let low = has.low in
      record {
        low = omega arith;
        none = λ q le lt. ⊎_elim {C = fits asked c q ≡ false}
            (λ (below : q < at). before_at set q le below)
            (λ (above : at ≤ q). let same : at ≡ q = omega arith in subst (λ n. fits asked c n ≡ false) same here)
            (cases_lt q at);
      }

  pub next_is : IsNextSet next flags at → fits asked c at ≡ true → IsNextFit (fits asked) c from at
  next_is set here =
      let on = set.from in
      let low = has.low in
      record { from_on = omega arith; fit = here; first = before_at set }

pub none_left : (asked : Selected) (c : Condition) (flags : List Bool) → FitsOnlySet asked c flags → (from next : ℕ) → HasNone asked c from next → IsNoneSet next flags → HasNoFit (fits asked) c from
none_left asked c flags only from next has clear q le = ⊎_elim {C = fits asked c q ≡ false}
    (λ (below : q < next). has.none q le below)
    (λ (above : next ≤ q). only q (clear.none q above))
    (cases_lt q next)

-- the k-th event stands at its position in the record
kept_in : (flags : List Bool) (es : List Entry) (n k : ℕ) (x : PositionedEntry) → slice_get (items_where_true flags (positioned_from n es)) k ≡ Some x → (i : ℕ) × (x.position ≡ n + i) × (slice_get es i ≡ Some x.entry)
unfolding positioned_from
kept_in [] es n k x e = absurd (none-some x e)
kept_in (f ∷ flags) [] n k x e = absurd (none-some x e)
kept_in (true ∷ flags) (y ∷ es) n zero x e =
    let first : PositionedEntry = record { position = n; entry = y } in
    let same = same_Some first x e in
    let at = ap (λ (p : PositionedEntry). p.position) same in
    (0, omega arith, ap (λ (p : PositionedEntry). Some p.entry) same)
kept_in (true ∷ flags) (y ∷ es) n (suc k) x e = let r = kept_in flags es (n + 1) k x e in let at = r.1 in (suc r.0, omega arith, r.2)
kept_in (false ∷ flags) (y ∷ es) n k x e = let r = kept_in flags es (n + 1) k x e in let at = r.1 in (suc r.0, omega arith, r.2)

pub kept_at : (asked : Selected) (flags : List Bool) → AreFlags asked flags → (k : ℕ) (x : PositionedEntry) → slice_get asked.kept k ≡ Some x → slice_get asked.recorded.entries x.position ≡ Some x.entry
kept_at asked flags are k x e =
    let r = kept_in flags asked.recorded.entries 0 k x (ap (λ kept. slice_get kept k) (sym are.kept) ∙ e) in
    let at : r.0 ≡ x.position = sym (r.1 ∙ zero-add r.0) in
    ap (slice_get asked.recorded.entries) (sym at) ∙ r.2

-- two tests that agree on each element
filter_same : {A : Type 0} (f g : A → Bool) (xs : List A) → ((k : ℕ) (x : A) → slice_get xs k ≡ Some x → f x ≡ g x) → filter f xs ≡ filter g xs
filter_same f g [] same = refl
filter_same f g (x ∷ xs) same =
    ap (λ b. cond b (x ∷ filter f xs) (filter f xs)) (same 0 x refl) ∙ ap (λ l. cond (g x) (x ∷ l) l) (filter_same f g xs (λ k y e. same (suc k) y e))

pub map_get : (p : Entry → Bool) (es : List Entry) (i : ℕ) (e : Entry) → slice_get es i ≡ Some e → get_or (map p es) i false ≡ p e
map_get p [] i e h = absurd (none-some e h)
map_get p (x ∷ es) zero e h = ap p (same_Some x e h)
map_get p (x ∷ es) (suc i) e h = map_get p es i e h

-- narrowing by the mask of a test keeps those that pass
pub intersected_is : (asked : Selected) (flags : List Bool) → AreFlags asked flags → (p : Entry → Bool) (mask : List Bool) → mask ≡ map p asked.recorded.entries → filter (λ x. get_or mask x.position false) asked.kept ≡ filter (λ x. p x.entry) asked.kept
intersected_is asked flags are p mask e =
    ap (λ (m : List Bool). filter (λ (x : PositionedEntry). get_or m x.position false) asked.kept) e
    ∙ filter_same (λ (x : PositionedEntry). get_or (map p asked.recorded.entries) x.position false) (λ (x : PositionedEntry). p x.entry) asked.kept
    (λ k x at. map_get p asked.recorded.entries x.position x.entry (kept_at asked flags are k x at))

-- the same test, the same list of answers
pub map_same : {A B : Type 0} (f g : A → B) (xs : List A) → ((x : A) → f x ≡ g x) → map f xs ≡ map g xs
map_same f g [] same = refl
map_same f g (x ∷ xs) same = ap (λ y. y ∷ map f xs) (same x) ∙ ap (λ l. g x ∷ l) (map_same f g xs same)
