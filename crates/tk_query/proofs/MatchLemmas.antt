-- Matching event by event.
use Rattle.std.proofs.Common.{◌≡◌, ℕ, zero, suc, ◌+◌, ◌<◌, ◌≤◌, Bool, true, false, not, ◌&&◌, List, [], ◌∷◌, length, get_or, map, drop, length-drop, add-one, Option, Some, None, MatchOption, refl, sym, ap, ◌∙◌, subst, arith, ⊎_elim}
use Rattle.std.specs.List.{slice_get, items_where_true}
use Rattle.std.proofs.lemmas.List.{length-map}
use Rattle.std.specs.Option.{is_some}
use Rattle.std.specs.Simd.Lanes.{zip2}
use Rattle.std.proofs.lemmas.Bool.{cases_lt, and_parts, true≢false}
use Rattle.tk_base.proofs.Truth.{and-true}
use Rattle.tk_events.specs.declared.events.Entry.{Entry}
use Rattle.tk_record.specs.Recorded.{Recorded}
use Rattle.tk_record.specs.Selections.{PositionedEntry, Selected, passes, positioned_from, events_of}
use Rattle.tk_query_conditions.specs.declared.conditions.Condition.{Condition}
use Rattle.tk_query.specs.Holds.{holds}
use Rattle.tk_lanes.specs.Flags.{IsNextSet, IsNoneSet}
use Rattle.tk_query.specs.Asked.{fits, IsFirstFit}
use Rattle.tk_query.specs.steps.Rules.{AreLeft, HoldsWithin}
use Rattle.tk_record.specs.declared.selections.ColumnTest.{ColumnTest}
use Rattle.tk_query.specs.Matches.{HoldsAt, IsFirstUnlike, IsFirstNowhere, HoldsSomewhere}
use Rattle.tk_query.proofs.AskedLemmas.{AreFlags, asked_set, fits_clear, fits_set, map_get, next_is, none_first, none_left}

pub get_some : {A : Type 0} (xs : List A) (k : ℕ) (d : A) → k < length xs → slice_get xs k ≡ Some (get_or xs k d)
get_some [] k d lt = absurd (omega arith)
get_some (x ∷ xs) zero d lt = refl
get_some (x ∷ xs) (suc k) d lt = get_some xs k d (omega arith)

-- one more than all below
below_more : (P : ℕ → Type 0) (k : ℕ) → ((j : ℕ) → j < k → P j) → P k → (j : ℕ) → j < k + 1 → P j
below_more P k below here j lt = ⊎_elim {C = P j} (λ (low : j < k). below j low) (λ (high : k ≤ j). let same : k ≡ j = omega arith in subst P same here) (cases_lt j k)

-- the events asked are the entries at the set flags
entries_kept : (flags : List Bool) (es : List Entry) (n : ℕ) → map (λ (x : PositionedEntry). x.entry) (items_where_true flags (positioned_from n es)) ≡ items_where_true flags es
unfolding positioned_from
entries_kept [] es n = refl
entries_kept (f ∷ flags) [] n = refl
entries_kept (true ∷ flags) (e ∷ es) n = ap (λ l. e ∷ l) (entries_kept flags es (n + 1))
entries_kept (false ∷ flags) (e ∷ es) n = entries_kept flags es (n + 1)

-- the elements at the flags that are set from a place on
abbrev pub kept_from : {A : Type 0} → ℕ → List Bool → List A → List A
kept_from low flags xs = items_where_true (drop low flags) (drop low xs)

-- the first of them stands at the next set flag
pub record IsNextKept {A : Type 0} (low at : ℕ) (flags : List Bool) (xs : List A) : Type 0 where
  pub item : A
  pub item_is : slice_get xs at ≡ Some item
  pub kept : kept_from low flags xs ≡ item ∷ kept_from (suc at) flags xs

pub next_kept : {A : Type 0} (flags : List Bool) (xs : List A) (low at : ℕ) → length flags ≡ length xs → IsNextSet low flags at → IsNextKept low at flags xs
next_kept [] xs low at same next = absurd (true≢false (sym next.set))
next_kept (f ∷ flags) [] low at same next = absurd (omega arith)
next_kept (f ∷ flags) (x ∷ xs) zero zero same next = record { item = x; item_is = refl; kept = ap (λ b. items_where_true (b ∷ flags) (x ∷ xs)) next.set }
next_kept (f ∷ flags) (x ∷ xs) zero (suc at) same next =
    let later = next_kept flags xs 0 at (omega arith) (record { from = omega arith; set = next.set; least = λ i le lt. next.least (suc i) (omega arith) (omega arith) }) in
    record { item = later.item; item_is = later.item_is; kept = ap (λ b. items_where_true (b ∷ flags) (x ∷ xs)) (next.least 0 (omega arith) (omega arith)) ∙ later.kept }
next_kept (f ∷ flags) (x ∷ xs) (suc low) zero same next = let from = next.from in absurd (omega arith)
next_kept (f ∷ flags) (x ∷ xs) (suc low) (suc at) same next =
    let from = next.from in
    let later = next_kept flags xs low at (omega arith) (record { from = omega arith; set = next.set; least = λ i le lt. next.least (suc i) (omega arith) (omega arith) }) in
    record { item = later.item; item_is = later.item_is; kept = later.kept }

pub none_kept : {A : Type 0} (flags : List Bool) (xs : List A) (low : ℕ) → length flags ≡ length xs → IsNoneSet low flags → kept_from low flags xs ≡ []
none_kept [] xs zero same none = refl
none_kept [] xs (suc low) same none = refl
none_kept (f ∷ flags) [] low same none = absurd (omega arith)
none_kept (f ∷ flags) (x ∷ xs) zero same none =
    ap (λ b. items_where_true (b ∷ flags) (x ∷ xs)) (none.none 0 (omega arith)) ∙ none_kept flags xs 0 (omega arith) (record { none = λ i le. none.none (suc i) (omega arith) })
none_kept (f ∷ flags) (x ∷ xs) (suc low) same none = none_kept flags xs low (omega arith) (record { none = λ i le. none.none (suc i) (omega arith) })

-- the element at which a suffix begins, and the suffix after it
dropped_get : {A : Type 0} (xs : List A) (k : ℕ) (y : A) (ys : List A) → drop k xs ≡ y ∷ ys → slice_get xs k ≡ Some y
dropped_get [] zero y ys e = ap (λ l. slice_get l 0) e
dropped_get [] (suc k) y ys e = ap (λ l. slice_get l 0) e
dropped_get (x ∷ xs) zero y ys e = ap (λ l. slice_get l 0) e
dropped_get (x ∷ xs) (suc k) y ys e = dropped_get xs k y ys e

dropped_more : {A : Type 0} (xs : List A) (k : ℕ) (y : A) (ys : List A) → drop k xs ≡ y ∷ ys → drop (suc k) xs ≡ ys
dropped_more [] zero y ys e = ap (drop 1) e
dropped_more [] (suc k) y ys e = ap (drop 1) e
dropped_more (x ∷ xs) zero y ys e = ap (drop 1) e
dropped_more (x ∷ xs) (suc k) y ys e = dropped_more xs k y ys e

-- the first k conditions hold of the first k events, and the further events stand at the flags from a place on
pub record AreMatched (asked : Selected) (flags : List Bool) (cs : List Condition) (k low : ℕ) : Type 0 where
  pub before : (j : ℕ) → j < k → HoldsAt asked.recorded cs (events_of asked) j
  pub further : drop k (events_of asked) ≡ kept_from low flags asked.recorded.entries

pub matched_none : (asked : Selected) (flags : List Bool) (cs : List Condition) → AreFlags asked flags → AreMatched asked flags cs 0 0
matched_none asked flags cs are = record {
  before = λ j lt. absurd (omega arith);
  further = ap (map (λ (x : PositionedEntry). x.entry)) are.kept ∙ entries_kept flags asked.recorded.entries 0;
}

module _ (asked : Selected) (flags : List Bool) (size : length flags ≡ length asked.recorded.entries) (cs : List Condition) (k low : ℕ) (matched : AreMatched asked flags cs k low) where
  pub matched_all : length cs ≡ length asked.kept → IsNoneSet low flags → (j : ℕ) → j < length cs → HoldsAt asked.recorded cs (events_of asked) j
  matched_all same none j lt =
      let many = length-map asked.kept (λ (x : PositionedEntry). x.entry) in
      let left = length-drop k (events_of asked) in
      let empty = ap length (matched.further ∙ none_kept flags asked.recorded.entries low size none) in
      matched.before j (omega arith)

  -- the next event
  module _ (position : ℕ) (next : IsNextSet low flags position) where
    following : IsNextKept low position flags asked.recorded.entries
    following = next_kept flags asked.recorded.entries low position size next

    further_is : drop k (events_of asked) ≡ following.item ∷ kept_from (suc position) flags asked.recorded.entries
    further_is = matched.further ∙ following.kept

    pub is_asked : k < length asked.kept
    is_asked =
        let many = length-map asked.kept (λ (x : PositionedEntry). x.entry) in
        let left = length-drop k (events_of asked) in
        let more = ap length further_is in
        omega arith

    -- and what the test of condition k says of it
    module _ (r : Recorded) (same : r ≡ asked.recorded) (c : Condition) (condition_is : c ≡ get_or cs k c) (within : k < length cs) (b : Bool)
        (test : MatchOption (slice_get r.entries position) (b ≡ false) (λ e. b ≡ holds r c e)) where
      condition_here : slice_get cs k ≡ Some c
      condition_here = get_some cs k c within ∙ ap (λ x. Some x) (sym condition_is)

      event_here : slice_get (events_of asked) k ≡ Some following.item
      event_here = dropped_get (events_of asked) k following.item (kept_from (suc position) flags asked.recorded.entries) further_is

      tested_here : holds asked.recorded c following.item ≡ b
      tested_here =
          let here = subst (λ (s : Recorded). MatchOption (slice_get s.entries position) (b ≡ false) (λ e. b ≡ holds s c e)) same test in
          sym (subst (λ o. MatchOption o (b ≡ false) (λ e. b ≡ holds asked.recorded c e)) following.item_is here)

      pub matched_more : b ≡ true → AreMatched asked flags cs (k + 1) (position + 1)
      matched_more e = record {
        before = below_more (HoldsAt asked.recorded cs (events_of asked)) k matched.before (c, following.item, condition_here, event_here, tested_here ∙ e);
        further =
            ap (λ n. drop n (events_of asked)) (add-one k) ∙ dropped_more (events_of asked) k following.item (kept_from (suc position) flags asked.recorded.entries) further_is
            ∙ ap (λ n. kept_from n flags asked.recorded.entries) (sym (add-one position));
      }

      pub matched_no : b ≡ false → IsFirstUnlike asked.recorded cs (events_of asked) k
      matched_no e = record { condition = c; event = following.item; condition_is = condition_here; event_is = event_here; fails = tested_here ∙ e; before = matched.before }

pub loose_more : (asked : Selected) (cs : List Condition) (k : ℕ) (c : Condition) (o : Option ℕ) (b : Bool) → ((j : ℕ) → j < k → HoldsSomewhere asked cs j) → k < length cs → c ≡ get_or cs k c → IsFirstFit asked c o → is_some o ≡ not b → b ≡ false
    → (j : ℕ) → j < k + 1 → HoldsSomewhere asked cs j
loose_more asked cs k c None b below within is h none e = absurd (true≢false (sym (none ∙ ap not e)))
loose_more asked cs k c (Some p) b below within is h none e =
    below_more (HoldsSomewhere asked cs) k below (c, p, get_some cs k c within ∙ ap (λ x. Some x) (sym is), h.fit)

pub loose_no : (asked : Selected) (cs : List Condition) (k : ℕ) (c : Condition) (o : Option ℕ) (b : Bool) → ((j : ℕ) → j < k → HoldsSomewhere asked cs j) → k < length cs → c ≡ get_or cs k c → IsFirstFit asked c o → is_some o ≡ not b → b ≡ true → IsFirstNowhere asked cs k
loose_no asked cs k c None b below within is h none e = record {
  condition = c;
  condition_is = get_some cs k c within ∙ ap (λ x. Some x) (sym is);
  nowhere = λ position. h position (omega arith);
  before = below;
}
loose_no asked cs k c (Some p) b below within is h none e = absurd (true≢false (none ∙ ap not e))

pub and_false : (a : Bool) → false ≡ (a && false)
and_false true = refl
and_false false = refl

zip_get : (xs ys : List Bool) (k : ℕ) → get_or (zip2 ◌&&◌ xs ys) k false ≡ (get_or xs k false && get_or ys k false)
zip_get [] ys k = refl
zip_get (x ∷ xs) [] k = and_false (get_or (x ∷ xs) k false)
zip_get (x ∷ xs) (y ∷ ys) zero = refl
zip_get (x ∷ xs) (y ∷ ys) (suc k) = zip_get xs ys k

mask_set : (p : Entry → Bool) (es : List Entry) (k : ℕ) → get_or (map p es) k false ≡ true → (e : Entry) × (slice_get es k ≡ Some e) × (p e ≡ true)
mask_set p [] k set = absurd (true≢false (sym set))
mask_set p (e ∷ es) zero set = (e, refl, set)
mask_set p (e ∷ es) (suc k) set = mask_set p es k set

-- the mask of the condition, and of it those of the events asked
module _ (asked : Selected) (flags : List Bool) (are : AreFlags asked flags) (r : Recorded) (same : r ≡ asked.recorded) (c : Condition) (mask both : List Bool)
    (mask_is : mask ≡ map (holds r c) r.entries) (both_is : both ≡ zip2 ◌&&◌ mask flags) where
  both_at : (k : ℕ) → get_or both k false ≡ (get_or (map (holds r c) r.entries) k false && get_or flags k false)
  both_at k = ap (λ l. get_or l k false) both_is ∙ zip_get mask flags k ∙ ap (λ l. get_or l k false && get_or flags k false) mask_is

  set_fits : (k : ℕ) → get_or both k false ≡ true → fits asked c k ≡ true
  set_fits k set =
      let parts = and_parts (get_or (map (holds r c) r.entries) k false) (get_or flags k false) (sym (both_at k) ∙ set) in
      let x = mask_set (holds r c) r.entries k parts.0 in
      fits_set asked flags are r same c k true parts.1 (subst (λ o. MatchOption o (true ≡ false) (λ e. true ≡ holds r c e)) (sym x.1) (sym x.2))

  clear_there : (k : ℕ) → get_or both k false ≡ false → get_or flags k false ≡ true → (o : Option Entry) → slice_get r.entries k ≡ o → MatchOption o (false ≡ false) (λ e. false ≡ holds r c e)
  clear_there k clear set None stands = refl
  clear_there k clear set (Some e) stands =
      sym clear ∙ both_at k ∙ ap (λ b. b && get_or flags k false) (map_get (holds r c) r.entries k e stands) ∙ ap (λ b. holds r c e && b) set ∙ and-true (holds r c e)

  clear_fits : (k : ℕ) (b : Bool) → get_or flags k false ≡ b → get_or both k false ≡ false → fits asked c k ≡ false
  clear_fits k true set clear = fits_set asked flags are r same c k false set (clear_there k clear set (slice_get r.entries k) refl)
  clear_fits k false off clear = fits_clear asked flags are c k off

  pub mask_fits : (k : ℕ) → fits asked c k ≡ get_or both k false
  mask_fits k = elim (get_or both k false) as (λ b. get_or both k false ≡ b → fits asked c k ≡ b)
      [ true ↦ λ set. set_fits k set | false ↦ λ clear. clear_fits k (get_or flags k false) refl clear ]
      refl

  mask_only : (k : ℕ) → get_or both k false ≡ false → fits asked c k ≡ false
  mask_only k clear = clear_fits k (get_or flags k false) refl clear

  pub mask_tells : (o : Option ℕ) → MatchOption o (IsNoneSet 0 both) (IsNextSet 0 both) → IsFirstFit asked c o
  mask_tells None none = none_left asked c both mask_only 0 0 (none_first asked c 0) none
  mask_tells (Some at) next = next_is asked c both mask_only 0 0 at (none_first asked c 0) next (set_fits at next.set)

-- the candidates that pass a test of a column, and of them those of the events asked
module _ (asked : Selected) (flags : List Bool) (are : AreFlags asked flags) (r : Recorded) (same : r ≡ asked.recorded) (c : Condition) (column_test : ColumnTest) (within : HoldsWithin column_test r c) (candidates both : List Bool)
    (candidates_are : candidates ≡ map (passes column_test r) r.entries) (both_is : both ≡ zip2 ◌&&◌ candidates flags) where
  left_at : (k : ℕ) → get_or both k false ≡ (get_or (map (passes column_test r) r.entries) k false && get_or flags k false)
  left_at k = ap (λ l. get_or l k false) both_is ∙ zip_get candidates flags k ∙ ap (λ l. get_or l k false && get_or flags k false) candidates_are

  outside : (k : ℕ) → get_or both k false ≡ false → get_or flags k false ≡ true → (o : Option Entry) → slice_get r.entries k ≡ o → MatchOption o (false ≡ false) (λ e. false ≡ holds r c e)
  outside k clear set None stands = refl
  outside k clear set (Some e) stands =
      let fails : passes column_test r e ≡ false =
      sym (and-true (passes column_test r e)) ∙ ap (λ b. passes column_test r e && b) (sym set) ∙ ap (λ b. b && get_or flags k false) (sym (map_get (passes column_test r) r.entries k e stands)) ∙ sym (left_at k) ∙ clear in
      sym (within.within e fails)

  others_fail : (k : ℕ) (b : Bool) → get_or flags k false ≡ b → get_or both k false ≡ false → fits asked c k ≡ false
  others_fail k true set clear = fits_set asked flags are r same c k false set (outside k clear set (slice_get r.entries k) refl)
  others_fail k false off clear = fits_clear asked flags are c k off

  pub are_left : AreLeft asked c both
  are_left = record {
    there = λ k set. asked_set asked flags are k (and_parts (get_or (map (passes column_test r) r.entries) k false) (get_or flags k false) (sym (left_at k) ∙ set)).1;
    others = λ k clear. others_fail k (get_or flags k false) refl clear;
  }

-- all events asked are left where no test narrows them
pub all_left : (asked : Selected) (flags : List Bool) → AreFlags asked flags → (c : Condition) → AreLeft asked c flags
all_left asked flags are c = record { there = asked_set asked flags are; others = fits_clear asked flags are c }
