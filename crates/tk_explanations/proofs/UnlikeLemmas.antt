-- Conditions beside the events in their places.
use Rattle.std.proofs.Common.{◌≡◌, ℕ, zero, suc, ◌+◌, ◌≤◌, Bool, true, false, List, [], ◌∷◌, length, drop, add-one, zero-add, Option, Some, MatchOption, sym, ap, ◌∙◌, subst, arith}
use Rattle.std.specs.Prelude.{if◌then◌else◌}
use Rattle.std.specs.List.{slice_get}
use Rattle.std.proofs.lemmas.Option.{none-some, same_Some}
use Rattle.tk_lanes.specs.Flags.{IsNextSet, IsNoneSet}
use Rattle.tk_events.specs.declared.events.Entry.{Entry}
use Rattle.tk_record.specs.Recorded.{Recorded}
use Rattle.tk_record.specs.Selections.{PositionedEntry, Selected, positioned, positioned_from}
use Rattle.tk_record.proofs.PickedEntries.{length-positioned}
use Rattle.tk_query_conditions.specs.declared.conditions.Condition.{Condition}
use Rattle.tk_query.specs.Holds.{holds}
use Rattle.tk_query.proofs.AskedLemmas.{AreFlags}
use Rattle.tk_query.proofs.MatchLemmas.{IsNextKept, kept_from, next_kept, none_kept}
use Rattle.tk_explanations.specs.MatchRows.{condition_row, lacking_row}
use Rattle.tk_explanations.specs.Matches.{unlike_rows}
use Rattle.tk_explanations.specs.declared.rows.Note.TheVariants.{Nothing}
use Rattle.tk_explanations.specs.declared.rows.Row.TheVariants as row
use Rattle.tk_explanations.proofs.RowLemmas.{dropped_all, dropped_at}

positioned_at : (n : ℕ) (es : List Entry) (i : ℕ) (x : PositionedEntry) → slice_get (positioned_from n es) i ≡ Some x → (x.position ≡ n + i) × (slice_get es i ≡ Some x.entry)
unfolding positioned_from
positioned_at n [] i x e = absurd (none-some x e)
positioned_at n (y ∷ es) zero x e =
    let first : PositionedEntry = record { position = n; entry = y } in
    let same = same_Some first x e in
    let at = ap (λ (p : PositionedEntry). p.position) same in
    (omega arith, ap (λ (p : PositionedEntry). Some p.entry) same)
positioned_at n (y ∷ es) (suc i) x e = let later = positioned_at (n + 1) es i x e in let at = later.0 in (omega arith, later.1)

-- what is said of conditions and of events where the first condition holds of the first event, or not
step : (r : Recorded) (k : ℕ) (c : Condition) (cs : List Condition) (x : PositionedEntry) (xs : List PositionedEntry) (b : Bool) → holds r c x.entry ≡ b → unlike_rows r k (c ∷ cs) (x ∷ xs) ≡ (if b then unlike_rows r (k + 1) cs xs else condition_row k c ∷ lacking_row r c x.position ∷ [])
step r k c cs x xs b e = ap (λ (t : Bool). if t then unlike_rows r (k + 1) cs xs else condition_row k c ∷ lacking_row r c x.position ∷ []) e

-- the events from a position on
abbrev pub further : Selected → List Bool → ℕ → List PositionedEntry
further asked flags low = kept_from low flags (positioned asked.recorded.entries)

-- up to a place the conditions hold of the events, so that the further ones are to be looked at
abbrev pub ArePassed : Selected → List Bool → List Condition → ℕ → ℕ → Type 0
ArePassed asked flags cs k low =
    unlike_rows asked.recorded 0 cs asked.kept ≡ unlike_rows asked.recorded k (drop k cs) (further asked flags low)

pub passed_none : (asked : Selected) (flags : List Bool) (cs : List Condition) → AreFlags asked flags → ArePassed asked flags cs 0 0
passed_none asked flags cs are = ap (λ (l : List PositionedEntry). unlike_rows asked.recorded 0 cs l) are.kept

module _ (asked : Selected) (flags : List Bool) (size : length flags ≡ length asked.recorded.entries) (cs : List Condition) (k low : ℕ) (passed : ArePassed asked flags cs k low) where
  long : length flags ≡ length (positioned asked.recorded.entries)
  long = size ∙ sym (length-positioned 0 asked.recorded.entries)

  none_further : IsNoneSet low flags → further asked flags low ≡ []
  none_further none = none_kept flags (positioned asked.recorded.entries) low long none

  -- conditions are left over
  pub condition_left : (c : Condition) → slice_get cs k ≡ Some c → IsNoneSet low flags → unlike_rows asked.recorded 0 cs asked.kept ≡ condition_row k c ∷ row.NoneLeft ∷ []
  condition_left c has none =
      passed
      ∙ ap (λ (ds : List Condition). unlike_rows asked.recorded k ds (further asked flags low)) (dropped_at cs k c has)
      ∙ ap (unlike_rows asked.recorded k (c ∷ drop (k + 1) cs)) (none_further none)

  -- nothing is left over
  pub none_left_over : length cs ≤ k → IsNoneSet low flags → unlike_rows asked.recorded 0 cs asked.kept ≡ []
  none_left_over le none =
      passed
      ∙ ap (λ (ds : List Condition). unlike_rows asked.recorded k ds (further asked flags low)) (dropped_all cs k le)
      ∙ ap (unlike_rows asked.recorded k []) (none_further none)

  -- the next event
  module _ (position : ℕ) (next : IsNextSet low flags position) where
    following : IsNextKept low position flags (positioned asked.recorded.entries)
    following = next_kept flags (positioned asked.recorded.entries) low position long next

    abbrev item : PositionedEntry
    item = following.item

    stands : (item.position ≡ 0 + position) × (slice_get asked.recorded.entries position ≡ Some item.entry)
    stands = positioned_at 0 asked.recorded.entries position item following.item_is

    at : item.position ≡ position
    at = stands.0 ∙ zero-add position

    -- events are left over
    pub event_left : length cs ≤ k → unlike_rows asked.recorded 0 cs asked.kept ≡ row.Event position Nothing ∷ []
    event_left le =
        passed
        ∙ ap (λ (ds : List Condition). unlike_rows asked.recorded k ds (further asked flags low)) (dropped_all cs k le)
        ∙ ap (unlike_rows asked.recorded k []) following.kept
        ∙ ap (λ (n : ℕ). row.Event n Nothing ∷ []) at

    -- and what condition k says of it
    module _ (r : Recorded) (same : r ≡ asked.recorded) (c : Condition) (has : slice_get cs k ≡ Some c) (b : Bool) (test : MatchOption (slice_get r.entries position) (b ≡ false) (λ e. b ≡ holds r c e)) where
      test_is : holds asked.recorded c item.entry ≡ b
      test_is =
          let told = subst (λ (s : Recorded). MatchOption (slice_get s.entries position) (b ≡ false) (λ e. b ≡ holds s c e)) same test in
          sym (subst (λ (o : Option Entry). MatchOption o (b ≡ false) (λ e. b ≡ holds asked.recorded c e)) stands.1 told)

      here : unlike_rows asked.recorded 0 cs asked.kept ≡ (if b then unlike_rows asked.recorded (k + 1) (drop (k + 1) cs) (further asked flags (suc position)) else condition_row k c ∷ lacking_row asked.recorded c item.position ∷ [])
      here =
          passed
          ∙ ap (λ (ds : List Condition). unlike_rows asked.recorded k ds (further asked flags low)) (dropped_at cs k c has)
          ∙ ap (unlike_rows asked.recorded k (c ∷ drop (k + 1) cs)) following.kept
          ∙ step asked.recorded k c (drop (k + 1) cs) item (further asked flags (suc position)) b test_is

      pub passed_more : b ≡ true → ArePassed asked flags cs (k + 1) (position + 1)
      passed_more is_true =
          here
          ∙ ap (λ (t : Bool). if t then unlike_rows asked.recorded (k + 1) (drop (k + 1) cs) (further asked flags (suc position)) else condition_row k c ∷ lacking_row asked.recorded c item.position ∷ []) is_true
          ∙ ap (λ (n : ℕ). unlike_rows asked.recorded (k + 1) (drop (k + 1) cs) (further asked flags n)) (sym (add-one position))

      pub unlike_here : b ≡ false → unlike_rows asked.recorded 0 cs asked.kept ≡ condition_row k c ∷ lacking_row r c position ∷ []
      unlike_here is_false =
          here
          ∙ ap (λ (t : Bool). if t then unlike_rows asked.recorded (k + 1) (drop (k + 1) cs) (further asked flags (suc position)) else condition_row k c ∷ lacking_row asked.recorded c item.position ∷ []) is_false
          ∙ ap (λ (n : ℕ). condition_row k c ∷ lacking_row asked.recorded c n ∷ []) at
          ∙ ap (λ (s : Recorded). condition_row k c ∷ lacking_row s c position ∷ []) (sym same)
