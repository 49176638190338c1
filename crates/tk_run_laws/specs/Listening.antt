-- What a listener may rely on.
use Rattle.std.specs.Prelude.{◌≡◌, ◌≢◌, Bool, true, false, not, ◌&&◌, ◌||◌}
use Rattle.std.specs.Prelude.{List, [], ◌∷◌, ◌++◌, filter}
use Rattle.std.specs.List.{list_any}
use Rattle.tk_ids.specs.IdText.{SegmentView}
use Rattle.tk_events.specs.declared.kinds.Kind.{Kind}
use Rattle.tk_events.specs.declared.kinds.Kind.TheVariants.{Dynamic, Skipped, Started, Finished}
use Rattle.tk_report_text.specs.Labels.{Label, same_id, same_kind}

-- each element that passes `later` has one before it that passes `earlier`
abbrev pub precedes : {A : Type 0} → (A → Bool) → (A → Bool) → List A → Bool
precedes earlier later [] = true
precedes earlier later (x ∷ xs) = not (later x) && (earlier x || precedes earlier later xs)

-- each element that passes `earlier` has one after it that passes `later`
abbrev pub is_followed : {A : Type 0} → (A → Bool) → (A → Bool) → List A → Bool
is_followed earlier later [] = true
is_followed earlier later (x ∷ xs) =
    (not (earlier x) || list_any later xs) && is_followed earlier later xs

abbrev pub is_of : List SegmentView → Label → Bool
is_of i l = same_id l.id i

abbrev pub starts : List SegmentView → Label → Bool
starts i l = is_of i l && same_kind l.kind Started

abbrev pub finishes : List SegmentView → Label → Bool
finishes i l = is_of i l && same_kind l.kind Finished

abbrev pub skips : List SegmentView → Label → Bool
skips i l = is_of i l && same_kind l.kind Skipped

abbrev pub registers : List SegmentView → Label → Bool
registers i l = is_of i l && same_kind l.kind Dynamic

-- a start, a finish or a skip
abbrev pub is_ran : Kind → Bool
is_ran k = same_kind k Started || (same_kind k Finished || same_kind k Skipped)

-- nothing, or one skip, or one start and then one finish
abbrev pub IsOnce : List Label → Type 0
IsOnce [] = Unit {0}
IsOnce (x ∷ []) = same_kind x.kind Skipped ≡ true
IsOnce (x ∷ (y ∷ [])) = (same_kind x.kind Started ≡ true) × (same_kind y.kind Finished ≡ true)
IsOnce (x ∷ (y ∷ (z ∷ zs))) = ⊥

-- What a listener may rely on of the ids of a record. The id of a child is its parent's with one
-- segment more.
pub record Listens (ls : List Label) : Type 0 where
  -- an id is skipped once, or starts once and then finishes once, or none of these
  pub once : (i : List SegmentView) → IsOnce (filter (λ l. is_of i l && is_ran l.kind) ls)
  -- a parent starts before each event of a child
  pub start_first :
      (p : List SegmentView) (s : SegmentView) → p ≢ []
      → precedes (starts p) (is_of (p ++ s ∷ [])) ls ≡ true
  -- a parent finishes after each event of a child
  pub finish_last :
      (p : List SegmentView) (s : SegmentView) → p ≢ []
      → is_followed (is_of (p ++ s ∷ [])) (finishes p) ls ≡ true
  -- nothing below a skipped descriptor has an event
  pub skipped :
      (i : List SegmentView) (s : SegmentView) (more : List SegmentView) → i ≢ []
      → list_any (skips i) ls ≡ true → list_any (is_of (i ++ s ∷ more)) ls ≡ false
  -- what is registered is registered before it starts, finishes or is skipped
  pub registered_first :
      (i : List SegmentView) → list_any (registers i) ls ≡ true
      → precedes (registers i) (λ l. is_of i l && is_ran l.kind) ls ≡ true
