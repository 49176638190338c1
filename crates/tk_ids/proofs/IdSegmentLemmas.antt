-- The segments of an id are read back from its text.
use Rattle.std.proofs.Common.{◌≡◌, ℕ, ◌+◌, ◌<◌, Bool, true, List, [], ◌∷◌, ◌++◌, length, take, drop, get_or, Some, None, refl, sym, ap, ◌∙◌, subst, arith, inl, inr, ◌⊎◌, ⊎_elim, option_map, option_and_then, eqb}
use Rattle.std.specs.Prelude.{codes}
use Rattle.std.proofs.lemmas.Option.{same_Some, none-some}
use Rattle.std.specs.List.{starts_with}
use Rattle.std.specs.Cmp.Lexicographic.{bytes_decides}
use Rattle.std.proofs.lemmas.List.{append_assoc, append-nil, drop_more, take_at, take-append-drop, get_or_at, length-append}
use Rattle.tk_ids.specs.declared.escapes.Escape.{Escape}
use Rattle.tk_ids.specs.declared.escapes.Escape.TheVariants.{Plain}
use Rattle.tk_ids.specs.Machine.{run}
use Rattle.tk_ids.specs.IdText.{SegmentView, IsId, IsBelow, IsEngine, id_text, segment_text, FitsLimits}
use Rattle.tk_ids.specs.IdSegments.{segments_of, whole_segments, IsTextOfId}
use Rattle.tk_ids.specs.Reading.{State, Before, InValue, Closed, text_step, ends_at, step}
use Rattle.tk_ids.proofs.MachineLemmas.{run-append}
use Rattle.tk_ids.proofs.ReadingLemmas.{run_whole, cond_cases, option_map_some}
use Rattle.tk_ids.proofs.ScanningLemmas.{done_of, step_adds}

pub segments_of-id_text : (text : List ℕ) (id : List SegmentView) → IsId id → text ≡ id_text id → segments_of text ≡ id
unfolding segments_of
segments_of-id_text text id ok e = ap whole_segments (run_whole text id ok e)

pub text_of_id : (text : List ℕ) (count : ℕ) (id : List SegmentView) → IsId id → text ≡ id_text id → FitsLimits id → count ≡ length id → IsTextOfId text count
text_of_id text count id ok e fits counted =
    let same = sym (segments_of-id_text text id ok e) in
    record { id = subst IsId same ok; spells = e ∙ ap id_text same; fits = subst FitsLimits same fits; counted = counted ∙ ap length same }

-- what was read stays at the front
pub run_adds : (s t : State) (bytes : List ℕ) → run step s bytes ≡ Some t → (more : List SegmentView) × (done_of t ≡ done_of s ++ more)
run_adds s t [] e = ([], ap done_of (sym (same_Some s t e)) ∙ sym (append-nil (done_of s)))
run_adds s t (b ∷ bytes) e =
    elim (step s b) as (λ o. step s b ≡ o → option_and_then (λ u. run step u bytes) o ≡ Some t → (more : List SegmentView) × (done_of t ≡ done_of s ++ more)) [
      | None ↦ λ is h. absurd (none-some t h)
      | Some u ↦ λ is h.
          let first = step_adds s u b is in
          let rest = run_adds u t bytes h in
          (first.more ++ rest.0, rest.1 ∙ ap (λ l. l ++ rest.0) first.added ∙ append_assoc (done_of s) first.more rest.0)
    ] refl e

-- an id whose text goes on after another's stands below it
pub below_by_text : (above id : List SegmentView) (outer inner rest : List ℕ) → IsId above → IsId id → outer ≡ id_text above → inner ≡ id_text id → inner ≡ outer ++ 47 ∷ rest → IsBelow above id
below_by_text above id outer inner rest above_ok ok e f split =
    let goes : run step (Before above) rest ≡ Some (Closed id) =
    sym (run-append step (Before []) (Closed above) outer (47 ∷ rest) (run_whole outer above above_ok e)) ∙ ap (run step (Before [])) (sym split) ∙ run_whole inner id ok f in
    let added = run_adds (Before above) (Closed id) rest goes in
    elim added.0 as (λ more. id ≡ above ++ more → IsBelow above id) [
      | [] ↦ λ same.
          let whole : id ≡ above = same ∙ append-nil above in
          let longer : length inner ≡ length outer + length (47 ∷ rest) = ap length split ∙ length-append outer (47 ∷ rest) in
          let as_long : length inner ≡ length outer = ap length (f ∙ ap id_text whole ∙ sym e) in
          absurd (omega arith)
      | s ∷ more ↦ λ same. (s, more, same)
    ] added.1

-- and the text of an id that stands below another goes on after it
pub id_text-below : (above : List SegmentView) (s : SegmentView) (more : List SegmentView) → 0 < length above → id_text (above ++ s ∷ more) ≡ id_text above ++ 47 ∷ id_text (s ∷ more)
id_text-below [] s more some = absurd (omega (arith, some))
id_text-below (x ∷ []) s more some = refl
id_text-below (x ∷ y ∷ above) s more some =
    ap (λ l. segment_text x ++ 47 ∷ l) (id_text-below (y ∷ above) s more (omega arith))
    ∙ sym (append_assoc (segment_text x) (47 ∷ id_text (y ∷ above)) (47 ∷ id_text (s ∷ more)))

-- the tag that was read is the first segment's
abbrev HasTag : List ℕ → State → Type 0
HasTag tag s = ((p : List ℕ × Escape) × (s ≡ InValue [] tag p)) ⊎ ((value : List ℕ) × (more : List SegmentView) × (done_of s ≡ record { tag = tag; value = value } ∷ more))

step_keeps_tag : (tag : List ℕ) (p : List ℕ × Escape) (t : State) (b : ℕ) → step (InValue [] tag p) b ≡ Some t → HasTag tag t
step_keeps_tag tag p t b e =
    ⊎_elim {C = HasTag tag t}
    (λ h. inr (p.0, [], ap done_of (sym (same_Some (Closed (record { tag = tag; value = p.0 } ∷ [])) t h.1))))
    (λ h. let m = option_map_some (InValue [] tag) (text_step p b) t h.1 in inl (m.0, sym m.2))
    (cond_cases (ends_at 93 p b) (Some (Closed (record { tag = tag; value = p.0 } ∷ []))) (option_map (InValue [] tag) (text_step p b)) (Some t) e)

run_keeps_tag : (tag : List ℕ) (p : List ℕ × Escape) (t : State) (bytes : List ℕ) → run step (InValue [] tag p) bytes ≡ Some t → HasTag tag t
run_keeps_tag tag p t [] e = inl (p, sym (same_Some (InValue [] tag p) t e))
run_keeps_tag tag p t (b ∷ bytes) e =
    elim (step (InValue [] tag p) b) as (λ o. step (InValue [] tag p) b ≡ o → option_and_then (λ u. run step u bytes) o ≡ Some t → HasTag tag t) [
      | None ↦ λ is h. absurd (none-some t h)
      | Some u ↦ λ is h.
          ⊎_elim {C = HasTag tag t}
          (λ inside. run_keeps_tag tag inside.0 t bytes (ap (λ w. run step w bytes) (sym inside.1) ∙ h))
          (λ whole. let rest = run_adds u t bytes h in inr (whole.0, whole.1 ++ rest.0, rest.1 ∙ ap (λ l. l ++ rest.0) whole.2))
          (step_keeps_tag tag p u b is)
    ] refl e

abbrev engine_front : List ℕ
engine_front = codes "[engine:"

pub engine_by_text : (id : List SegmentView) (text rest : List ℕ) → IsId id → text ≡ id_text id → length id ≡ 1 → text ≡ engine_front ++ rest → IsEngine id
engine_by_text id text rest ok e one split =
    let goes : run step (InValue [] (codes "engine") ([], Plain)) rest ≡ Some (Closed id) =
    sym (run-append step (Before []) (InValue [] (codes "engine") ([], Plain)) engine_front rest refl) ∙ ap (run step (Before [])) (sym split) ∙ run_whole text id ok e in
    ⊎_elim {C = IsEngine id}
    (λ inside. absurd (let h : Closed id ≡ InValue [] (codes "engine") inside.0 = inside.1 in cc))
    (λ whole. let same : id ≡ record { tag = codes "engine"; value = whole.0 } ∷ whole.1 = whole.2 in
    elim whole.1 as (λ more. id ≡ record { tag = codes "engine"; value = whole.0 } ∷ more → IsEngine id) [
      | [] ↦ λ h. (whole.0, h)
      | x ∷ more ↦ λ h. absurd (let n : length id ≡ length more + 2 = ap length h ∙ omega arith in omega arith)
    ] same)
    (run_keeps_tag (codes "engine") ([], Plain) (Closed id) rest goes)

pub front_is : (text front : List ℕ) → starts_with eqb text front ≡ true → take (length front) text ≡ front
front_is text front h = sym ((bytes_decides front (take (length front) text)).0 h)

pub split_at_front : (text front : List ℕ) (b : ℕ) → length front < length text → get_or text (length front) 0 ≡ b → take (length front) text ≡ front → text ≡ front ++ b ∷ drop (length front + 1) text
split_at_front text front b lt at e =
    sym (take-append-drop (length front) text) ∙ ap (λ l. l ++ drop (length front) text) e ∙ ap (λ l. front ++ l) (drop_more text (length front) 0 lt) ∙ ap (λ n. front ++ n ∷ drop (length front + 1) text) at

-- what the text of an id below another has
pub record GoesOn (outer inner : List ℕ) : Type 0 where
  pub longer : length outer < length inner
  pub slash : get_or inner (length outer) 0 ≡ 47
  pub front : starts_with eqb inner outer ≡ true

pub goes_on : (above id : List SegmentView) (outer inner : List ℕ) → IsId above → outer ≡ id_text above → inner ≡ id_text id → IsBelow above id → GoesOn outer inner
goes_on above id outer inner ok e f (s, more, same) =
    let rest = id_text (s ∷ more) in
    let split : inner ≡ outer ++ 47 ∷ rest = f ∙ ap id_text same ∙ id_text-below above s more ok.0 ∙ ap (λ l. l ++ 47 ∷ rest) (sym e) in
    let size : length inner ≡ length outer + length (47 ∷ rest) = ap length split ∙ length-append outer (47 ∷ rest) in
    record {
      longer = omega arith;
      slash = ap (λ l. get_or l (length outer) 0) split ∙ get_or_at outer 47 rest 0 (length outer) refl;
      front = (bytes_decides outer (take (length outer) inner)).1 (sym (ap (take (length outer)) split ∙ take_at outer (47 ∷ rest) (length outer) refl));
    }

pub below_exact : (above id : List SegmentView) (outer inner : List ℕ) (r : Bool) → IsId above → IsId id → outer ≡ id_text above → inner ≡ id_text id → length outer < length inner → get_or inner (length outer) 0 ≡ 47 → r ≡ starts_with eqb inner outer → (r ≡ true → IsBelow above id) × (IsBelow above id → r ≡ true)
below_exact above id outer inner r above_ok ok e f lt slash is = (
  λ yes. below_by_text above id outer inner (drop (length outer + 1) inner) above_ok ok e f (split_at_front inner outer 47 lt slash (front_is inner outer (sym is ∙ yes))),
  λ below. is ∙ (goes_on above id outer inner above_ok e f below).front,
)

pub engine_exact : (id : List SegmentView) (text : List ℕ) (r : Bool) → IsId id → text ≡ id_text id → length id ≡ 1 → r ≡ starts_with eqb text engine_front → (r ≡ true → IsEngine id) × (IsEngine id → r ≡ true)
engine_exact id text r ok e one is = (
  λ yes. engine_by_text id text (drop (length engine_front) text) ok e one
      (sym (take-append-drop (length engine_front) text) ∙ ap (λ l. l ++ drop (length engine_front) text) (front_is text engine_front (sym is ∙ yes))),
  λ engine. is ∙ ap (λ l. starts_with eqb l engine_front) (e ∙ ap id_text engine.1),
)
