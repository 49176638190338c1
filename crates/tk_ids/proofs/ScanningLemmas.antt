-- The machine that keeps no segments goes where the machine with segments goes.
use Rattle.std.proofs.Common.{◌≡◌, ℕ, zero, suc, ◌+◌, ◌-◌, ◌<◌, ◌≤◌, Bool, true, false, cond, eqb, ltb, List, [], ◌∷◌, ◌++◌, length, get_or, Option, Some, None, option_map, is_some, refl, sym, ap, ◌∙◌, subst, arith, ⊎_elim, add-zero}
use Rattle.std.specs.Str.{IsUtf8}
use Rattle.std.proofs.lemmas.Option.{same_Some, cond_some}
use Rattle.std.proofs.lemmas.List.{append-nil, length-append}
use Rattle.std.proofs.lemmas.Bool.{lt-ltb}
use Rattle.tk_ids.specs.declared.escapes.Escape.{Escape}
use Rattle.tk_ids.specs.declared.escapes.Escape.TheVariants.{Plain, Percent, Digit}
use Rattle.tk_ids.specs.declared.scanning.Part.{Part}
use Rattle.tk_ids.specs.declared.scanning.ScanState.{ScanState}
use Rattle.tk_ids.specs.declared.scanning.ScanState.TheVariants.{Start, Tag, Value, End}
use Rattle.tk_ids.specs.IdText.{SegmentView, digits_of}
use Rattle.tk_ids.specs.Reading.{State, Before, InTag, InValue, Closed, byte_of, is_first_digit, text_step, ends_at, step}
use Rattle.tk_ids.specs.Answer.{IsBadAt}
use Rattle.tk_ids.specs.steps.Scanning.{part, part_after, is_ended, state_after, ended_segments, KeepsPlainBytes, ArePlain, HasSegments}
use Rattle.tk_ids.proofs.ReadingLemmas.{HasRead, read_none, read_more, end_whole, cond_cases, option_map_some}
use Rattle.tk_ids.proofs.AnswerLemmas.{bad_where_stuck, bad_at_end}

abbrev pub part_of : List ℕ × Escape → Part
part_of p = part (ltb 0 (length p.0)) p.1

-- the whole segments that were read
abbrev pub done_of : State → List SegmentView
done_of (Before done) = done
done_of (InTag done p) = done
done_of (InValue done tag p) = done
done_of (Closed done) = done

abbrev pub scanned : State → ScanState
scanned (Before done) = Start
scanned (InTag done p) = Tag (part_of p)
scanned (InValue done tag p) = Value (part_of p)
scanned (Closed done) = End

has_bytes : (bytes : List ℕ) (b : ℕ) → ltb 0 (length (bytes ++ b ∷ [])) ≡ true
has_bytes bytes b = lt-ltb 0 (length (bytes ++ b ∷ [])) (simp length-append (omega arith))

plain_after : (bytes : List ℕ) (b : ℕ) (x y : Bool) → cond x (Some (part (ltb 0 (length bytes)) Percent)) (cond y None (Some (part true Plain))) ≡ option_map part_of (cond x (Some (bytes, Percent)) (cond y None (Some (bytes ++ b ∷ [], Plain))))
plain_after bytes b true y = refl
plain_after bytes b false true = refl
plain_after bytes b false false = ap (λ h. Some (part h Plain)) (sym (has_bytes bytes b))

percent_after : (bytes : List ℕ) (b : ℕ) (x : Bool) → cond x (Some (part (ltb 0 (length bytes)) (Digit b))) None ≡ option_map part_of (cond x (Some (bytes, Digit b)) None)
percent_after bytes b true = refl
percent_after bytes b false = refl

digit_after : (bytes : List ℕ) (o : Option ℕ) → cond (is_some o) (Some (part true Plain)) None ≡ option_map part_of (option_map (λ c. (bytes ++ c ∷ [], Plain)) o)
digit_after bytes None = refl
digit_after bytes (Some c) = ap (λ h. Some (part h Plain)) (sym (has_bytes bytes c))

part_after-part_of : (p : List ℕ × Escape) (b : ℕ) → part_after (ltb 0 (length p.0)) p.1 b ≡ option_map part_of (text_step p b)
part_after-part_of (bytes, Plain) b = plain_after bytes b (eqb b 37) (is_some (digits_of b))
part_after-part_of (bytes, Percent) b = percent_after bytes b (is_first_digit b)
part_after-part_of (bytes, Digit x) b = digit_after bytes (byte_of x b)

is_ended-part_of : (stop : ℕ) (p : List ℕ × Escape) (b : ℕ) → is_ended stop (ltb 0 (length p.0)) p.1 b ≡ ends_at stop p b
is_ended-part_of stop (bytes, Plain) b = refl
is_ended-part_of stop (bytes, Percent) b = refl
is_ended-part_of stop (bytes, Digit x) b = refl

-- a part goes on or ends alike
part_goes_alike : (goes : Part → ScanState) (inside : List ℕ × Escape → State) (after : ScanState) (t : State) → ((p : List ℕ × Escape) → goes (part_of p) ≡ scanned (inside p)) → after ≡ scanned t → (x : Bool) (o : Option (List ℕ × Escape)) → cond x (Some after) (option_map goes (option_map part_of o)) ≡ option_map scanned (cond x (Some t) (option_map inside o))
part_goes_alike goes inside after t alike same true o = ap Some same
part_goes_alike goes inside after t alike same false None = refl
part_goes_alike goes inside after t alike same false (Some p) = ap Some (alike p)

bracket_alike : (done : List SegmentView) (x : Bool) → cond x (Some (Tag (part false Plain))) None ≡ option_map scanned (cond x (Some (InTag done ([], Plain))) None)
bracket_alike done true = refl
bracket_alike done false = refl

slash_alike : (done : List SegmentView) (x : Bool) → cond x (Some Start) None ≡ option_map scanned (cond x (Some (Before done)) None)
slash_alike done true = refl
slash_alike done false = refl

pub state_after-scanned : (s : State) (b : ℕ) → state_after (scanned s) b ≡ option_map scanned (step s b)
state_after-scanned (Before done) b = bracket_alike done (eqb b 91)
state_after-scanned (InTag done p) b =
    ap (λ t. cond t (Some (Value (part false Plain))) (option_map Tag (part_after (ltb 0 (length p.0)) p.1 b))) (is_ended-part_of 58 p b)
    ∙ ap (λ o. cond (ends_at 58 p b) (Some (Value (part false Plain))) (option_map Tag o)) (part_after-part_of p b)
    ∙ part_goes_alike Tag (InTag done) (Value (part false Plain)) (InValue done p.0 ([], Plain)) (λ q. refl) refl (ends_at 58 p b) (text_step p b)
state_after-scanned (InValue done tag p) b =
    ap (λ t. cond t (Some End) (option_map Value (part_after (ltb 0 (length p.0)) p.1 b))) (is_ended-part_of 93 p b)
    ∙ ap (λ o. cond (ends_at 93 p b) (Some End) (option_map Value o)) (part_after-part_of p b)
    ∙ part_goes_alike Value (InValue done tag) End (Closed (done ++ record { tag = tag; value = p.0 } ∷ [])) (λ q. refl) refl (ends_at 93 p b) (text_step p b)
state_after-scanned (Closed done) b = slash_alike done (eqb b 47)

-- A step keeps the whole segments, and may add one.
pub record Adds (s t : State) : Type 0 where
  pub more : List SegmentView
  pub added : done_of t ≡ done_of s ++ more
  pub count : length (done_of t) ≡ length (done_of s) + ended_segments (scanned t)

adds_none : (s t : State) → done_of t ≡ done_of s → ended_segments (scanned t) ≡ 0 → Adds s t
adds_none s t same none =
    record {
      more = [];
      added = same ∙ sym (append-nil (done_of s));
      count = ap length same ∙ sym (add-zero (length (done_of s))) ∙ ap (λ n. length (done_of s) + n) (sym none);
    }

pub step_adds : (s t : State) (b : ℕ) → step s b ≡ Some t → Adds s t
step_adds (Before done) t b e =
    let h = cond_some (eqb b 91) (InTag done ([], Plain)) t e in
    subst (Adds (Before done)) h.1 (adds_none (Before done) (InTag done ([], Plain)) refl refl)
step_adds (InTag done p) t b e =
    ⊎_elim {C = Adds (InTag done p) t}
    (λ h. subst (Adds (InTag done p)) (same_Some (InValue done p.0 ([], Plain)) t h.1) (adds_none (InTag done p) (InValue done p.0 ([], Plain)) refl refl))
    (λ h. let m = option_map_some (InTag done) (text_step p b) t h.1 in
    subst (Adds (InTag done p)) m.2 (adds_none (InTag done p) (InTag done m.0) refl refl))
    (cond_cases (ends_at 58 p b) (Some (InValue done p.0 ([], Plain))) (option_map (InTag done) (text_step p b)) (Some t) e)
step_adds (InValue done tag p) t b e =
    let whole : SegmentView = record { tag = tag; value = p.0 } in
    ⊎_elim {C = Adds (InValue done tag p) t}
    (λ h. subst (Adds (InValue done tag p)) (same_Some (Closed (done ++ whole ∷ [])) t h.1) (record { more = whole ∷ []; added = refl; count = simp length-append }))
    (λ h. let m = option_map_some (InValue done tag) (text_step p b) t h.1 in
    subst (Adds (InValue done tag p)) m.2 (adds_none (InValue done tag p) (InValue done tag m.0) refl refl))
    (cond_cases (ends_at 93 p b) (Some (Closed (done ++ whole ∷ []))) (option_map (InValue done tag) (text_step p b)) (Some t) e)
step_adds (Closed done) t b e =
    let h = cond_some (eqb b 47) (Before done) t e in
    subst (Adds (Closed done)) h.1 (adds_none (Closed done) (Before done) refl refl)

-- The prefix of a text of n bytes has been read, and led to this state, after `count` segments.
pub record IsScanned (text : List ℕ) (n : ℕ) (scan : ScanState) (count : ℕ) : Type 0 where
  pub state : State
  pub read : HasRead text n state
  pub here : scanned state ≡ scan
  pub counted : count ≡ length (done_of state)
  pub few : count ≤ n

pub scan_none : (text : List ℕ) → IsUtf8 text → IsScanned text 0 Start 0
scan_none text u = record { state = Before []; read = read_none text u; here = refl; counted = refl; few = omega arith }

ended_most : (state : ScanState) → ended_segments state ≤ 1
ended_most Start = omega arith
ended_most (Tag p) = omega arith
ended_most (Value p) = omega arith
ended_most End = omega arith

pub scan_more : (text : List ℕ) (n count : ℕ) (state next : ScanState) → IsScanned text n state count → n < length text → state_after state (get_or text n 0) ≡ Some next → IsScanned text (n + 1) next (count + ended_segments next)
scan_more text n count state next h lt e =
    let b = get_or text n 0 in
    let m = option_map_some scanned (step h.state b) next (sym (state_after-scanned h.state b) ∙ ap (λ p. state_after p b) h.here ∙ e) in
    let adds = step_adds h.state m.0 b m.1 in
    let most = ended_most next in
    let few = h.few in
    record {
      state = m.0;
      read = read_more text n h.state m.0 h.read lt m.1;
      here = m.2;
      counted = ap (λ k. k + ended_segments next) h.counted ∙ ap (λ p. length (done_of h.state) + ended_segments p) (sym m.2) ∙ sym adds.count;
      few = omega arith;
    }

-- a state that a byte leaves as it is has ended no segment
ended_none : (state : ScanState) (b : ℕ) → state_after state b ≡ Some state → ended_segments state ≡ 0
ended_none Start b e = refl
ended_none (Tag p) b e = refl
ended_none (Value p) b e = refl
ended_none End b e = let h = (cond_some (eqb b 47) Start End e).1 in cc

scan_plain_bytes : (text : List ℕ) (n count k : ℕ) (state : ScanState) → IsScanned text n state count → KeepsPlainBytes state → ArePlain text n (n + k) → IsScanned text (n + k) state count
scan_plain_bytes text n count zero state h keeps plain = subst (λ m. IsScanned text m state count) (sym (add-zero n)) h
scan_plain_bytes text n count (suc k) state h keeps plain =
    let within = plain.within in
    let e = keeps (get_or text n 0) (plain.plain n (omega arith) (omega arith)) in
    let one = scan_more text n count state state h (omega arith) e in
    let same = subst (IsScanned text (n + 1) state) (ap (λ m. count + m) (ended_none state (get_or text n 0) e) ∙ add-zero count) one in
    let rest : ArePlain text (n + 1) ((n + 1) + k) = record { after = omega arith; within = omega arith; plain = λ i le lt. plain.plain i (omega arith) (omega arith) } in
    subst (λ m. IsScanned text m state count) (omega arith) (scan_plain_bytes text (n + 1) count k state same keeps rest)

-- bytes that need no escape leave such a state as it is
pub scan_plain : (text : List ℕ) (n end count : ℕ) (state : ScanState) → IsScanned text n state count → KeepsPlainBytes state → ArePlain text n end → IsScanned text end state count
scan_plain text n end count state h keeps plain =
    let after = plain.after in
    let m : n + (end - n) ≡ end = omega arith in
    subst (λ m. IsScanned text m state count) m (scan_plain_bytes text n count (end - n) state h keeps (subst (ArePlain text n) (sym m) plain))

none_of : (o : Option State) → option_map scanned o ≡ None → o ≡ None
none_of None e = refl
none_of (Some t) e = cc

pub scan_stuck : (text : List ℕ) (n count : ℕ) (state : ScanState) → IsScanned text n state count → n < length text → state_after state (get_or text n 0) ≡ None → IsBadAt text n
scan_stuck text n count state h lt e =
    let b = get_or text n 0 in
    bad_where_stuck text n h.state h.read lt (none_of (step h.state b) (sym (state_after-scanned h.state b) ∙ ap (λ p. state_after p b) h.here ∙ e))

closed_at : (s : State) → scanned s ≡ End → s ≡ Closed (done_of s)
closed_at (Before done) e = cc
closed_at (InTag done p) e = cc
closed_at (InValue done tag p) e = cc
closed_at (Closed done) e = refl

pub scan_end : (text : List ℕ) (n count : ℕ) (state : ScanState) → IsScanned text n state count → length text ≤ n → state ≡ End → HasSegments text count
scan_end text n count state h le e =
    let closed = closed_at h.state (h.here ∙ e) in
    let id = end_whole text n (done_of h.state) (subst (HasRead text n) closed h.read) le in
    (done_of h.state, id.0, id.1, h.counted)

pub scan_open : (text : List ℕ) (n count : ℕ) (state : ScanState) → IsScanned text n state count → 0 < length text → length text ≤ n → (state ≡ End → ⊥) → IsBadAt text (length text)
scan_open text n count state h some le open_at =
    bad_at_end text n h.state h.read some le (λ done e. open_at (sym h.here ∙ ap scanned e))
