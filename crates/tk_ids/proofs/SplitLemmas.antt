-- The first segment of an id is split off its texts.
use Rattle.std.proofs.Common.{◌≡◌, ℕ, ◌+◌, ◌-◌, ◌<◌, ◌≤◌, min, cond, eqb, List, [], ◌∷◌, ◌++◌, length, length-drop, take, drop, get_or, refl, sym, ap, ◌∙◌, subst, arith, inl, inr, ◌⊎◌, ⊎_elim}
use Rattle.std.specs.Prelude.{map}
use Rattle.std.specs.List.{AllByRecursion, join_with_byte, slice_range}
use Rattle.std.specs.Str.{IsUtf8, IsCharBoundary}
use Rattle.std.proofs.Math.Nat.{min-eq_left, min_comm}
use Rattle.std.proofs.lemmas.Bool.{ne_eqb, cases_lt}
use Rattle.std.proofs.lemmas.List.{append_assoc, append-nil, take_at, take_all, drop_at, drop_all, get_or_at, length-append}
use Rattle.std.proofs.lemmas.Str.{IsUtf8-append, IsUtf8-nil, IsCharBoundary-from_drop}
use Rattle.tk_ids.specs.IdText.{SegmentView, digits_of, spelled_by, escaped, segment_text, id_text, IsSegment}
use Rattle.tk_ids.specs.IdSegments.{segments_of, whole_segments}
use Rattle.tk_ids.specs.PlainText.{plain_segment_text, plain_text}
use Rattle.tk_ids.specs.LentSegments.{AreTextsOf}
use Rattle.tk_ids.specs.steps.IdSegments.{HasLengths}
use Rattle.tk_ids.specs.Machine.{run}
use Rattle.tk_ids.specs.Reading.{Before, step}
use Rattle.tk_ids.proofs.IdLemmas.{digits_elim}
use Rattle.tk_ids.proofs.IdSegmentLemmas.{segments_of-id_text}
use Rattle.tk_ids.proofs.PlainTextLemmas.{spread, utf8_plain_text}
use Rattle.tk_ids.proofs.TextLemmas.{utf8_one}

-- the first byte of what a byte is written as, and those after it
pub record StartsAs (bytes : List ℕ) : Type 0 where
  pub head : ℕ
  pub tail : List ℕ
  pub is : bytes ≡ head ∷ tail
  pub not_colon : head ≡ 58 → ⊥
  pub not_bracket : head ≡ 93 → ⊥
  pub size : length tail ≡ cond (eqb head 37) 2 0

starts : (b : ℕ) → StartsAs (spelled_by b (digits_of b))
starts =
    let row : (x y : ℕ) → StartsAs (37 ∷ x ∷ y ∷ []) =
    λ x y. record { head = 37; tail = x ∷ y ∷ []; is = refl; not_colon = λ e. absurd (omega arith); not_bracket = λ e. absurd (omega arith); size = refl } in
    digits_elim (λ c o. StartsAs (spelled_by c o)) (row 50 53) (row 50 66) (row 53 66) (row 53 68) (row 51 65) (row 50 70)
    (λ c percent colon bracket. record { head = c; tail = []; is = refl; not_colon = colon; not_bracket = bracket; size = ap (λ t. cond t 2 0) (sym (ne_eqb c 37 percent)) })

-- what is read of a part, and what is left of it
pub record IsReadTo (text part rest : List ℕ) (stop at count : ℕ) : Type 0 where
  pub before : List ℕ
  pub left : List ℕ
  pub split : text ≡ before ++ (escaped left ++ stop ∷ rest)
  pub at_is : length before ≡ at
  pub escaped_is : at + length (escaped left) ≡ length (escaped part)
  pub plain_is : count + length left ≡ length part

pub record IsMeasured (text : List ℕ) (stop at count : ℕ) : Type 0 where
  pub few : count ≤ at
  pub within : at ≤ length text + 2
  pub part : (part rest : List ℕ) → text ≡ escaped part ++ stop ∷ rest → IsReadTo text part rest stop at count

abbrev pub IsStop : ℕ → Type 0
IsStop stop = (stop ≡ 58) ⊎ (stop ≡ 93)

no_stop : (stop : ℕ) (bytes : List ℕ) (s : StartsAs bytes) → IsStop stop → s.head ≡ stop → ⊥
no_stop stop bytes s (inl e) is = s.not_colon (is ∙ e)
no_stop stop bytes s (inr e) is = s.not_bracket (is ∙ e)

-- the byte after what is read
byte_at : (text before bytes rest : List ℕ) (at b : ℕ) → text ≡ before ++ (b ∷ rest) → length before ≡ at → get_or text at 0 ≡ b
byte_at text before bytes rest at b e is = ap (λ l. get_or l at 0) e ∙ get_or_at before b rest 0 at is

read_more : (text part rest : List ℕ) (stop at count step : ℕ) → IsStop stop → IsReadTo text part rest stop at count → (get_or text at 0 ≡ stop → ⊥) → step ≡ 1 + cond (eqb (get_or text at 0) 37) 2 0
    → IsReadTo text part rest stop (at + step) (count + 1)
read_more text part rest stop at count step is_stop h other is =
    elim h.left as (λ left. (text ≡ h.before ++ (escaped left ++ stop ∷ rest)) → (at + length (escaped left) ≡ length (escaped part)) → (count + length left ≡ length part) → IsReadTo text part rest stop (at + step) (count + 1)) [
      | [] ↦ λ split e f. absurd (other (byte_at text h.before [] rest at stop split h.at_is))
      | b ∷ left ↦ λ split e f.
          let s = starts b in
          let spelled = spelled_by b (digits_of b) in
          let after : List ℕ = escaped left ++ stop ∷ rest in
          let whole : text ≡ h.before ++ (s.head ∷ s.tail ++ after) =
          split ∙ ap (λ l. h.before ++ l) (append_assoc spelled (escaped left) (stop ∷ rest) ∙ ap (λ l. l ++ after) s.is) in
          let head : get_or text at 0 ≡ s.head = byte_at text h.before [] (s.tail ++ after) at s.head whole h.at_is in
          let size : step ≡ 1 + length s.tail = is ∙ ap (λ c. 1 + cond (eqb c 37) 2 0) head ∙ ap (λ n. 1 + n) (sym s.size) in
          let longer : length (spelled ++ escaped left) ≡ length (s.head ∷ s.tail) + length (escaped left) = ap (λ l. length (l ++ escaped left)) s.is ∙ length-append (s.head ∷ s.tail) (escaped left) in
          let at_is = h.at_is in
          record {
            before = h.before ++ s.head ∷ s.tail;
            left = left;
            split = whole ∙ sym (append_assoc h.before (s.head ∷ s.tail) after);
            at_is = length-append h.before (s.head ∷ s.tail) ∙ omega (arith, size, at_is);
            escaped_is = omega (arith, size, longer, e);
            plain_is = omega (arith, f);
          }
    ] h.split h.escaped_is h.plain_is

pub measured_more : (text : List ℕ) (stop at count step : ℕ) → IsStop stop → IsMeasured text stop at count → at < length text → (get_or text at 0 ≡ stop → ⊥) → step ≡ 1 + cond (eqb (get_or text at 0) 37) 2 0 → step ≤ 3 → 1 ≤ step
    → IsMeasured text stop (at + step) (count + 1)
measured_more text stop at count step is_stop h lt other is most least = record {
  few = omega (arith, h.few);
  within = omega arith;
  part = λ part rest e. read_more text part rest stop at count step is_stop (h.part part rest e) other is;
}

pub measured_end : (text : List ℕ) (stop at count : ℕ) → IsStop stop → IsMeasured text stop at count → (at < length text → get_or text at 0 ≡ stop) → (part rest : List ℕ) → text ≡ escaped part ++ stop ∷ rest → HasLengths part at count
measured_end text stop at count is_stop h ends part rest e =
    let r = h.part part rest e in
    elim r.left as (λ left. (text ≡ r.before ++ (escaped left ++ stop ∷ rest)) → (at + length (escaped left) ≡ length (escaped part)) → (count + length left ≡ length part) → HasLengths part at count) [
      | [] ↦ λ split f g. record { escaped = omega (arith, f); plain = omega (arith, g) }
      | b ∷ left ↦ λ split f g.
          let s = starts b in
          let spelled = spelled_by b (digits_of b) in
          let after : List ℕ = escaped left ++ stop ∷ rest in
          let whole : text ≡ r.before ++ (s.head ∷ s.tail ++ after) =
          split ∙ ap (λ l. r.before ++ l) (append_assoc spelled (escaped left) (stop ∷ rest) ∙ ap (λ l. l ++ after) s.is) in
          let size : length text ≡ length r.before + length (s.head ∷ s.tail ++ after) = ap length whole ∙ length-append r.before (s.head ∷ s.tail ++ after) in
          let at_is = r.at_is in
          let lt : at < length text = omega (arith, size, at_is) in
          absurd (no_stop stop spelled s is_stop (sym (byte_at text r.before [] (s.tail ++ after) at s.head whole r.at_is) ∙ ends lt))
    ] r.split r.escaped_is r.plain_is

-- The texts of segments, each spelled by `spell`.
module _ (spell : SegmentView → List ℕ) where
  abbrev pub joined : List SegmentView → List ℕ
  joined segments = join_with_byte 47 (map spell segments)

  -- what follows the text of a segment
  abbrev pub after : List SegmentView → List ℕ
  after [] = []
  after (s ∷ more) = 47 ∷ joined (s ∷ more)

  first_joined : (s : SegmentView) (more : List SegmentView) → joined (s ∷ more) ≡ spell s ++ after more
  first_joined s [] = sym (append-nil (spell s))
  first_joined s (t ∷ more) = refl

  -- the texts of the next segments
  pub next_joined : (more : List SegmentView) (value text : List ℕ) (n : ℕ) → text ≡ value ++ 93 ∷ after more → ((n ≡ length value + 2) × (n ≤ length text)) ⊎ ((n ≡ length text) × (n ≤ length value + 2)) → drop n text ≡ joined more
  next_joined [] value text n e n_is =
      let size : length text ≡ length value + 1 = ap length e ∙ length-append value (93 ∷ []) in
      drop_all n text (⊎_elim {C = length text ≤ n} (λ h. omega (arith, h.0, h.1, size)) (λ h. omega (arith, h.0)) n_is)
  next_joined (s ∷ more) value text n e n_is =
      let rest = joined (s ∷ more) in
      let size : length text ≡ length value + length (93 ∷ 47 ∷ rest) = ap length e ∙ length-append value (93 ∷ 47 ∷ rest) in
      let whole : n ≡ length value + 2 = ⊎_elim {C = n ≡ length value + 2} (λ h. h.0) (λ h. omega (arith, h.0, h.1, size)) n_is in
      let split : text ≡ (value ++ 93 ∷ 47 ∷ []) ++ rest = e ∙ sym (append_assoc value (93 ∷ 47 ∷ []) rest) in
      ap (drop n) split ∙ drop_at (value ++ 93 ∷ 47 ∷ []) rest n (length-append value (93 ∷ 47 ∷ []) ∙ sym whole)

-- the first segment of two texts
pub record IsFirst (text plain : List ℕ) (s : SegmentView) (more : List SegmentView) : Type 0 where
  pub whole : segments_of text ≡ s ∷ more
  pub segment : IsSegment s
  pub others : AllByRecursion IsSegment more
  pub spells : text ≡ 91 ∷ (escaped s.tag ++ 58 ∷ (escaped s.value ++ 93 ∷ after segment_text more))
  pub spells_plain : plain ≡ 91 ∷ (s.tag ++ 58 ∷ (s.value ++ 93 ∷ after plain_segment_text more))

pub first_of : (text plain : List ℕ) (count : ℕ) → AreTextsOf text plain count → (count ≡ 0 → ⊥) → (s : SegmentView) × (more : List SegmentView) × IsFirst text plain s more
first_of text plain count h some =
    elim (segments_of text) as (λ l. segments_of text ≡ l → (s : SegmentView) × (more : List SegmentView) × IsFirst text plain s more) [
      | [] ↦ λ e. absurd (some (h.counted ∙ ap length e))
      | s ∷ more ↦ λ e.
          let all : AllByRecursion IsSegment (s ∷ more) = subst (AllByRecursion IsSegment) e h.segments in (
            s,
            more,
            record {
              whole = e;
              segment = all.0;
              others = all.1;
              spells = h.spells ∙ ap id_text e ∙ first_joined segment_text s more ∙ spread (escaped s.tag) (escaped s.value) (after segment_text more);
              spells_plain = h.spells_plain ∙ ap plain_text e ∙ first_joined plain_segment_text s more ∙ spread s.tag s.value (after plain_segment_text more);
            },
          )
    ] refl

-- `&text[n..]`
abbrev pub cut : ℕ → List ℕ → List ℕ
cut n text = take (length text - n) (drop n text)

cut_is : (n : ℕ) (text : List ℕ) → cut n text ≡ drop n text
cut_is n text = take_all (length text - n) (drop n text) (let e : length (drop n text) ≡ length text - n = length-drop n text in omega (arith, e))

abbrev pub AreLengthsAt : List ℕ → ℕ → ℕ → ℕ → Type 0
AreLengthsAt text stop escaped_length plain_length =
    (part rest : List ℕ) → text ≡ escaped part ++ stop ∷ rest → HasLengths part escaped_length plain_length

-- the tag is measured
pub record IsTagSplit (text : List ℕ) (s : SegmentView) (more : List SegmentView) (escaped_length plain_length : ℕ) : Type 0 where
  pub lengths : HasLengths s.tag escaped_length plain_length
  pub some : 1 ≤ length text
  pub within : escaped_length + 1 ≤ length (cut 1 text)
  pub few : escaped_length + 2 ≤ length text
  pub value_few : length (escaped s.value) + 3 ≤ length text
  pub from_value : cut (escaped_length + 1) (cut 1 text) ≡ escaped s.value ++ 93 ∷ after segment_text more

pub tag_split : (text plain : List ℕ) (s : SegmentView) (more : List SegmentView) (e p : ℕ) → IsFirst text plain s more → AreLengthsAt (cut 1 text) 58 e p → IsTagSplit text s more e p
tag_split text plain s more e p f measured =
    let tail : List ℕ = escaped s.value ++ 93 ∷ after segment_text more in
    let from_tag : cut 1 text ≡ escaped s.tag ++ 58 ∷ tail = cut_is 1 text ∙ ap (drop 1) f.spells in
    let lengths : HasLengths s.tag e p = measured s.tag tail from_tag in
    let is : e ≡ length (escaped s.tag) = lengths.escaped in
    let size : length (cut 1 text) ≡ length (escaped s.tag) + length (58 ∷ tail) = ap length from_tag ∙ length-append (escaped s.tag) (58 ∷ tail) in
    let whole : length text ≡ length (91 ∷ (escaped s.tag ++ 58 ∷ tail)) = ap length f.spells in
    let inner : length (escaped s.tag ++ 58 ∷ tail) ≡ length (escaped s.tag) + length (58 ∷ tail) = length-append (escaped s.tag) (58 ∷ tail) in
    record {
      lengths = lengths;
      some = omega (arith, whole);
      within = omega (arith, size, is);
      few = omega (arith, whole, inner, is);
      value_few = let last : length tail ≡ length (escaped s.value) + length (93 ∷ after segment_text more) = length-append (escaped s.value) (93 ∷ after segment_text more) in omega (arith, whole, inner, last);
      from_value = cut_is (e + 1) (cut 1 text) ∙ ap (drop (e + 1)) (from_tag ∙ sym (append_assoc (escaped s.tag) (58 ∷ []) tail))
          ∙ drop_at (escaped s.tag ++ 58 ∷ []) tail (e + 1) (length-append (escaped s.tag) (58 ∷ []) ∙ omega (arith, is));
    }

-- a place after which there is text
boundary_after : (plain front rest : List ℕ) (n : ℕ) → plain ≡ front ++ rest → length front ≡ n → IsUtf8 rest → IsCharBoundary plain n
boundary_after plain front rest n e is u =
    let size : length plain ≡ length front + length rest = ap length e ∙ length-append front rest in
    IsCharBoundary-from_drop plain n (omega (arith, size, is)) (subst IsUtf8 (sym (ap (drop n) e ∙ drop_at front rest n is)) u)

range_is : (plain front part rest : List ℕ) (a b : ℕ) → plain ≡ front ++ (part ++ rest) → length front ≡ a → b ≡ a + length part → slice_range plain a b ≡ part
range_is plain front part rest a b e is ends =
    ap (take (b - a)) (ap (drop a) e ∙ drop_at front (part ++ rest) a is) ∙ take_at part rest (b - a) (omega (arith, ends))

utf8_after_all : (more : List SegmentView) → AllByRecursion IsSegment more → IsUtf8 (after plain_segment_text more)
utf8_after_all [] all = IsUtf8-nil
utf8_after_all (s ∷ more) all = utf8_one 47 (plain_text (s ∷ more)) (omega arith) (utf8_plain_text (s ∷ more) all)

-- the tag and the value in the text without escapes
pub record IsPlainSplit (plain : List ℕ) (s : SegmentView) (tag value : ℕ) : Type 0 where
  pub within : tag + 1 + 1 + value + 1 ≤ length plain
  pub tag_start : IsCharBoundary plain 1
  pub tag_end : IsCharBoundary plain (tag + 1)
  pub value_start : IsCharBoundary plain (tag + 1 + 1)
  pub value_end : IsCharBoundary plain (tag + 1 + 1 + value)
  pub tag_is : slice_range plain 1 (tag + 1) ≡ s.tag
  pub value_is : slice_range plain (tag + 1 + 1) (tag + 1 + 1 + value) ≡ s.value

pub plain_split : (text plain : List ℕ) (s : SegmentView) (more : List SegmentView) (tag value : ℕ) → IsFirst text plain s more → tag ≡ length s.tag → value ≡ length s.value → IsPlainSplit plain s tag value
plain_split text plain s more tag value f tag_is value_is =
    let rest : List ℕ = 93 ∷ after plain_segment_text more in
    let valued : List ℕ = s.value ++ rest in
    let front : List ℕ = 91 ∷ s.tag in
    let colon : List ℕ = front ++ 58 ∷ [] in
    let u_rest : IsUtf8 rest = utf8_one 93 _ (omega arith) (utf8_after_all more f.others) in
    let u_value : IsUtf8 valued = IsUtf8-append s.value rest f.segment.1.1 u_rest in
    let u_colon : IsUtf8 (58 ∷ valued) = utf8_one 58 valued (omega arith) u_value in
    let at_colon : plain ≡ front ++ 58 ∷ valued = f.spells_plain in
    let at_value : plain ≡ colon ++ valued = at_colon ∙ sym (append_assoc front (58 ∷ []) valued) in
    let at_end : plain ≡ (colon ++ s.value) ++ rest = at_value ∙ sym (append_assoc colon s.value rest) in
    let colon_length : length colon ≡ length front + 1 = length-append front (58 ∷ []) in
    let end_length : length (colon ++ s.value) ≡ length colon + length s.value = length-append colon s.value in
    let size : length plain ≡ length (colon ++ s.value) + length rest = ap length at_end ∙ length-append (colon ++ s.value) rest in
    record {
      within = omega (arith, size, end_length, colon_length, tag_is, value_is);
      tag_start = boundary_after plain (91 ∷ []) (s.tag ++ 58 ∷ valued) 1 f.spells_plain refl (IsUtf8-append s.tag (58 ∷ valued) f.segment.0.1 u_colon);
      tag_end = boundary_after plain front (58 ∷ valued) (tag + 1) at_colon (omega (arith, tag_is)) u_colon;
      value_start = boundary_after plain colon valued (tag + 1 + 1) at_value (omega (arith, colon_length, tag_is)) u_value;
      value_end = boundary_after plain (colon ++ s.value) rest (tag + 1 + 1 + value) at_end (omega (arith, end_length, colon_length, tag_is, value_is)) u_rest;
      tag_is = range_is plain (91 ∷ []) s.tag (58 ∷ valued) 1 (tag + 1) f.spells_plain refl (omega (arith, tag_is));
      value_is = range_is plain colon s.value rest (tag + 1 + 1) (tag + 1 + 1 + value) at_value (omega (arith, colon_length, tag_is)) (omega (arith, value_is));
    }

min_cases : (n a b : ℕ) → n ≡ min a b → ((n ≡ a) × (n ≤ b)) ⊎ ((n ≡ b) × (n ≤ a))
min_cases n a b e =
    ⊎_elim {C = ((n ≡ a) × (n ≤ b)) ⊎ ((n ≡ b) × (n ≤ a))}
    (λ (lt : a < b). let is : n ≡ a = e ∙ min-eq_left (omega arith) in inl (is, omega (arith, is)))
    (λ (le : b ≤ a). let is : n ≡ b = e ∙ min_comm a b ∙ min-eq_left le in inr (is, omega (arith, is)))
    (cases_lt a b)

-- the next segments' text
pub next_text : (text : List ℕ) (s : SegmentView) (more : List SegmentView) (length_of n : ℕ) → text ≡ escaped s.value ++ 93 ∷ after segment_text more → length_of ≡ length (escaped s.value) → n ≡ min (length_of + 2) (length text) → cut n text ≡ id_text more
next_text text s more length_of n e is n_is =
    cut_is n text ∙ next_joined segment_text more (escaped s.value) text n e (min_cases n (length (escaped s.value) + 2) (length text) (n_is ∙ ap (λ k. min (k + 2) (length text)) is))

-- and without escapes
pub record IsNextPlain (plain : List ℕ) (more : List SegmentView) (n : ℕ) : Type 0 where
  pub within : n ≤ length plain
  pub text : drop n plain ≡ plain_text more
  pub boundary : IsCharBoundary plain n

pub next_plain : (text plain : List ℕ) (s : SegmentView) (more : List SegmentView) (tag value n : ℕ) → IsFirst text plain s more → tag ≡ length s.tag → value ≡ length s.value → n ≡ min (tag + 1 + 1 + value + 2) (length plain) → IsNextPlain plain more n
next_plain text plain s more tag value n f tag_is value_is n_is =
    let rest : List ℕ = 93 ∷ after plain_segment_text more in
    let front : List ℕ = (91 ∷ s.tag) ++ 58 ∷ s.value in
    let split : plain ≡ front ++ rest = f.spells_plain ∙ sym (append_assoc (91 ∷ s.tag) (58 ∷ s.value) rest) in
    let size : length front ≡ length (91 ∷ s.tag) + length (58 ∷ s.value) = length-append (91 ∷ s.tag) (58 ∷ s.value) in
    let same : tag + 1 + 1 + value + 2 ≡ length front + 2 = omega (arith, size, tag_is, value_is) in
    let cases = min_cases n (length front + 2) (length plain) (n_is ∙ ap (λ k. min k (length plain)) same) in
    let within : n ≤ length plain = ⊎_elim {C = n ≤ length plain} (λ h. h.1) (λ h. omega (arith, h.0)) cases in
    let next : drop n plain ≡ plain_text more = next_joined plain_segment_text more front plain n split cases in
    record { within = within; text = next; boundary = IsCharBoundary-from_drop plain n within (subst IsUtf8 (sym next) (utf8_plain_text more f.others)) }

-- the segments of a text of none or some
pub segments_of_all : (text : List ℕ) (segments : List SegmentView) → AllByRecursion IsSegment segments → text ≡ id_text segments → segments_of text ≡ segments
unfolding segments_of
segments_of_all text [] all e = ap (λ l. whole_segments (run step (Before []) l)) e
segments_of_all text (s ∷ more) all e = segments_of-id_text text (s ∷ more) (omega arith, all) e

pub texts_of_all : (text plain : List ℕ) (count : ℕ) (segments : List SegmentView) → AllByRecursion IsSegment segments → text ≡ id_text segments → plain ≡ plain_text segments → count ≡ length segments → AreTextsOf text plain count
texts_of_all text plain count segments all e f counted =
    let same = sym (segments_of_all text segments all e) in
    record { segments = subst (AllByRecursion IsSegment) same all; spells = e ∙ ap id_text same; spells_plain = f ∙ ap plain_text same; counted = counted ∙ ap length same }
