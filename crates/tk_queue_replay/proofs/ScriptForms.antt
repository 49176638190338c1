-- The forms of a replay text's own lines.
use Rattle.std.proofs.Common.{◌≡◌, ◌<◌, ◌≤◌, ◌^◌, ℕ, false, cond, List, [], ◌∷◌, map, Some, None, refl, ap, subst, ◌∙◌, arith, inl, inr}
use Rattle.std.specs.Prelude.{codes, bytes_eq, nat_lt, nat_le, ◌&&◌}
use Rattle.std.specs.List.{AllByRecursion}
use Rattle.std.specs.Fmt.{decimal}
use Rattle.std.specs.Str.Parse.{AllDigits}
use Rattle.std.proofs.lemmas.Fmt.{decimal_is_IsNumeral}
use Rattle.std.proofs.lemmas.Str.Parse.{digit_from_value}
use Rattle.std.proofs.lemmas.Bool.{ltb-true, leb-true, lt-ltb, le-leb, and_parts}
use Rattle.std.proofs.lemmas.Option.{same_Some, none-some}
use Rattle.tk_ids.proofs.ReadingLemmas.{cond_cases}
use Rattle.tk_record.specs.Mixing.{IsWorkerOf}
use Rattle.tk_queue_session.specs.Limits.{most_workers}
use Rattle.tk_queue_replay.specs.declared.turns.Turn.{Turn}
use Rattle.tk_queue_replay.specs.declared.turns.Turn.TheVariants.{Worker, Take}
use Rattle.tk_queue_replay.specs.Replay.{IsTurn}
use Rattle.tk_record_text.specs.steps.Field.{IsForm}
use Rattle.tk_record_text.specs.Reading.{number_of}
use Rattle.tk_record_text.specs.steps.Reading.{◌>>=◌, in_line}
use Rattle.tk_record_text.proofs.Choices.{guarded, stepped}
use Rattle.tk_record_text.proofs.NumberForms.{number_found, number_again}
use Rattle.tk_record_text.proofs.Clean.{is_false}
use Rattle.tk_record_text.proofs.TailForms.{IsField, word, decimal_field}
use Rattle.tk_record_text.specs.Cuts.{LacksFeed}
use Rattle.tk_record_text.proofs.LineForms.{line_form, line_no_feed}
use Rattle.tk_queue_replay.specs.Script.{workers_fields, IsCount, workers_line, turn_field}
use Rattle.tk_queue_replay.specs.Script.{turns_fields, AreTurns, turns_line}
use Rattle.tk_queue_replay.specs.steps.Replay.{within, worker_of, workers_of, turn_of, turns_from, turns_of}
use Rattle.tk_events.proofs.KindLemmas.{same_bytes}

two : (a a2 b b2 : List ℕ) → a ≡ a2 → b ≡ b2 → a ∷ b ∷ [] ≡ a2 ∷ b2 ∷ []
two a a2 b b2 p q = rw (p, q) refl

within_is : (n k w : ℕ) → within n k ≡ Some w → IsWorkerOf n w × (k ≡ w)
within_is n k w e =
    let g = guarded (nat_lt 0 k && nat_le k n) k w e in
    let b = and_parts (nat_lt 0 k) (nat_le k n) g.0 in
    (subst (IsWorkerOf n) g.1 (ltb-true 0 k b.0, leb-true k n b.1), g.1)

is_within : (n w : ℕ) → IsWorkerOf n w → within n w ≡ Some w
is_within n w is = rw (lt-ltb 0 w is.0, le-leb w n is.1) refl

worker_found : (n : ℕ) (f : List ℕ) (w : ℕ) → worker_of n f ≡ Some w → IsWorkerOf n w × (f ≡ decimal w)
worker_found n f w e =
    let b = stepped (number_of (2 ^ 8) f) (within n) w e in
    let k = number_found (2 ^ 8) f b.0 b.1 in
    let p = within_is n b.0 w b.2 in
    (p.0, k.0 ∙ ap decimal p.1)

worker_again : (n w : ℕ) → n ≤ most_workers → IsWorkerOf n w → worker_of n (decimal w) ≡ Some w
worker_again n w few is = let hi = is.1 in ap (λ o. o >>= within n) (number_again (2 ^ 8) w (omega arith) (omega arith)) ∙ is_within n w is

workers_found : (fields : List (List ℕ)) (n : ℕ) → workers_of fields ≡ Some n → IsCount n × (fields ≡ workers_fields n)
unfolding workers_of
workers_found [] n e = absurd (none-some n e)
workers_found (l ∷ []) n e = absurd (none-some n e)
workers_found (l ∷ c ∷ x ∷ more) n e = absurd (none-some n e)
workers_found (l ∷ c ∷ []) n e = elim (cond_cases (bytes_eq l (codes "W")) (worker_of most_workers c) None (Some n) e) [
  | inr y ↦ absurd (none-some n y.1)
  | inl x ↦ let f = worker_found most_workers c n x.1 in (f.0, two l (codes "W") c _ (same_bytes l (codes "W") x.0) f.1)
]

workers_again : (n : ℕ) → IsCount n → workers_of (workers_fields n) ≡ Some n
unfolding workers_of
workers_again n is = worker_again most_workers n (omega arith) is

-- the line with the number of workers: its form is had from that of its fields
pub workers_line_form : IsForm (in_line workers_of) IsCount workers_line
workers_line_form = line_form workers_of IsCount workers_fields (record { found = workers_found; again = workers_again }) (λ n is. (word (codes "W") refl refl, (decimal_field n (let lt = is.1 in omega arith), tt)))

-- ---- turns

no_letter : (n : ℕ) → n < 2 ^ 64 → bytes_eq (decimal n) (codes "t") ≡ false
no_letter n lt = is_false (bytes_eq (decimal n) (codes "t")) (λ e.
    let digits = subst (AllDigits 10) (same_bytes (decimal n) (codes "t") e) (decimal_is_IsNumeral n lt).0.1 in
    let r = digit_from_value 116 digits.0 in let hi = r.1 in absurd (omega arith))

turn_found : (n : ℕ) (f : List ℕ) (t : Turn) → turn_of n f ≡ Some t → IsTurn n t × (f ≡ turn_field t)
turn_found n f t e = elim (cond_cases (bytes_eq f (codes "t")) (Some Take) (worker_of n f >>= λ w. Some (Worker w)) (Some t) e) [
  | inl x ↦ subst (λ (u : Turn). IsTurn n u × (f ≡ turn_field u)) (same_Some Take t x.1) (tt, same_bytes f (codes "t") x.0)
  | inr y ↦
      let b = stepped (worker_of n f) _ t y.1 in
      let k = worker_found n f b.0 b.1 in
      subst (λ (u : Turn). IsTurn n u × (f ≡ turn_field u)) (same_Some (Worker b.0) t b.2) (k.0, k.1)
]

turn_again : (n : ℕ) (t : Turn) → n ≤ most_workers → IsTurn n t → turn_of n (turn_field t) ≡ Some t
turn_again n Take few is = refl
turn_again n (Worker w) few is =
    let small : w < 2 ^ 64 = let le = is.1 in omega arith in
    ap (λ b. cond b (Some Take) (worker_of n (decimal w) >>= λ w. Some (Worker w))) (no_letter w small)
    ∙ ap (λ o. o >>= λ w. Some (Worker w)) (worker_again n w few is)

turn_is : (n : ℕ) (t : Turn) → n ≤ most_workers → IsTurn n t → IsField (turn_field t)
turn_is n Take few is = word (codes "t") refl refl
turn_is n (Worker w) few is = decimal_field w (let le = is.1 in omega arith)

from_found : (n : ℕ) (fs : List (List ℕ)) (ts : List Turn) → turns_from n fs ≡ Some ts → AreTurns n ts × (fs ≡ map turn_field ts)
from_found n [] ts e = subst (λ (x : List Turn). AreTurns n x × ([] ≡ map turn_field x)) (same_Some [] ts e) (tt, refl)
from_found n (f ∷ fs) ts e =
    let a = stepped (turn_of n f) _ ts e in
    let b = stepped (turns_from n fs) _ ts a.2 in
    let t = turn_found n f a.0 a.1 in
    let more = from_found n fs b.0 b.1 in
    subst (λ (x : List Turn). AreTurns n x × (f ∷ fs ≡ map turn_field x)) (same_Some (a.0 ∷ b.0) ts b.2) ((t.0, more.0), both_cons f _ fs _ t.1 more.1)
  where
    both_cons : (a b : List ℕ) (c d : List (List ℕ)) → a ≡ b → c ≡ d → a ∷ c ≡ b ∷ d
    both_cons a b c d p q = rw (p, q) refl

from_again : (n : ℕ) (ts : List Turn) → n ≤ most_workers → AreTurns n ts → turns_from n (map turn_field ts) ≡ Some ts
from_again n [] few is = refl
from_again n (t ∷ ts) few is = rw (turn_again n t few is.0, from_again n ts few is.1) refl

from_are : (n : ℕ) (ts : List Turn) → n ≤ most_workers → AreTurns n ts → AllByRecursion IsField (map turn_field ts)
from_are n [] few is = tt
from_are n (t ∷ ts) few is = (turn_is n t few is.0, from_are n ts few is.1)

turns_found : (n : ℕ) (fields : List (List ℕ)) (ts : List Turn) → turns_of n fields ≡ Some ts → AreTurns n ts × (fields ≡ turns_fields ts)
unfolding turns_of
turns_found n [] ts e = absurd (none-some ts e)
turns_found n (l ∷ rest) ts e = elim (cond_cases (bytes_eq l (codes "S")) (turns_from n rest) None (Some ts) e) [
  | inr y ↦ absurd (none-some ts y.1)
  | inl x ↦ let f = from_found n rest ts x.1 in (f.0, ap (λ (w : List ℕ). w ∷ rest) (same_bytes l (codes "S") x.0) ∙ ap (λ (r : List (List ℕ)). codes "S" ∷ r) f.1)
]

turns_again : (n : ℕ) → n ≤ most_workers → (ts : List Turn) → AreTurns n ts → turns_of n (turns_fields ts) ≡ Some ts
unfolding turns_of
turns_again n few ts is = from_again n ts few is

-- the line of the turns, in a session of n workers
pub turns_line_form : (n : ℕ) → n ≤ most_workers → IsForm (in_line (turns_of n)) (AreTurns n) turns_line
turns_line_form n few = line_form (turns_of n) (AreTurns n) turns_fields (record { found = turns_found n; again = turns_again n few }) (λ ts is. (word (codes "S") refl refl, from_are n ts few is))

-- the fields of these lines, and that no line feed is in them
pub workers_no_feed : (n : ℕ) → IsCount n → LacksFeed (workers_line n)
workers_no_feed n is = line_no_feed (workers_fields n) (word (codes "W") refl refl, (decimal_field n (let lt = is.1 in omega arith), tt))

pub turns_no_feed : (n : ℕ) → n ≤ most_workers → (ts : List Turn) → AreTurns n ts → LacksFeed (turns_line ts)
turns_no_feed n few ts is = line_no_feed (turns_fields ts) (word (codes "S") refl refl, from_are n ts few is)
