-- How many parts of a condition don't hold.
use Rattle.std.proofs.Common.{◌≡◌, ℕ, ◌+◌, ◌<◌, ◌≤◌, ◌⊎◌, min, Bool, true, false, cond, not, ◌&&◌, List, [], ◌∷◌, ◌++◌, map, refl, sym, ap, ◌∙◌, inl, inr, ⊎_elim, arith}
use Rattle.std.specs.Prelude.{count_by, if◌then◌else◌}
use Rattle.std.proofs.lemmas.Bool.{cases_lt, or_left, or_right}
use Rattle.std.proofs.lemmas.List.Sums.{sum_by-append, sum_by-cons}
use Rattle.tk_events.specs.declared.events.Entry.{Entry}
use Rattle.tk_events.specs.declared.kinds.Kind.TheVariants as kind
use Rattle.tk_record.specs.Entries.{of_kind}
use Rattle.tk_record.specs.Recorded.{Recorded}
use Rattle.tk_query_conditions.specs.declared.conditions.Condition as real
use Rattle.tk_query_conditions.specs.declared.conditions.Condition.{Condition}
use Rattle.tk_query_conditions.specs.CondOf.{cond_of, pairs_from}
use Rattle.tk_query_conditions.specs.Cond.{Cond, All, Any, Conds, Nothing, More, NoPairs}
use Rattle.tk_query.specs.Holds.{cond_holds, all_hold, any_holds, pairs_list}
use Rattle.tk_query.proofs.HoldsLemmas.{pairs_are}
use Rattle.tk_query_nearest.specs.Parts.{Part, IsKind, HasKey, Meets, part_holds, other_parts, member_parts, missing_parts, missing, missing_of_all, fewest_missing, has_key}

pub missing-append : (r : Recorded) (xs ys : List Part) (e : Entry)
    → missing_parts r (xs ++ ys) e ≡ missing_parts r xs e + missing_parts r ys e
missing-append r xs ys e = sum_by-append (λ part. cond (not (part_holds r part e)) 1 0) xs ys

-- what a part adds to the count
lack_is : (b : Bool) → 0 + cond (not b) 1 0 ≡ (if b then 0 else 1)
lack_is true = refl
lack_is false = refl

abbrev pub keys : List (List ℕ × List ℕ) → List Part
keys pairs = map (λ (pair : List ℕ × List ℕ). HasKey pair.0) pairs

keys_counted : (r : Recorded) (pairs : List (List ℕ × List ℕ)) (e : Entry)
    → missing_parts r (keys pairs) e
    ≡ count_by (λ (pair : List ℕ × List ℕ). not (has_key pair.0 e.event.payload)) pairs
keys_counted r [] e = refl
keys_counted r (pair ∷ pairs) e =
    let lacks = cond (not (has_key pair.0 e.event.payload)) 1 0 in
    sum_by-cons (λ part. cond (not (part_holds r part e)) 1 0) (HasKey pair.0) (keys pairs)
    ∙ ap (λ n. lacks + n) (keys_counted r pairs e)
    ∙ sym (sum_by-cons
    (λ (p : List ℕ × List ℕ). cond (not (has_key p.0 e.event.payload)) 1 0) pair pairs)

-- the parts of `entry(..)` but for the last one, counted one after the other
pub entry_lacks : (r : Recorded) (e : Entry) (pairs : List (List ℕ × List ℕ)) (m : Condition)
    (of_report of_keys : ℕ) → m ≡ real.Entry pairs
    → of_report ≡ (if of_kind kind.Reporting e then 0 else 1)
    → of_keys ≡ count_by (λ (p : List ℕ × List ℕ). not (has_key p.0 e.event.payload)) pairs
    → of_report + of_keys ≡ missing_parts r (other_parts (cond_of m)) e
entry_lacks r e pairs m of_report of_keys is f g =
    let list = pairs_list (pairs_from NoPairs pairs) in
    let all = missing-append r (IsKind kind.Reporting ∷ []) (keys list) e in
    let counted = ap (λ xs. missing_parts r (keys xs) e) (pairs_are pairs)
    ∙ keys_counted r pairs e in
    added of_report of_keys (missing_parts r (IsKind kind.Reporting ∷ []) e)
    (missing_parts r (keys list) e)
    (f ∙ sym (lack_is (of_kind kind.Reporting e))) (g ∙ sym counted)
    ∙ sym all ∙ sym (ap (λ x. missing_parts r (other_parts (cond_of x)) e) is)
  where
    added : (report keys a b : ℕ) → report ≡ a → keys ≡ b → report + keys ≡ a + b
    added report keys a b f g = omega arith

-- one of two numbers is zero where the lesser is
min_zero : (m n : ℕ) → min m n ≡ 0 → (m ≡ 0) ⊎ (n ≡ 0)
min_zero m n e = ⊎_elim {C = (m ≡ 0) ⊎ (n ≡ 0)}
    (λ (lt : m < n). inl (omega arith)) (λ (le : n ≤ m). inr (omega arith)) (cases_lt m n)

none_false : (b : Bool) → 0 + cond (not b) 1 0 ≡ 0 → b ≡ true
none_false true e = refl
none_false false e = absurd (omega arith)

member_holds : (r : Recorded) (m : Cond) (e : Entry) → missing_parts r (member_parts m) e ≡ 0
    → cond_holds r m e ≡ true
member_holds r m e none =
    let sum = sym (missing-append r (other_parts m) (Meets m ∷ []) e) ∙ none in
    none_false (cond_holds r m e) (omega (arith, sum))

pub uncapped : (n cap : ℕ) → min n (1 + cap) ≡ 0 → n ≡ 0
uncapped n cap e = omega arith

mutual
  pub holds_of : (r : Recorded) (c : Cond) (e : Entry) → missing r c e ≡ 0 → cond_holds r c e ≡ true
  holds_of r (All cs) e none = all_of r cs e none
  holds_of r (Any cs) e none = any_of r cs e none
  holds_of r c e none = member_holds r c e none

  all_of : (r : Recorded) (cs : Conds) (e : Entry) → missing_of_all r cs e ≡ 0
      → all_hold r cs e ≡ true
  all_of r Nothing e none = refl
  all_of r (More cs c) e none =
      ap (λ b. b && cond_holds r c e) (all_of r cs e (omega (arith, none)))
      ∙ holds_of r c e (omega (arith, none))

  any_of : (r : Recorded) (cs : Conds) (e : Entry) → fewest_missing r cs e ≡ 0
      → any_holds r cs e ≡ true
  any_of r Nothing e none = absurd (omega (arith, none))
  any_of r (More Nothing c) e none = holds_of r c e none
  any_of r (More (More cs d) c) e none = ⊎_elim {C = any_holds r (More (More cs d) c) e ≡ true}
      (λ (before : fewest_missing r (More cs d) e ≡ 0).
      or_left (any_holds r (More cs d) e) (cond_holds r c e) (any_of r (More cs d) e before))
      (λ (last : missing r c e ≡ 0).
      or_right (any_holds r (More cs d) e) (cond_holds r c e) (holds_of r c e last))
      (min_zero (fewest_missing r (More cs d) e) (missing r c e) none)
