-- Each step of a claim keeps its rule.
use Rattle.std.proofs.Common.{◌≡◌, true, false, ℕ, zero, suc, ◌+◌, ◌-◌, ◌%◌, ◌^◌, ◌<◌, ◌≤◌, inl, inr, ⊎_elim, min, cond, nat_eq, List, [], ◌∷◌, ◌++◌, map, length, get_or, set, sum_by, All, refl, sym, ap, ◌∙◌, arith, subst}
use native.Mathlib.Decide.{dec_lt}
use mathlib.Core.Logic.{dite}
use mathlib.Core.Option.{none, some, some-injective, some-ne-none}
use lib.ListN.{get_elem?}
use Rattle.std.proofs.lemmas.List.Quantifiers.{all_pairs_push}
use Rattle.std.proofs.lemmas.Bool.Decides.{nat_tests}
use Rattle.std.proofs.lemmas.List.Sums.{sum_by_push, sum_by-append, sum_by-cons}
use Rattle.std.proofs.lemmas.List.Elements.{All-nil, All-cons, All-map, All-push, All-append, All-weaker}
use Rattle.atomic_table.specs.Table.{State, Me, step, keeps, Allows, Splits, Joins, Seen, Final, opening}
use Rattle.atomic_table.proofs.Lists.{at_set, at_snoc}
use Rattle.tk_claims.specs.declared.claim_rules.ClaimLimits.{ClaimLimits}
use Rattle.tk_claims.specs.declared.claim_rules.Drawn.{Drawn}
use Rattle.tk_claims.specs.Claims.{times, once_below, IsStrictlyIncreasing, Claims, ClaimView, ClaimSeatView}
use Rattle.tk_claims.specs.ClaimViews.{IsClaimant, seat_view_of}
use Rattle.tk_base.specs.declared.limits.TheConstants.{MAX_WORKERS}
use Rattle.tk_claims.specs.declared.claims.ClaimSeat.TheInside as seat
use Rattle.atomic_table.specs.declared.shared.Seat.{Seat}
use Rattle.tk_claims.specs.ClaimWord.{drawn, no_limits, Fits, DrawsFitWord, Drew}
use Rattle.tk_claims.proofs.SeatSums.{sum_turn, sum_same, sums_le, sum_lone}

abbrev hit : ℕ → ℕ → ℕ
hit x y = cond (nat_eq x y) 1 0

times-append : (x : ℕ) (xs ys : List ℕ) → times x (xs ++ ys) ≡ times x xs + times x ys
times-append x xs ys = sum_by-append (λ z. hit z x) xs ys

once_more : (x next limit : ℕ) → next < limit → once_below x (min (next + 1) limit) ≡ once_below x (min next limit) + hit next x
once_more x next limit h = grind (arith, nat_tests)

once_still : (x next limit : ℕ) → limit ≤ next → once_below x (min (next + 1) limit) ≡ once_below x (min next limit)
once_still x next limit h = grind (arith, nat_tests)

later : (claim_limits : ClaimLimits) (next : ℕ) (v : Drawn) → Fits claim_limits next v → Fits claim_limits (next + 1) v
later claim_limits next v f = record { limits_same = f.limits_same; spent_once = f.spent_once; below = All-weaker (λ y. y < next) (λ y. y < next + 1) (λ y h. omega arith) v.numbers f.below; idle = f.idle }

-- what the rule says of each view, after one of them changed
each_set : (claim_limits : ClaimLimits) (next : ℕ) (views : List Drawn) (id : ℕ) (w : Drawn) → ((i : ℕ) (v : Drawn) → get_elem? views i ≡ some v → Fits claim_limits next v) → Fits claim_limits (next + 1) w
    → (i : ℕ) (v : Drawn) → get_elem? (set views id w) i ≡ some v → Fits claim_limits (next + 1) v
each_set claim_limits next views id w each fits i v at = ⊎_elim (λ t. subst (Fits claim_limits (next + 1)) t.1 fits) (λ t. later claim_limits next v (each i v t.1)) (at_set views id i w v at)

module _ (claim_limits : ClaimLimits) (slots id : ℕ) (me : Me (Unit {0}) Drawn) (one_part : me.0.parts ≡ 1) (not_spent : me.0.spent ≡ 0) where
  abbrev Rule : State (Unit {0}) Drawn → Type 0
  Rule = DrawsFitWord claim_limits

  pub draws : Allows Rule slots id me 0 (λ n. (n + 1) % 2 ^ 64) (Drew (step slots 0 1 0 none) me)
  draws s kept _ at _ = let x : ℕ = get_or s.words 0 0 in let next : ℕ = kept.next in
      let found : x ≡ next = ap (λ (l : List ℕ). get_or l 0 0) kept.word in
      let fits = kept.each id me.0 at in
      let same : me.0.claim_limits ≡ claim_limits = fits.limits_same (omega arith) in
      let limits : me.0.claim_limits.limit ≡ claim_limits.limit = ap (λ (d : ClaimLimits). d.limit) same in
      let bound : sum_by (λ v. v.spent) s.views ≤ sum_by (λ v. v.parts) s.views = sums_le (λ v. v.spent) (λ v. v.parts) s.views (λ i v e. (kept.each i v e).spent_once) in
      let few = kept.few in let small = kept.small in let total = kept.parts in let over = kept.spent in
      let room : next + 1 < 2 ^ 64 = omega arith in
      let after : (x + 1) % 2 ^ 64 ≡ next + 1 = omega arith in
      let word : set s.words 0 ((x + 1) % 2 ^ 64) ≡ (next + 1) ∷ [] = ap (λ (l : List ℕ). set l 0 ((x + 1) % 2 ^ 64)) kept.word ∙ ap (λ (n : ℕ). n ∷ []) after in
      dite (dec_lt next claim_limits.limit)
      (λ lt. let w : Drawn = drawn me.0.claim_limits me.0.parts me.0.spent (me.0.numbers ++ x ∷ []) in (
        w,
        keeps,
        tt,
        record {
          few = few;
          small = small;
          next = next + 1;
          word = word;
          parts = sum_same (λ v. v.parts) s.views id me.0 w at refl ∙ total;
          spent = (let e = sum_same (λ v. v.spent) s.views id me.0 w at refl in omega arith);
          once = λ y. (let e = sum_turn (λ v. times y v.numbers) s.views id me.0 w at in let p = sum_by_push (λ z. hit z y) me.0.numbers x in let o = kept.once y in let m = once_more y next claim_limits.limit lt in let q : hit x y ≡ hit next y = ap (λ (n : ℕ). hit n y) found in omega arith);
          each = each_set claim_limits next s.views id w kept.each record { limits_same = λ _. same; spent_once = fits.spent_once; below = All-push (λ y. y < next + 1) me.0.numbers x (All-weaker (λ y. y < next) (λ y. y < next + 1) (λ y h. omega arith) me.0.numbers fits.below) (omega arith); idle = λ none. absurd (omega arith) };
        },
        inl (omega arith, All-weaker (λ y. y < next) (λ y. y < x) (λ y h. omega arith) me.0.numbers fits.below, refl, refl),
      ))
      (λ not. let w : Drawn = drawn me.0.claim_limits me.0.parts (me.0.spent + 1) me.0.numbers in let ge : claim_limits.limit ≤ next = omega arith in (
        w,
        keeps,
        tt,
        record {
          few = few;
          small = small;
          next = next + 1;
          word = word;
          parts = sum_same (λ v. v.parts) s.views id me.0 w at refl ∙ total;
          spent = (let e = sum_turn (λ v. v.spent) s.views id me.0 w at in omega arith);
          once = λ y. sum_same (λ v. times y v.numbers) s.views id me.0 w at refl ∙ kept.once y ∙ sym (once_still y next claim_limits.limit ge);
          each = each_set claim_limits next s.views id w kept.each record { limits_same = λ _. same; spent_once = omega arith; below = All-weaker (λ y. y < next) (λ y. y < next + 1) (λ y h. omega arith) me.0.numbers fits.below; idle = λ none. absurd (omega arith) };
        },
        inr (omega arith, refl, refl),
      ))

-- what a seat is after a draw of a number, and after one of none
pub risen : (old new : Seat (Unit {0}) Drawn) (x : ℕ) → IsClaimant record { seat = old; spent = false } → Drew (step 0 0 0 0 none) old.me x new.me → x < old.me.0.claim_limits.limit
    → IsClaimant record { seat = new; spent = false } × (new.me.0 ≡ drawn old.me.0.claim_limits old.me.0.parts old.me.0.spent (old.me.0.numbers ++ x ∷ []))
risen old new x was drew lt = ⊎_elim
    (λ (d : (x < old.me.0.claim_limits.limit) × All (λ y. y < x) old.me.0.numbers × (new.me.0 ≡ drawn old.me.0.claim_limits old.me.0.parts old.me.0.spent (old.me.0.numbers ++ x ∷ [])) × (new.me.1 ≡ old.me.1)). (
      record {
        one_part = ap (λ (v : Drawn). v.parts) d.2 ∙ was.one_part;
        no_slot = d.3 ∙ was.no_slot;
        increasing = subst (λ (v : Drawn). IsStrictlyIncreasing v.numbers) (sym d.2) (all_pairs_push (λ y z. y < z) old.me.0.numbers x was.increasing d.1);
        spent_same = ap (λ (v : Drawn). v.spent) d.2 ∙ was.spent_same;
      },
      d.2,
    ))
    (λ (d : (old.me.0.claim_limits.limit ≤ x) × (new.me.0 ≡ drawn old.me.0.claim_limits old.me.0.parts (old.me.0.spent + 1) old.me.0.numbers) × (new.me.1 ≡ old.me.1)). absurd (omega arith))
    drew

pub stopped : (old new : Seat (Unit {0}) Drawn) (x : ℕ) → IsClaimant record { seat = old; spent = false } → Drew (step 0 0 0 0 none) old.me x new.me → old.me.0.claim_limits.limit ≤ x
    → IsClaimant record { seat = new; spent = true } × (new.me.0 ≡ drawn old.me.0.claim_limits old.me.0.parts (old.me.0.spent + 1) old.me.0.numbers)
stopped old new x was drew ge = ⊎_elim
    (λ (d : (x < old.me.0.claim_limits.limit) × All (λ y. y < x) old.me.0.numbers × (new.me.0 ≡ drawn old.me.0.claim_limits old.me.0.parts old.me.0.spent (old.me.0.numbers ++ x ∷ [])) × (new.me.1 ≡ old.me.1)). absurd (omega arith))
    (λ (d : (old.me.0.claim_limits.limit ≤ x) × (new.me.0 ≡ drawn old.me.0.claim_limits old.me.0.parts (old.me.0.spent + 1) old.me.0.numbers) × (new.me.1 ≡ old.me.1)). (
      record {
        one_part = ap (λ (v : Drawn). v.parts) d.1 ∙ was.one_part;
        no_slot = d.2 ∙ was.no_slot;
        increasing = subst (λ (v : Drawn). IsStrictlyIncreasing v.numbers) (sym d.1) was.increasing;
        spent_same = (let e = ap (λ (v : Drawn). v.spent) d.1 in let z = was.spent_same in omega arith);
      },
      d.1,
    ))
    drew

-- the claim begins with no draw, and the first seat has all parts
pub opens : (claim_limits : ClaimLimits) → claim_limits.seats ≤ MAX_WORKERS → claim_limits.limit < 2 ^ 32 → DrawsFitWord claim_limits (opening (0 ∷ []) [] (drawn claim_limits claim_limits.seats 0 []))
opens claim_limits few small = record {
  few = few;
  small = small;
  next = 0;
  word = refl;
  parts = omega arith;
  spent = omega arith;
  once = λ x. none_below x claim_limits.limit;
  each = λ i v at. subst (Fits claim_limits 0) (only i v at) record { limits_same = λ _. refl; spent_once = omega arith; below = All-nil (λ y. y < 0); idle = λ _. refl };
}
  where
    none_below : (x limit : ℕ) → 0 + 0 ≡ once_below x (min 0 limit)
    none_below x limit = grind (arith, nat_tests)

    only : (i : ℕ) (v : Drawn) → get_elem? (drawn claim_limits claim_limits.seats 0 [] ∷ []) i ≡ some v → drawn claim_limits claim_limits.seats 0 [] ≡ v
    only zero v at = some-injective _ v at
    only (suc i) v at = absurd (some-ne-none v (sym at))

-- a seat that drew nothing gives one of its parts to a new seat
pub splits : (claim_limits : ClaimLimits) (id : ℕ) (v : Drawn) → v.claim_limits ≡ claim_limits → 0 < v.parts → v.spent ≡ 0 → v.numbers ≡ [] → Splits (DrawsFitWord claim_limits) id v (drawn v.claim_limits (v.parts - 1) 0 []) (drawn v.claim_limits 1 0 [])
splits claim_limits id v same some_part not_spent empty s kept at = let left : Drawn = drawn v.claim_limits (v.parts - 1) 0 [] in let right : Drawn = drawn v.claim_limits 1 0 [] in let views : List Drawn = set s.views id left in record {
  few = kept.few;
  small = kept.small;
  next = kept.next;
  word = kept.word;
  parts = (let e = sum_turn (λ v. v.parts) s.views id v left at in let p = sum_by_push (λ v. v.parts) views right in let t = kept.parts in omega arith);
  spent = (let e = sum_turn (λ v. v.spent) s.views id v left at in let p = sum_by_push (λ v. v.spent) views right in let t = kept.spent in omega arith);
  once = λ x. (let e = sum_turn (λ v. times x v.numbers) s.views id v left at in let p = sum_by_push (λ v. times x v.numbers) views right in let t = kept.once x in
      let z : times x v.numbers ≡ 0 = ap (times x) empty in omega arith);
  each = λ i w e. ⊎_elim (λ was. ⊎_elim (λ t. subst (Fits claim_limits kept.next) t.1 (new_seat kept.next (v.parts - 1))) (λ t. kept.each i w t.1) (at_set s.views id i left w was)) (λ is. subst (Fits claim_limits kept.next) is (new_seat kept.next 1))
      (at_snoc views right w i e);
}
  where
    new_seat : (next parts : ℕ) → Fits claim_limits next (drawn v.claim_limits parts 0 [])
    new_seat next parts = record { limits_same = λ _. same; spent_once = omega arith; below = All-nil (λ y. y < next); idle = λ _. refl }

-- a seat takes in all that another had
pub joins : (claim_limits : ClaimLimits) (id : ℕ) (v : Drawn) (other : ℕ) (w : Drawn) → 0 < v.parts
    → Joins (DrawsFitWord claim_limits) id v other w (drawn v.claim_limits (v.parts + w.parts) (v.spent + w.spent) (v.numbers ++ w.numbers)) (drawn no_limits 0 0 [])
joins claim_limits id v other w some_part s kept at ne there = let both : Drawn = drawn v.claim_limits (v.parts + w.parts) (v.spent + w.spent) (v.numbers ++ w.numbers) in let left : Drawn = drawn no_limits 0 0 [] in let views : List Drawn = set s.views id both in
    let fits = kept.each id v at in let theirs = ⊎_elim {C = Fits claim_limits kept.next w} (λ t. absurd (ne t.0)) (λ t. kept.each other w t.1) (at_set s.views id other both w there) in record {
      few = kept.few;
      small = kept.small;
      next = kept.next;
      word = kept.word;
      parts = (let e = sum_turn (λ v. v.parts) s.views id v both at in let p = sum_turn (λ v. v.parts) views other w left there in let t = kept.parts in omega arith);
      spent = (let e = sum_turn (λ v. v.spent) s.views id v both at in let p = sum_turn (λ v. v.spent) views other w left there in let t = kept.spent in omega arith);
      once = λ x. (let e = sum_turn (λ v. times x v.numbers) s.views id v both at in let p = sum_turn (λ v. times x v.numbers) views other w left there in let t = kept.once x in
          let z = times-append x v.numbers w.numbers in omega arith);
      each = λ i u e. ⊎_elim (λ t. subst (Fits claim_limits kept.next) t.1 record { limits_same = λ h. absurd (omega arith); spent_once = omega arith; below = All-nil (λ y. y < kept.next); idle = λ _. refl })
          (λ t. ⊎_elim (λ r. subst (Fits claim_limits kept.next) r.1 record { limits_same = λ _. fits.limits_same some_part; spent_once = (let a = fits.spent_once in let b = theirs.spent_once in omega arith); below = All-append (λ y. y < kept.next) v.numbers w.numbers fits.below theirs.below; idle = λ none. absurd (omega arith) })
          (λ r. kept.each i u r.1) (at_set s.views id i both u t.1))
          (at_set views other i left u e);
    }

-- what the seat with all parts knows in the end
pub into_count_steps : (claim_limits : ClaimLimits) (id : ℕ) (v : Drawn) (words : List ℕ) (slots : List (Unit {0})) (n : ℕ) → Final (Seen (DrawsFitWord claim_limits) id v) words slots → v.parts ≡ claim_limits.seats → get_elem? words 0 ≡ some n
    → ((x : ℕ) → times x v.numbers ≡ once_below x (min n claim_limits.limit)) × (v.spent ≡ n - claim_limits.limit)
into_count_steps claim_limits id v words slots n final whole found = let s = final.0 in let kept = final.1.0 in let at = final.1.1 in
    let is : kept.next ≡ n = some-injective kept.next n (ap (λ (l : List ℕ). get_elem? l 0) (sym kept.word ∙ final.2) ∙ found) in
    let total : sum_by (λ v. v.parts) s.views ≡ v.parts = kept.parts ∙ sym whole in (
      (λ x. let e = sum_lone (λ v. v.parts) (λ v. times x v.numbers) s.views id v at total (λ j w there none. ap (times x) ((kept.each j w there).idle none)) in
          sym e ∙ kept.once x ∙ ap (λ (k : ℕ). once_below x (min k claim_limits.limit)) is),
      (let e = sum_lone (λ v. v.parts) (λ v. v.spent) s.views id v at total (λ j w there none. let le = (kept.each j w there).spent_once in omega arith) in let t = kept.spent in omega arith),
    )

-- what one seat knows that took in these seats
pub record Pooled (name : ClaimView) (all : List ClaimSeatView) (me : Me (Unit {0}) Drawn) : Type 0 where
  pub no_slot : me.1 ≡ []
  pub limit : me.0.claim_limits.limit ≡ name.limit
  pub parts : me.0.parts ≡ length all
  pub some_part : 0 < me.0.parts
  pub count : (x : ℕ) → times x me.0.numbers ≡ sum_by (times x) (map (λ s. s.numbers) all)
  pub increasing : All (λ s. IsStrictlyIncreasing s.numbers) all
  pub spent : All (λ s. s.spent ≡ true → 0 < me.0.spent) all

spent_counts : (s : seat.Inside) → IsClaimant s → s.spent ≡ true → 0 < s.seat.me.0.spent
spent_counts s is h = let e : cond {A = ℕ} s.spent 1 0 ≡ 1 = ap (λ b. cond {A = ℕ} b 1 0) h in let p = is.spent_same in omega arith

-- the first seat that comes back
pub pools : (name : ClaimView) (s : seat.Inside) → (seat_view_of s).claim ≡ name → IsClaimant s → Pooled name (seat_view_of s ∷ []) s.seat.me
pools name s of_name is = record {
  no_slot = is.no_slot;
  limit = ap (λ (z : ClaimView). z.limit) of_name;
  parts = is.one_part;
  some_part = (let p = is.one_part in omega arith);
  count = λ x. omega arith;
  increasing = All-cons (λ (z : ClaimSeatView). IsStrictlyIncreasing z.numbers) (seat_view_of s) [] is.increasing (All-nil (λ (z : ClaimSeatView). IsStrictlyIncreasing z.numbers));
  spent = All-cons (λ (z : ClaimSeatView). z.spent ≡ true → 0 < s.seat.me.0.spent) (seat_view_of s) [] (spent_counts s is) (All-nil (λ (z : ClaimSeatView). z.spent ≡ true → 0 < s.seat.me.0.spent));
}

-- one more seat
pub pools_more : (name : ClaimView) (s : seat.Inside) (all : List ClaimSeatView) (old new : Me (Unit {0}) Drawn) → IsClaimant s → Pooled name all old
    → new ≡ (drawn old.0.claim_limits (old.0.parts + s.seat.me.0.parts) (old.0.spent + s.seat.me.0.spent) (old.0.numbers ++ s.seat.me.0.numbers), old.1)
    → Pooled name (seat_view_of s ∷ all) new
pools_more name s all old new is pooled after = subst (Pooled name (seat_view_of s ∷ all)) (sym after) record {
  no_slot = pooled.no_slot;
  limit = pooled.limit;
  parts = (let p = is.one_part in let q = pooled.parts in omega arith);
  some_part = (let p = pooled.some_part in omega arith);
  count = λ x. (let t = times-append x old.0.numbers s.seat.me.0.numbers in let c = pooled.count x in let m = sum_by-cons (times x) s.seat.me.0.numbers (map (λ (z : ClaimSeatView). z.numbers) all) in omega arith);
  increasing = All-cons (λ (z : ClaimSeatView). IsStrictlyIncreasing z.numbers) (seat_view_of s) all is.increasing pooled.increasing;
  spent = All-cons (λ (z : ClaimSeatView). z.spent ≡ true → 0 < old.0.spent + s.seat.me.0.spent) (seat_view_of s) all (λ h. let k = spent_counts s is h in omega arith)
      (All-weaker (λ (z : ClaimSeatView). z.spent ≡ true → 0 < old.0.spent) (λ (z : ClaimSeatView). z.spent ≡ true → 0 < old.0.spent + s.seat.me.0.spent) (λ z was h. let k = was h in omega arith) all pooled.spent);
}

-- what `close` answers, where all seats came back
pub closes : (name : ClaimView) (claim_limits : ClaimLimits) (all : List ClaimSeatView) (id : ℕ) (me : Me (Unit {0}) Drawn) (words : List ℕ) (slots : List (Unit {0})) (n : ℕ) → claim_limits.limit ≡ name.limit → claim_limits.seats ≡ length all → Pooled name all me
    → Final (Seen (DrawsFitWord claim_limits) id me.0) words slots → get_elem? words 0 ≡ some n → Claims (map (λ s. s.numbers) all) (min n name.limit) × All (λ s. s.spent ≡ true → min n name.limit ≡ name.limit) all
closes name claim_limits all id me words slots n limit count pooled final found = let last = into_count_steps claim_limits id me.0 words slots n final (pooled.parts ∙ sym count) found in (
  record {
    increasing = All-map IsStrictlyIncreasing (λ (s : ClaimSeatView). s.numbers) all pooled.increasing;
    once = λ x. sym (pooled.count x) ∙ last.0 x ∙ ap (λ (k : ℕ). once_below x (min n k)) limit;
  },
  All-weaker (λ (s : ClaimSeatView). s.spent ≡ true → 0 < me.0.spent) (λ (s : ClaimSeatView). s.spent ≡ true → min n name.limit ≡ name.limit) (λ s was h. let k = was h in let t = last.1 in omega arith) all pooled.spent,
)
