-- Lanes of four bits: a word made of lanes gives them back, and the sum of such words has the sums of their lanes.
use Rattle.std.proofs.Common.{◌≡◌, ℕ, zero, suc, ◌+◌, ◌*◌, ◌/◌, ◌%◌, ◌^◌, ◌<◌, ◌≤◌, List, [], ◌∷◌, sum_by, refl, sym, ap, ◌∙◌, arith}
use Rattle.std.proofs.Math.Nat.{div-div-eq-div-mul}
use Rattle.std.proofs.lemmas.Nat.{pow-add}
use Rattle.std.proofs.lemmas.List.Sums.{sum_by-cons}
use Rattle.tk_lanes.specs.Lanes.{lane_at}
use Rattle.tk_locks.specs.Words.{packed}

pub pow_lane : (k : ℕ) → 2 ^ (4 * suc k) ≡ 16 * 2 ^ (4 * k)
pow_lane k = let e : 4 * suc k ≡ 4 + 4 * k = omega arith in ap (λ (n : ℕ). 2 ^ n) e ∙ pow-add 2 4 (4 * k)

pub packed-lt : (k : ℕ) (f : ℕ → ℕ) → ((i : ℕ) → i < k → f i ≤ 15) → packed k f < 2 ^ (4 * k)
unfolding packed
packed-lt zero f h = omega arith
packed-lt (suc k) f h = let a = h 0 (omega arith) in let b = packed-lt k (λ i. f (suc i)) (λ i lt. h (suc i) (omega arith)) in let p = pow_lane k in omega arith

pub lane_at-suc : (w i : ℕ) → lane_at w (suc i) ≡ lane_at (w / 16) i
lane_at-suc w i = ap (λ (d : ℕ). w / d % 16) (pow_lane i) ∙ ap (λ (q : ℕ). q % 16) (sym (div-div-eq-div-mul w 16 (2 ^ (4 * i))))

pub packed-lane : (k : ℕ) (f : ℕ → ℕ) → ((i : ℕ) → i < k → f i ≤ 15) → (i : ℕ) → i < k → lane_at (packed k f) i ≡ f i
unfolding packed
packed-lane zero f h i lt = absurd (omega arith)
packed-lane (suc k) f h zero lt = let a = h 0 (omega arith) in omega arith
packed-lane (suc k) f h (suc i) lt = let a = h 0 (omega arith) in let rest : ℕ = packed k (λ j. f (suc j)) in let q : (f 0 + 16 * rest) / 16 ≡ rest = omega arith in
    lane_at-suc (f 0 + 16 * rest) i ∙ ap (λ (w : ℕ). lane_at w i) q ∙ packed-lane k (λ j. f (suc j)) (λ j l. h (suc j) (omega arith)) i (omega arith)

pub packed-same : (k : ℕ) (f g : ℕ → ℕ) → ((i : ℕ) → i < k → f i ≡ g i) → packed k f ≡ packed k g
unfolding packed
packed-same zero f g h = refl
packed-same (suc k) f g h = let a = h 0 (omega arith) in let b = packed-same k (λ i. f (suc i)) (λ i. g (suc i)) (λ i lt. h (suc i) (omega arith)) in omega arith

pub packed-none : (k : ℕ) → packed k (λ _. 0) ≡ 0
unfolding packed
packed-none zero = refl
packed-none (suc k) = let b = packed-none k in omega arith

pub packed-add : (k : ℕ) (f g : ℕ → ℕ) → packed k (λ i. f i + g i) ≡ packed k f + packed k g
unfolding packed
packed-add zero f g = refl
packed-add (suc k) f g = let b = packed-add k (λ i. f (suc i)) (λ i. g (suc i)) in omega arith

-- the sum of words has the sums of their lanes
pub packed-sum : {A : Type 0} (k : ℕ) (f : A → ℕ → ℕ) (l : List A) → sum_by (λ v. packed k (f v)) l ≡ packed k (λ i. sum_by (λ v. f v i) l)
packed-sum k f [] = sym (packed-none k)
packed-sum {A} k f (x ∷ xs) = sum_by-cons (λ (v : A). packed k (f v)) x xs ∙ ap (λ (n : ℕ). packed k (f x) + n) (packed-sum k f xs) ∙ sym (packed-add k (f x) (λ i. sum_by (λ v. f v i) xs))
    ∙ packed-same k (λ i. f x i + sum_by (λ v. f v i) xs) (λ i. sum_by (λ v. f v i) (x ∷ xs)) (λ i lt. sym (sum_by-cons (λ (v : A). f v i) x xs))

-- where each lane has room, so has the word
pub has_room : (k w n : ℕ) → ((i : ℕ) → i < k → lane_at w i + lane_at n i ≤ 15) → w < 2 ^ (4 * k) → n < 2 ^ (4 * k) → w + n < 2 ^ (4 * k)
has_room zero w n h a b = omega arith
has_room (suc k) w n h a b = let p = pow_lane k in let low = h 0 (omega arith) in
    let up = has_room k (w / 16) (n / 16) (λ i lt. (let s = lane_at-suc w i in let t = lane_at-suc n i in let e = h (suc i) (omega arith) in omega arith)) (omega arith) (omega arith) in omega arith
