-- Needs that conflict are too heavy for one lane, and needs that do not fit sixteen lanes where at most fifteen seats hold one.
use Rattle.std.proofs.Common.{◌≡◌, ℕ, zero, suc, ◌+◌, ◌^◌, ◌<◌, ◌≤◌, ◌↔◌, Option, Some, None, List, [], ◌∷◌, length, get_or, All, sum_by, is_some, count_by, cond, set, length-set, get_or-set_same, get_or-set_other, refl, sym, subst, ap, ◌∙◌, arith}
use mathlib.Core.Logic.{dite}
use native.Mathlib.Decide.{ℕ_discrete}
use Rattle.std.proofs.lemmas.List.Sums.{sum_by-cons, get_or-le-sum_by}
use Rattle.tk_locks.specs.NeedView.{NeedView}
use Rattle.tk_lanes.specs.Lanes.{lane_at, Admits}
use Rattle.tk_locks.specs.Words.{packed}
use Rattle.tk_locks.specs.Needs.{Access, nothing, reads, writes, access, Clash, weight, lane, word_of}
use Rattle.tk_locks.specs.Holdings.{IsCompatible, AreCompatible, held_lane, held_word}
use Rattle.tk_locks.proofs.LaneWords.{packed-lt, packed-lane, packed-sum, packed-none}
use Rattle.std.proofs.lemmas.List.Elements.{All-head, All-tail}

pub clash_heavy : (a b : Access) → Clash a b → 16 ≤ weight a + weight b
clash_heavy writes reads c = omega arith
clash_heavy writes writes c = omega arith
clash_heavy reads writes c = omega arith
clash_heavy nothing b c = absurd c
clash_heavy reads nothing c = absurd c
clash_heavy reads reads c = absurd c
clash_heavy writes nothing c = absurd c

pub lane_le : (n : NeedView) (i : ℕ) → lane n i ≤ 15
lane_le n i = weight_le (access n i)
  where
    weight_le : (a : Access) → weight a ≤ 15
    weight_le nothing = omega arith
    weight_le reads = omega arith
    weight_le writes = omega arith

pub word_lt : (n : NeedView) → word_of n < 2 ^ 64
word_lt n = packed-lt 16 (lane n) (λ i _. lane_le n i)

pub word_lane : (n : NeedView) (i : ℕ) → i < 16 → lane_at (word_of n) i ≡ lane n i
word_lane n i lt = packed-lane 16 (lane n) (λ j _. lane_le n j) i lt

pub agree : (a b : Option NeedView) → ((r : ℕ) → r < 16 → held_lane a r + held_lane b r ≤ 15) → IsCompatible a b
agree (Some n) (Some m) h = λ c. let k = clash_heavy (access n c.0) (access m c.0) c.2 in let b = h c.0 c.1 in absurd (omega arith)
agree None b h = tt
agree (Some n) None h = tt

sum_two : {A : Type 0} (f : A → ℕ) (l : List A) (i j : ℕ) (d : A) → i < j → j < length l → f (get_or l i d) + f (get_or l j d) ≤ sum_by f l
sum_two f [] i j d lt within = absurd (omega arith)
sum_two f (x ∷ xs) i zero d lt within = absurd (omega arith)
sum_two f (x ∷ xs) zero (suc j) d lt within = omega (arith, sum_by-cons f x xs, get_or-le-sum_by f xs j d (omega arith))
sum_two f (x ∷ xs) (suc i) (suc j) d lt within = omega (arith, sum_by-cons f x xs, sum_two f xs i j d (omega arith) (omega arith))

-- where no lane is above 15, no two seats' needs conflict
pub lanes_agree : (held : List (Option NeedView)) → ((r : ℕ) → r < 16 → sum_by (λ h. held_lane h r) held ≤ 15) → AreCompatible held
lanes_agree held few i j d lt within = agree (get_or held i d) (get_or held j d) (λ r in16. let t = sum_two (λ h. held_lane h r) held i j d lt within in let b = few r in16 in omega arith)

clash_sym : (a b : Access) → Clash a b → Clash b a
clash_sym writes reads c = tt
clash_sym writes writes c = tt
clash_sym reads writes c = tt
clash_sym nothing b c = absurd c
clash_sym reads nothing c = absurd c
clash_sym reads reads c = absurd c
clash_sym writes nothing c = absurd c

pub agree_sym : (a b : Option NeedView) → IsCompatible a b → IsCompatible b a
agree_sym (Some n) (Some m) h = λ c. h (c.0, c.1, clash_sym (access m c.0) (access n c.0) c.2)
agree_sym (Some n) None h = tt
agree_sym None (Some m) h = tt
agree_sym None None h = tt

-- a need that conflicts with none of the others may stand among them
pub set_compatible : (held : List (Option NeedView)) (seat : ℕ) (n : NeedView) → AreCompatible held → All (IsCompatible (Some n)) held → AreCompatible (set held seat (Some n))
set_compatible held seat n compatible fits i j d lt within = let len = length-set held seat (Some n) in let in_j : j < length held = omega arith in
    dite (ℕ_discrete i seat)
    (λ e. subst (λ (p : Option NeedView × Option NeedView). IsCompatible p.0 p.1) (λ k. (sym (ap (λ (x : ℕ). get_or (set held seat (Some n)) x d) e ∙ get_or-set_same held seat (Some n) d (omega arith)) k, sym (get_or-set_other held seat j (Some n) d (λ f. omega arith)) k)) (fits j d in_j))
    (λ ne. dite (ℕ_discrete j seat)
    (λ e. subst (λ (p : Option NeedView × Option NeedView). IsCompatible p.0 p.1) (λ k. (sym (get_or-set_other held seat i (Some n) d ne) k, sym (ap (λ (x : ℕ). get_or (set held seat (Some n)) x d) e ∙ get_or-set_same held seat (Some n) d (omega arith)) k))
    (agree_sym (Some n) (get_or held i d) (fits i d (omega arith))))
    (λ nf. subst (λ (p : Option NeedView × Option NeedView). IsCompatible p.0 p.1) (λ k. (sym (get_or-set_other held seat i (Some n) d ne) k, sym (get_or-set_other held seat j (Some n) d nf) k)) (compatible i j d lt in_j)))

clash_or_light : (a b : Access) → (Clash a b → ⊥) → (a ≡ writes → weight b ≡ 0) × (weight b ≤ 15) × (a ≡ reads → weight b ≤ 1)
clash_or_light writes nothing n = ((λ _. refl), omega arith, λ e. omega arith)
clash_or_light writes reads n = absurd (n tt)
clash_or_light writes writes n = absurd (n tt)
clash_or_light reads nothing n = ((λ _. refl), omega arith, λ _. omega arith)
clash_or_light reads reads n = ((λ (e : reads ≡ writes). cc), omega arith, λ _. omega arith)
clash_or_light reads writes n = absurd (n tt)
clash_or_light nothing nothing n = ((λ (e : nothing ≡ writes). cc), omega arith, λ _. omega arith)
clash_or_light nothing reads n = ((λ (e : nothing ≡ writes). cc), omega arith, λ (e : nothing ≡ reads). cc)
clash_or_light nothing writes n = ((λ (e : nothing ≡ writes). cc), omega arith, λ (e : nothing ≡ reads). cc)

-- beside a writer all others weigh nothing, and beside a reader each at most one
pub beside_writer : (n : NeedView) (r : ℕ) → r < 16 → access n r ≡ writes → (held : List (Option NeedView)) → All (IsCompatible (Some n)) held → sum_by (λ h. held_lane h r) held ≡ 0
beside_writer n r lt is [] fits = refl
beside_writer n r lt is (None ∷ hs) fits = omega (arith, sum_by-cons (λ h. held_lane h r) None hs, beside_writer n r lt is hs (All-tail (IsCompatible (Some n)) None hs fits))
beside_writer n r lt is (Some m ∷ hs) fits = let light = (clash_or_light (access n r) (access m r) (λ c. All-head (IsCompatible (Some n)) (Some m) hs fits (r, lt, c))).0 is in
    omega (arith, sum_by-cons (λ h. held_lane h r) (Some m) hs, beside_writer n r lt is hs (All-tail (IsCompatible (Some n)) (Some m) hs fits))

pub beside_reader : (n : NeedView) (r : ℕ) → r < 16 → access n r ≡ reads → (held : List (Option NeedView)) → All (IsCompatible (Some n)) held → sum_by (λ h. held_lane h r) held ≤ count_by is_some held
beside_reader n r lt is [] fits = omega arith
beside_reader n r lt is (None ∷ hs) fits = omega (arith, sum_by-cons (λ h. held_lane h r) None hs, sum_by-cons (λ (h : Option NeedView). cond (is_some h) 1 0) None hs, beside_reader n r lt is hs (All-tail (IsCompatible (Some n)) None hs fits))
beside_reader n r lt is (Some m ∷ hs) fits = let light = (clash_or_light (access n r) (access m r) (λ c. All-head (IsCompatible (Some n)) (Some m) hs fits (r, lt, c))).2 is in
    omega (arith, sum_by-cons (λ h. held_lane h r) (Some m) hs, sum_by-cons (λ h. cond (is_some h) 1 0) (Some m) hs, beside_reader n r lt is hs (All-tail (IsCompatible (Some n)) (Some m) hs fits))

pub AreCompatible-tail : (h : Option NeedView) (hs : List (Option NeedView)) → AreCompatible (h ∷ hs) → AreCompatible hs
AreCompatible-tail h hs compatible i j d lt within = compatible (suc i) (suc j) d (omega arith) (omega arith)

pub AreCompatible-head : (h : Option NeedView) (hs : List (Option NeedView)) → AreCompatible (h ∷ hs) → All (IsCompatible h) hs
AreCompatible-head h hs compatible j d within = compatible 0 (suc j) d (omega arith) (omega arith)

-- where at most fifteen seats hold needs that do not conflict, each lane has room for all of them
pub compatible_lanes : (held : List (Option NeedView)) → AreCompatible held → count_by is_some held ≤ 15 → (r : ℕ) → r < 16 → sum_by (λ h. held_lane h r) held ≤ 15
compatible_lanes [] compatible few r lt = omega arith
compatible_lanes (None ∷ hs) compatible few r lt = let f = sum_by-cons (λ (h : Option NeedView). cond (is_some h) 1 0) None hs in
    let rest = compatible_lanes hs (AreCompatible-tail None hs compatible) (omega arith) r lt in omega (arith, sum_by-cons (λ h. held_lane h r) None hs)
compatible_lanes (Some n ∷ hs) compatible few r lt = let f = sum_by-cons (λ h. cond (is_some h) 1 0) (Some n) hs in let s = sum_by-cons (λ h. held_lane h r) (Some n) hs in
    let rest = compatible_lanes hs (AreCompatible-tail (Some n) hs compatible) (omega arith) r lt in go (access n r) refl s f rest
  where
    go : (a : Access) → access n r ≡ a → sum_by (λ h. held_lane h r) (Some n ∷ hs) ≡ lane n r + sum_by (λ h. held_lane h r) hs → count_by is_some (Some n ∷ hs) ≡ 1 + count_by is_some hs
        → sum_by (λ h. held_lane h r) hs ≤ 15 → sum_by (λ h. held_lane h r) (Some n ∷ hs) ≤ 15
    go nothing e s f rest = let w : lane n r ≡ 0 = ap weight e in omega arith
    go reads e s f rest = let w : lane n r ≡ 1 = ap weight e in let b = beside_reader n r lt e hs (AreCompatible-head (Some n) hs compatible) in omega arith
    go writes e s f rest = let w : lane n r ≡ 15 = ap weight e in let b = beside_writer n r lt e hs (AreCompatible-head (Some n) hs compatible) in omega arith

held_packed : (h : Option NeedView) → held_word h ≡ packed 16 (held_lane h)
held_packed None = sym (packed-none 16)
held_packed (Some n) = refl

pub sum_packed : (held : List (Option NeedView)) → sum_by held_word held ≡ packed 16 (λ r. sum_by (λ h. held_lane h r) held)
sum_packed held = same held ∙ packed-sum 16 held_lane held
  where
    same : (l : List (Option NeedView)) → sum_by held_word l ≡ sum_by (λ h. packed 16 (held_lane h)) l
    same [] = refl
    same (h ∷ hs) = let a = held_packed h in omega (arith, sum_by-cons held_word h hs, sum_by-cons (λ z. packed 16 (held_lane z)) h hs, same hs)

-- a lane of the sum of what is held is the sum of the lanes
pub sum_lane : (held : List (Option NeedView)) → ((r : ℕ) → r < 16 → sum_by (λ h. held_lane h r) held ≤ 15) → (r : ℕ) → r < 16 → lane_at (sum_by held_word held) r ≡ sum_by (λ h. held_lane h r) held
sum_lane held few r lt = ap (λ (w : ℕ). lane_at w r) (sum_packed held) ∙ packed-lane 16 (λ r. sum_by (λ h. held_lane h r) held) few r lt

pub sum_fits : (held : List (Option NeedView)) → AreCompatible held → count_by is_some held ≤ 15 → sum_by held_word held < 2 ^ 64
sum_fits held compatible few = let e = sum_packed held in let p : packed 16 (λ r. sum_by (λ h. held_lane h r) held) < 2 ^ 64 = packed-lt 16 (λ r. sum_by (λ h. held_lane h r) held) (compatible_lanes held compatible few) in omega arith

-- Where at most fifteen seats hold something and the one that asks is not among them, a word admits a need exactly
-- where it conflicts with none that is held.
pub admits_exactly : (held : List (Option NeedView)) (n : NeedView) → AreCompatible held → count_by is_some held ≤ 14 → Admits (sum_by held_word held) (word_of n) ↔ All (IsCompatible (Some n)) held
admits_exactly held n compatible few = (to, from)
  where
    here : (r : ℕ) → r < 16 → lane_at (sum_by held_word held) r ≡ sum_by (λ h. held_lane h r) held
    here r lt = sum_lane held (λ i l. compatible_lanes held compatible (omega arith) i l) r lt

    to : Admits (sum_by held_word held) (word_of n) → All (IsCompatible (Some n)) held
    to room k d within = agree (Some n) (get_or held k d) (λ r lt. let a = room r lt in let h = here r lt in let w = word_lane n r lt in let o = get_or-le-sum_by (λ h. held_lane h r) held k d within in omega arith)

    from : All (IsCompatible (Some n)) held → Admits (sum_by held_word held) (word_of n)
    from fits r lt = let h = here r lt in let w = word_lane n r lt in let f = sum_by-cons (λ h. cond (is_some h) 1 0) (Some n) held in let s = sum_by-cons (λ h. held_lane h r) (Some n) held in
        let all = compatible_lanes (Some n ∷ held) (joined fits) (omega arith) r lt in omega arith
      where
        joined : All (IsCompatible (Some n)) held → AreCompatible (Some n ∷ held)
        joined fits zero zero d lt within = absurd (omega arith)
        joined fits zero (suc j) d lt within = fits j d (omega arith)
        joined fits (suc i) zero d lt within = absurd (omega arith)
        joined fits (suc i) (suc j) d lt within = compatible i j d (omega arith) (omega arith)
