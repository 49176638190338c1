-- The turns of a run: which unit which worker ran, and what it emitted.
use Rattle.std.proofs.Common.{◌≡◌, ◌≢◌, ◌<◌, ◌≤◌, ◌+◌, ◌==◌, nat_eq, nat_lt, ℕ, zero, suc, ◌⊎◌, inl, inr, ⊎_elim, Bool, true, false, cond, List, [], ◌∷◌, ◌++◌, length, map, filter, flat_map, length-append, Some, slice_get, All, refl, sym, ap, ap₂, ◌∙◌, subst, append-nil, arith, tests, eq-eqb, ne_eqb}
use Rattle.std.proofs.lemmas.List.Elements.{filter-append, All-head, All-tail}
use Rattle.std.proofs.lemmas.List.Sums.{length-filter}
use Rattle.std.proofs.lemmas.List.Recursion.{is_sum_by}
use Rattle.std.proofs.lemmas.Bool.{cases_lt}
use Rattle.tk_events.specs.declared.events.Event.{Event}
use Rattle.tk_events.specs.declared.events.Entry.{Entry}
use Rattle.tk_record.specs.Mixing.{IsWorkerOf, of_worker}
use Rattle.tk_queue_session.specs.Emission.{registrations}
use Rattle.tk_claims.specs.Claims.{Claims, times, once_below}
use Rattle.tk_claims.specs.Run.{Emits, IsShared}

-- a worker ran a unit, which emitted these events
pub record Turn : Type 0 where
  pub unit : ℕ
  pub worker : ℕ
  pub list : List Event

abbrev pub emitted : List Turn → List Event
emitted ts = flat_map (λ (t : Turn). t.list) ts

abbrev pub is_by : ℕ → Turn → Bool
is_by w t = t.worker == w

-- what holds of each turn
abbrev pub Each : (Turn → Type 0) → List Turn → Type 0
Each P ts = (p : List Turn) (t : Turn) (q : List Turn) → ts ≡ p ++ t ∷ q → P t

each_nil : (P : Turn → Type 0) → Each P []
each_nil P [] t q e = cc
each_nil P (x ∷ p) t q e = cc

each_cons : (P : Turn → Type 0) (t : Turn) (ts : List Turn) → P t → Each P ts → Each P (t ∷ ts)
each_cons P t ts here more [] x q e = let same : t ≡ x = cc in subst P same here
each_cons P t ts here more (y ∷ p) x q e = let rest : ts ≡ p ++ x ∷ q = cc in more p x q rest

each_append : (P : Turn → Type 0) (xs ys : List Turn) → Each P xs → Each P ys → Each P (xs ++ ys)
each_append P [] ys a b = b
each_append P (x ∷ xs) ys a b = each_cons P x (xs ++ ys) (a [] x xs refl) (each_append P xs ys (λ p t q e. a (x ∷ p) t q (ap (λ l. x ∷ l) e)) b)

-- a worker that is none of them has no event
no_events : (n w : ℕ) (r : List Entry) → All (λ (e : Entry). IsWorkerOf n e.worker) r → ((w ≡ 0) ⊎ (n < w)) → of_worker w r ≡ []
no_events n w [] h o = refl
no_events n w (x ∷ xs) h o =
    let more = no_events n w xs (All-tail (λ (e : Entry). IsWorkerOf n e.worker) x xs h) o in
    let within : IsWorkerOf n x.worker = All-head (λ (e : Entry). IsWorkerOf n e.worker) x xs h in
    let differ : (x.worker == w) ≡ false = ⊎_elim (λ z. grind (arith, tests, z, within.0)) (λ z. grind (arith, tests, z, within.1)) o in
    ap (λ b. map (λ (e : Entry). e.event) (cond b (x ∷ filter (λ e. e.worker == w) xs) (filter (λ e. e.worker == w) xs))) differ ∙ more

module _ (may : ℕ → ℕ → ℕ → List Event → Type 0) where
  -- ---- the turns of one worker

  abbrev pub turns : (w k : ℕ) (us : List ℕ) (l : List Event) → Emits may w k us l → List Turn
  turns w k [] l e = []
  turns w k (u ∷ us) l e = record { unit = u; worker = w; list = e.0 } ∷ turns w (k + registrations e.0) us e.1 e.4

  -- the unit may emit the list, for a worker that had registered some descriptors
  abbrev pub MayBe : Turn → Type 0
  MayBe t = (k : ℕ) × may t.unit t.worker k t.list

  turns_emit : (w k : ℕ) (us : List ℕ) (l : List Event) (e : Emits may w k us l) → emitted (turns w k us l e) ≡ l
  turns_emit w k [] l e = sym e
  turns_emit w k (u ∷ us) l e = ap (λ m. e.0 ++ m) (turns_emit w (k + registrations e.0) us e.1 e.4) ∙ sym e.2

  turns_may : (w k : ℕ) (us : List ℕ) (l : List Event) (e : Emits may w k us l) → Each (λ t. (t.worker ≡ w) × MayBe t) (turns w k us l e)
  turns_may w k [] l e = each_nil (λ t. (t.worker ≡ w) × MayBe t)
  turns_may w k (u ∷ us) l e =
      each_cons (λ t. (t.worker ≡ w) × MayBe t) (record { unit = u; worker = w; list = e.0 }) (turns w (k + registrations e.0) us e.1 e.4)
      (refl, (k, e.3)) (turns_may w (k + registrations e.0) us e.1 e.4)

  turns_by : (w k : ℕ) (us : List ℕ) (l : List Event) (e : Emits may w k us l) → filter (is_by w) (turns w k us l e) ≡ turns w k us l e
  turns_by w k [] l e = refl
  turns_by w k (u ∷ us) l e =
      let t : Turn = record { unit = u; worker = w; list = e.0 } in
      let ts = turns w (k + registrations e.0) us e.1 e.4 in
      ap (λ b. cond b (t ∷ filter (is_by w) ts) (filter (is_by w) ts)) (eq-eqb w w refl) ∙ ap (λ m. t ∷ m) (turns_by w (k + registrations e.0) us e.1 e.4)

  turns_not_by : (w v k : ℕ) (us : List ℕ) (l : List Event) (e : Emits may w k us l) → w ≢ v → filter (is_by v) (turns w k us l e) ≡ []
  turns_not_by w v k [] l e n = refl
  turns_not_by w v k (u ∷ us) l e n =
      let t : Turn = record { unit = u; worker = w; list = e.0 } in
      let ts = turns w (k + registrations e.0) us e.1 e.4 in
      ap (λ b. cond b (t ∷ filter (is_by v) ts) (filter (is_by v) ts)) (ne_eqb w v n) ∙ turns_not_by w v (k + registrations e.0) us e.1 e.4 n

  -- ---- the turns of all workers, where the first of the lists is worker w's

  abbrev pub From : (w : ℕ) → List (List ℕ) → (ℕ → List Event) → Type 0
  From w drawn lists = (j : ℕ) (us : List ℕ) → slice_get drawn j ≡ Some us → Emits may (w + j) 0 us (lists (w + j))

  abbrev first_of : (w : ℕ) (us : List ℕ) (drawn : List (List ℕ)) (lists : ℕ → List Event) → From w (us ∷ drawn) lists → Emits may w 0 us (lists w)
  first_of w us drawn lists h = let e : w + 0 ≡ w = omega arith in subst (λ v. Emits may v 0 us (lists v)) e (h 0 us refl)

  abbrev rest_of : (w : ℕ) (us : List ℕ) (drawn : List (List ℕ)) (lists : ℕ → List Event) → From w (us ∷ drawn) lists → From (w + 1) drawn lists
  rest_of w us drawn lists h j vs e = let same : w + suc j ≡ w + 1 + j = omega arith in subst (λ v. Emits may v 0 vs (lists v)) same (h (suc j) vs e)

  abbrev pub all_turns : (w : ℕ) (drawn : List (List ℕ)) (lists : ℕ → List Event) → From w drawn lists → List Turn
  all_turns w [] lists h = []
  all_turns w (us ∷ drawn) lists h = turns w 0 us (lists w) (first_of w us drawn lists h) ++ all_turns (w + 1) drawn lists (rest_of w us drawn lists h)

  all_may : (w : ℕ) (drawn : List (List ℕ)) (lists : ℕ → List Event) (h : From w drawn lists)
      → Each (λ t. (w ≤ t.worker) × (t.worker < w + length drawn) × MayBe t) (all_turns w drawn lists h)
  all_may w [] lists h = each_nil (λ t. (w ≤ t.worker) × (t.worker < w + 0) × MayBe t)
  all_may w (us ∷ drawn) lists h =
      each_append (λ t. (w ≤ t.worker) × (t.worker < w + length (us ∷ drawn)) × MayBe t) (turns w 0 us (lists w) (first_of w us drawn lists h)) (all_turns (w + 1) drawn lists (rest_of w us drawn lists h))
      (λ p t q e. let f = turns_may w 0 us (lists w) (first_of w us drawn lists h) p t q e in (omega (arith, f.0), omega (arith, f.0), f.1))
      (λ p t q e. let f = all_may (w + 1) drawn lists (rest_of w us drawn lists h) p t q e in (omega (arith, f.0), omega (arith, f.1), f.2))

  none_by : (v w : ℕ) (drawn : List (List ℕ)) (lists : ℕ → List Event) (h : From w drawn lists) → v < w → filter (is_by v) (all_turns w drawn lists h) ≡ []
  none_by v w [] lists h low = refl
  none_by v w (us ∷ drawn) lists h low =
      filter-append (is_by v) (turns w 0 us (lists w) (first_of w us drawn lists h)) (all_turns (w + 1) drawn lists (rest_of w us drawn lists h))
      ∙ ap₂ (λ a b. a ++ b) (turns_not_by w v 0 us (lists w) (first_of w us drawn lists h) (λ e. absurd (omega (arith, e, low))))
      (none_by v (w + 1) drawn lists (rest_of w us drawn lists h) (omega (arith, low)))

  by_step : (v w : ℕ) (us : List ℕ) (drawn : List (List ℕ)) (lists : ℕ → List Event) (h : From w (us ∷ drawn) lists) → v < w + suc (length drawn)
      → ((w ≡ v) ⊎ (w < v))
      → (w < v → emitted (filter (is_by v) (all_turns (w + 1) drawn lists (rest_of w us drawn lists h))) ≡ lists v)
      → emitted (filter (is_by v) (all_turns w (us ∷ drawn) lists h)) ≡ lists v
  by_step v w us drawn lists h low (inl same) more =
      let own = turns w 0 us (lists w) (first_of w us drawn lists h) in
      let others = all_turns (w + 1) drawn lists (rest_of w us drawn lists h) in
      subst (λ x. emitted (filter (is_by x) (own ++ others)) ≡ lists x) same
      (ap emitted (filter-append (is_by w) own others
      ∙ ap₂ (λ a b. a ++ b) (turns_by w 0 us (lists w) (first_of w us drawn lists h)) (none_by w (w + 1) drawn lists (rest_of w us drawn lists h) (omega arith))
      ∙ append-nil own)
      ∙ turns_emit w 0 us (lists w) (first_of w us drawn lists h))
  by_step v w us drawn lists h low (inr less) more =
      let own = turns w 0 us (lists w) (first_of w us drawn lists h) in
      let others = all_turns (w + 1) drawn lists (rest_of w us drawn lists h) in
      ap emitted (filter-append (is_by v) own others
      ∙ ap (λ a. a ++ filter (is_by v) others) (turns_not_by w v 0 us (lists w) (first_of w us drawn lists h) (λ e. absurd (omega (arith, e, less)))))
      ∙ more less

  low_or_same : (w v : ℕ) → w ≤ v → (w ≡ v) ⊎ (w < v)
  low_or_same w v h = grind (arith, tests, h)

  -- what a worker emitted is what its turns emitted
  pub all_emit : (v w : ℕ) (drawn : List (List ℕ)) (lists : ℕ → List Event) (h : From w drawn lists) → w ≤ v → v < w + length drawn
      → emitted (filter (is_by v) (all_turns w drawn lists h)) ≡ lists v
  all_emit v w [] lists h low high = absurd (omega (arith, low, high))
  all_emit v w (us ∷ drawn) lists h low high =
      by_step v w us drawn lists h (omega (arith, high)) (low_or_same w v low) (λ less. all_emit v (w + 1) drawn lists (rest_of w us drawn lists h) (omega (arith, less)) (omega (arith, high)))

  -- ---- how often a unit had a turn

  abbrev is_of : ℕ → Turn → Bool
  is_of u t = nat_eq t.unit u

  abbrev turns_with : ℕ → List Turn → ℕ
  turns_with u ts = length (filter (is_of u) ts)

  abbrev stands : ℕ → List ℕ → ℕ
  stands u us = length (filter (λ y. nat_eq y u) us)

  length_cond : {A B : Type 0} (b : Bool) (x : A) (xs : List A) (y : B) (ys : List B) → length xs ≡ length ys → length (cond b (x ∷ xs) xs) ≡ length (cond b (y ∷ ys) ys)
  length_cond true x xs y ys e = ap suc e
  length_cond false x xs y ys e = e

  turns_with_is : (u w k : ℕ) (us : List ℕ) (l : List Event) (e : Emits may w k us l) → turns_with u (turns w k us l e) ≡ stands u us
  turns_with_is u w k [] l e = refl
  turns_with_is u w k (x ∷ us) l e = length_cond (nat_eq x u) _ _ x _ (turns_with_is u w (k + registrations e.0) us e.1 e.4)

  abbrev stands_in : ℕ → List (List ℕ) → ℕ
  stands_in u [] = 0
  stands_in u (us ∷ drawn) = times u us + stands_in u drawn

  turns_with_all : (u w : ℕ) (drawn : List (List ℕ)) (lists : ℕ → List Event) (h : From w drawn lists) → turns_with u (all_turns w drawn lists h) ≡ stands_in u drawn
  turns_with_all u w [] lists h = refl
  turns_with_all u w (us ∷ drawn) lists h =
      let own = turns w 0 us (lists w) (first_of w us drawn lists h) in
      let others = all_turns (w + 1) drawn lists (rest_of w us drawn lists h) in
      ap length (filter-append (is_of u) own others) ∙ length-append (filter (is_of u) own) (filter (is_of u) others)
      ∙ ap₂ (λ a b. a + b) (turns_with_is u w 0 us (lists w) (first_of w us drawn lists h) ∙ length-filter (λ y. nat_eq y u) us) (turns_with_all u (w + 1) drawn lists (rest_of w us drawn lists h))

  claimed : (u w units : ℕ) (drawn : List (List ℕ)) (lists : ℕ → List Event) (h : From w drawn lists) → Claims drawn units → turns_with u (all_turns w drawn lists h) ≡ once_below u units
  claimed u w units drawn lists h c =
      turns_with_all u w drawn lists h
      ∙ is_sum_by (stands_in u) (times u) refl (λ us ds. refl) drawn
      ∙ c.once u

  one_turn : (b : Bool) (n : ℕ) → n ≡ cond b 1 0 → n ≤ 1
  one_turn true n e = omega (arith, e)
  one_turn false n e = omega (arith, e)

  below : (b : Bool) (u units n : ℕ) → nat_lt u units ≡ b → n ≡ cond b 1 0 → 0 < n → u < units
  below true u units n is e some = grind (arith, tests, is)
  below false u units n is e some = absurd (omega (arith, e, some))

  with_one : (u : ℕ) (p : List Turn) (t : Turn) (q : List Turn) → t.unit ≡ u → turns_with u p + turns_with u q + 1 ≡ turns_with u (p ++ t ∷ q)
  with_one u p t q same =
      let yes_of : is_of u t ≡ true = grind (arith, tests, same) in
      let parts : length (filter (is_of u) (p ++ t ∷ q)) ≡ length (filter (is_of u) p) + length (filter (is_of u) (t ∷ q))
      = ap length (filter-append (is_of u) p (t ∷ q)) ∙ length-append (filter (is_of u) p) (filter (is_of u) (t ∷ q)) in
      let one : length (filter (is_of u) (t ∷ q)) ≡ length (t ∷ filter (is_of u) q) = ap (λ b. length (cond b (t ∷ filter (is_of u) q) (filter (is_of u) q))) yes_of in
      let more : length (t ∷ filter (is_of u) q) ≡ 1 + length (filter (is_of u) q) = omega arith in
      omega (arith, parts, one, more)

  pub distinct : (w units : ℕ) (drawn : List (List ℕ)) (lists : ℕ → List Event) (h : From w drawn lists) → Claims drawn units
      → (p : List Turn) (t : Turn) (q : List Turn) (t' : Turn) (s : List Turn) → all_turns w drawn lists h ≡ p ++ t ∷ (q ++ t' ∷ s) → t.unit ≡ t'.unit → ⊥
  distinct w units drawn lists h c p t q t' s e same =
      let one = one_turn (nat_lt t.unit units) (turns_with t.unit (all_turns w drawn lists h)) (claimed t.unit w units drawn lists h c) in
      let outer = with_one t.unit p t (q ++ t' ∷ s) refl in
      let inner = with_one t.unit q t' s (sym same) in
      let all : turns_with t.unit (all_turns w drawn lists h) ≡ turns_with t.unit (p ++ t ∷ (q ++ t' ∷ s)) = ap (turns_with t.unit) e in
      omega (arith, one, outer, inner, all)

  pub is_unit : (w units : ℕ) (drawn : List (List ℕ)) (lists : ℕ → List Event) (h : From w drawn lists) → Claims drawn units
      → Each (λ t. t.unit < units) (all_turns w drawn lists h)
  is_unit w units drawn lists h c p t q e =
      let one = with_one t.unit p t q refl in
      let all : turns_with t.unit (all_turns w drawn lists h) ≡ turns_with t.unit (p ++ t ∷ q) = ap (turns_with t.unit) e in
      below (nat_lt t.unit units) t.unit units (turns_with t.unit (all_turns w drawn lists h)) refl (claimed t.unit w units drawn lists h c) (omega (arith, one, all))

  none_above : (v w : ℕ) (drawn : List (List ℕ)) (lists : ℕ → List Event) (h : From w drawn lists) → w + length drawn ≤ v → filter (is_by v) (all_turns w drawn lists h) ≡ []
  none_above v w [] lists h high = refl
  none_above v w (us ∷ drawn) lists h high =
      filter-append (is_by v) (turns w 0 us (lists w) (first_of w us drawn lists h)) (all_turns (w + 1) drawn lists (rest_of w us drawn lists h))
      ∙ ap₂ (λ a b. a ++ b) (turns_not_by w v 0 us (lists w) (first_of w us drawn lists h) (λ e. absurd (omega (arith, e, high))))
      (none_above v (w + 1) drawn lists (rest_of w us drawn lists h) (omega (arith, high)))

  -- the turns of a run
  pub record Turned (units workers : ℕ) (mid : List Entry) : Type 0 where
    pub ts : List Turn
    pub each : Each (λ t. (t.unit < units) × MayBe t) ts
    pub apart : (p : List Turn) (t : Turn) (q : List Turn) (t' : Turn) (s : List Turn) → ts ≡ p ++ t ∷ (q ++ t' ∷ s) → t.unit ≡ t'.unit → ⊥
    pub emits : (v : ℕ) → emitted (filter (is_by v) ts) ≡ of_worker v mid

  outside : (n v : ℕ) → (v ≡ 0) ⊎ ((n < v) ⊎ ((0 < v) × (v ≤ n)))
  outside n zero = inl refl
  outside n (suc v) = ⊎_elim (λ h. inr (inl h)) (λ h. inr (inr (omega arith, h))) (cases_lt n (suc v))

  pub turned : (units workers : ℕ) (mid : List Entry) → IsShared may units workers mid → Turned units workers mid
  turned units workers mid s =
      let h : From 1 s.drawn s.lists = λ j us e. let same : j + 1 ≡ 1 + j = omega arith in subst (λ v. Emits may v 0 us (s.lists v)) same (s.emits j us e) in
      let emits_by : (v : ℕ) → emitted (filter (is_by v) (all_turns 1 s.drawn s.lists h)) ≡ of_worker v mid = λ v.
      ⊎_elim (λ z. ap emitted (none_by v 1 s.drawn s.lists h (omega (arith, z))) ∙ sym (no_events workers v mid s.mix.workers (inl z)))
      (λ more. ⊎_elim (λ high. ap emitted (none_above v 1 s.drawn s.lists h (omega (arith, high, s.seats))) ∙ sym (no_events workers v mid s.mix.workers (inr high)))
      (λ within. all_emit v 1 s.drawn s.lists h (omega (arith, within.0)) (omega (arith, within.1, s.seats)) ∙ sym (s.mix.each v within)) more)
      (outside workers v)
      in record {
        ts = all_turns 1 s.drawn s.lists h;
        each = λ p t q e. (is_unit 1 units s.drawn s.lists h s.claims p t q e, (all_may 1 s.drawn s.lists h p t q e).2);
        apart = λ p t q t' r e same. distinct 1 units s.drawn s.lists h s.claims p t q t' r e same;
        emits = emits_by;
      }
