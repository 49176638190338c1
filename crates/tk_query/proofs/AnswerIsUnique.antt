-- The same events and the same conditions have one answer.
use Rattle.std.proofs.Common.{◌≡◌, ℕ, zero, suc, ◌+◌, ◌<◌, ◌≤◌, ◌⊎◌, Bool, List, [], ◌∷◌, length, take, Some, refl, sym, ap, ◌∙◌, subst, arith, inl, inr, ⊎_elim}
use Rattle.std.specs.List.{slice_get, Contains, AllPairs}
use Rattle.std.proofs.lemmas.Bool.{true≢false}
use Rattle.std.proofs.lemmas.Option.{same_Some, none-some}
use Rattle.tk_events.specs.declared.events.Entry.{Entry}
use Rattle.tk_record.specs.Recorded.{Recorded}
use Rattle.tk_record.specs.Selections.{Selected, events_of}
use Rattle.tk_query_conditions.specs.declared.conditions.Condition.{Condition}
use Rattle.tk_query.specs.declared.answers.Exact.TheVariants as exact
use Rattle.tk_query.specs.declared.answers.Loose.TheVariants as loose
use Rattle.tk_query.specs.declared.answers.InOrder.TheVariants as in_order
use Rattle.tk_query.specs.declared.answers.Exclusive.TheVariants as exclusive
use Rattle.tk_query.specs.declared.execution.Execution.{Execution}
use Rattle.tk_query.specs.Asked.{fits}
use Rattle.tk_query.specs.Exclusive.{Collide}
use Rattle.tk_query.specs.Holds.{holds}
use Rattle.tk_query.specs.InOrder.{HoldInTurn, IsNotAfter, IsFirstStuck}
use Rattle.tk_query.specs.Laws.{ExactIsUnique, LooseIsUnique, InOrderIsUnique, ListIsUnique, ExclusiveIsUnique}
use Rattle.tk_query.specs.Matches.{HoldsAt, IsFirstUnlike, HoldsSomewhere, IsFirstNowhere}
use Rattle.tk_query.proofs.Paired.{contains_none}
use Rattle.tk_query_lifecycle.proofs.LifecycleIsUnique.{between}

pub within_list : {A : Type 0} (xs : List A) (k : ℕ) (x : A) → slice_get xs k ≡ Some x → k < length xs
within_list [] k x e = absurd (none-some x e)
within_list (y ∷ xs) zero x e = omega arith
within_list (y ∷ xs) (suc k) x e = let lt = within_list xs k x e in omega arith

unlike_not : (r : Recorded) (cs : List Condition) (l : List Entry) (k : ℕ) → IsFirstUnlike r cs l k → HoldsAt r cs l k → ⊥
unlike_not r cs l k u h =
    let c = same_Some h.0 u.condition (sym h.2 ∙ u.condition_is) in
    let e = same_Some h.1 u.event (sym h.3 ∙ u.event_is) in
    true≢false (sym h.4 ∙ ap (λ x. holds r x h.1) c ∙ ap (holds r u.condition) e ∙ u.fails)

pub one_exact : ExactIsUnique
one_exact asked cs exact.Yes exact.Yes h k = refl
one_exact asked cs exact.Yes exact.WrongCount h k = absurd (k h.0)
one_exact asked cs exact.Yes (exact.No j) h k = absurd (unlike_not asked.recorded cs (events_of asked) j k.1 (h.1 j (within_list cs j k.1.condition k.1.condition_is)))
one_exact asked cs exact.WrongCount exact.Yes h k = absurd (h k.0)
one_exact asked cs exact.WrongCount exact.WrongCount h k = refl
one_exact asked cs exact.WrongCount (exact.No j) h k = absurd (h k.0)
one_exact asked cs (exact.No i) exact.Yes h k = absurd (unlike_not asked.recorded cs (events_of asked) i h.1 (k.1 i (within_list cs i h.1.condition h.1.condition_is)))
one_exact asked cs (exact.No i) exact.WrongCount h k = absurd (k h.0)
one_exact asked cs (exact.No i) (exact.No j) h k =
    ap (λ n. exact.No n) (between i j
    (λ lt. unlike_not asked.recorded cs (events_of asked) i h.1 (k.1.before i lt))
    (λ lt. unlike_not asked.recorded cs (events_of asked) j k.1 (h.1.before j lt)))

nowhere_not : (asked : Selected) (cs : List Condition) (k : ℕ) → IsFirstNowhere asked cs k → HoldsSomewhere asked cs k → ⊥
nowhere_not asked cs k u h =
    let c = same_Some h.0 u.condition (sym h.2 ∙ u.condition_is) in
    true≢false (sym h.3 ∙ ap (λ x. fits asked x h.1) c ∙ u.nowhere h.1)

pub one_loose : LooseIsUnique
one_loose asked cs loose.Yes loose.Yes h k = refl
one_loose asked cs loose.Yes (loose.No j) h k = absurd (nowhere_not asked cs j k (h j (within_list cs j k.condition k.condition_is)))
one_loose asked cs (loose.No i) loose.Yes h k = absurd (nowhere_not asked cs i h (k i (within_list cs i h.condition h.condition_is)))
one_loose asked cs (loose.No i) (loose.No j) h k =
    ap (λ n. loose.No n) (between i j (λ lt. nowhere_not asked cs i h (k.before i lt)) (λ lt. nowhere_not asked cs j k (h.before j lt)))

module _ {C : Type 0} (fits : C → ℕ → Bool) where
  pub as_many : (from : ℕ) (cs : List C) (ps : List ℕ) → HoldInTurn fits from cs ps → length ps ≡ length cs
  as_many from [] [] h = refl
  as_many from [] (p ∷ ps) h = absurd h
  as_many from (c ∷ cs) [] h = absurd h
  as_many from (c ∷ cs) (p ∷ ps) h = ap suc (as_many (p + 1) cs ps h.2)

  hold_prefix : (from n : ℕ) (cs : List C) (ps : List ℕ) → HoldInTurn fits from cs ps → HoldInTurn fits from (take n cs) (take n ps)
  hold_prefix from zero cs ps h = tt
  hold_prefix from (suc n) [] [] h = tt
  hold_prefix from (suc n) [] (p ∷ ps) h = absurd h
  hold_prefix from (suc n) (c ∷ cs) [] h = absurd h
  hold_prefix from (suc n) (c ∷ cs) (p ∷ ps) h = (h.0, h.1, hold_prefix (p + 1) n cs ps h.2)

  stuck_not : (cs : List C) (ps : List ℕ) (k : ℕ) → IsFirstStuck fits cs k → HoldInTurn fits 0 cs ps → ⊥
  stuck_not cs ps k stuck h = stuck.stuck (take (k + 1) ps, hold_prefix 0 (k + 1) cs ps h)

pub same_positions : (ps qs : List ℕ) → length ps ≡ length qs → IsNotAfter ps qs → IsNotAfter qs ps → ps ≡ qs
same_positions [] [] e f g = refl
same_positions [] (q ∷ qs) e f g = absurd (omega arith)
same_positions (p ∷ ps) [] e f g = absurd (omega arith)
same_positions (p ∷ ps) (q ∷ qs) e f g = ⊎_elim {C = p ∷ ps ≡ q ∷ qs}
    (λ (lt : p < q). ⊎_elim {C = p ∷ ps ≡ q ∷ qs} (λ (gt : q < p). absurd (omega arith)) (λ (h : (q ≡ p) × IsNotAfter qs ps). let at = h.0 in absurd (omega arith)) g)
    (λ (h : (p ≡ q) × IsNotAfter ps qs). ⊎_elim {C = p ∷ ps ≡ q ∷ qs}
    (λ (gt : q < p). let at = h.0 in absurd (omega arith))
    (λ (k : (q ≡ p) × IsNotAfter qs ps). ap (λ n. n ∷ ps) h.0 ∙ ap (λ l. q ∷ l) (same_positions ps qs (omega arith) h.1 k.1)) g)
    f

pub one_in_order : InOrderIsUnique
one_in_order asked cs (in_order.Yes p) (in_order.Yes q) h k =
    same_positions p.items q.items (as_many (fits asked) 0 cs p.items h.holds ∙ sym (as_many (fits asked) 0 cs q.items k.holds)) (h.least q.items k.holds) (k.least p.items h.holds)
one_in_order asked cs (in_order.Yes p) (in_order.No k) h s = stuck_not (fits asked) cs p.items k s h.holds
one_in_order asked cs (in_order.No j) (in_order.Yes q) s h = stuck_not (fits asked) cs q.items j s h.holds
one_in_order asked cs (in_order.No j) (in_order.No k) h s = between j k (λ lt. h.stuck (s.before j lt)) (λ lt. s.stuck (h.before k lt))

-- executions that are the same ones, in one order

abbrev AreOrdered : List Execution → Type 0
AreOrdered xs = AllPairs (λ (x y : Execution). x.last < y.last) xs

later : (x : Execution) (xs : List Execution) → AreOrdered (x ∷ xs) → (z : Execution) → Contains xs z → x.last < z.last
later x xs order z has =
    let lt = has.1 in
    let step = order 0 (suc has.0) z (omega arith) (omega arith) in
    subst (λ (y : Execution). x.last < y.last) has.2 step

order_rest : (x : Execution) (xs : List Execution) → AreOrdered (x ∷ xs) → AreOrdered xs
order_rest x xs order i j d lt within = order (suc i) (suc j) d (omega arith) (omega arith)

pub at_head : (x : Execution) (xs : List Execution) → Contains (x ∷ xs) x
at_head x xs = (0, omega arith, refl)

pub after_head : (x : Execution) (xs : List Execution) (z : Execution) → Contains xs z → Contains (x ∷ xs) z
after_head x xs z has = let lt = has.1 in (suc has.0, omega arith, has.2)

pub head_or_rest : (x : Execution) (xs : List Execution) (z : Execution) → Contains (x ∷ xs) z → (x ≡ z) ⊎ Contains xs z
head_or_rest x xs z (zero, lt, e) = inl e
head_or_rest x xs z (suc k, lt, e) = inr (k, omega arith, e)

heads_same : (x y : Execution) (xs ys : List Execution) → AreOrdered (x ∷ xs) → AreOrdered (y ∷ ys) → Contains (y ∷ ys) x → Contains (x ∷ xs) y → x ≡ y
heads_same x y xs ys first second has here = ⊎_elim {C = x ≡ y}
    (λ (e : y ≡ x). sym e)
    (λ (in_ys : Contains ys x). ⊎_elim {C = x ≡ y}
    (λ (e : x ≡ y). e)
    (λ (in_xs : Contains xs y). let a = later y ys second x in_ys in let b = later x xs first y in_xs in absurd (omega arith))
    (head_or_rest x xs y here))
    (head_or_rest y ys x has)

rest_in : (x y : Execution) (xs ys : List Execution) → AreOrdered (x ∷ xs) → x ≡ y → (z : Execution) → Contains xs z → Contains (y ∷ ys) z → Contains ys z
rest_in x y xs ys order same z in_xs has = ⊎_elim {C = Contains ys z}
    (λ (e : y ≡ z). let a = later x xs order z in_xs in let b = ap (λ (w : Execution). w.last) (same ∙ e) in absurd (omega arith))
    (λ (in_ys : Contains ys z). in_ys)
    (head_or_rest y ys z has)

same_lists : (xs ys : List Execution) → AreOrdered xs → AreOrdered ys → ((z : Execution) → Contains xs z → Contains ys z) → ((z : Execution) → Contains ys z → Contains xs z) → xs ≡ ys
same_lists [] [] first second to back = refl
same_lists [] (y ∷ ys) first second to back = absurd (contains_none y (back y (at_head y ys)))
same_lists (x ∷ xs) [] first second to back = absurd (contains_none x (to x (at_head x xs)))
same_lists (x ∷ xs) (y ∷ ys) first second to back =
    let same = heads_same x y xs ys first second (to x (at_head x xs)) (back y (at_head y ys)) in
    ap (λ (z : Execution). z ∷ xs) same
    ∙ ap (λ (l : List Execution). y ∷ l) (same_lists xs ys (order_rest x xs first) (order_rest y ys second)
    (λ z has. rest_in x y xs ys first same z has (to z (after_head x xs z has)))
    (λ z has. rest_in y x ys xs second (sym same) z has (back z (after_head y ys z has))))

pub one_list : ListIsUnique
one_list asked xs ys a b = same_lists xs ys a.order b.order (λ z has. (b.each z).1 ((a.each z).0 has)) (λ z has. (a.each z).1 ((b.each z).0 has))

pub one_exclusive : ExclusiveIsUnique
one_exclusive asked writers readers exclusive.Yes exclusive.Yes h k = refl
one_exclusive asked writers readers exclusive.Yes (exclusive.No p q) h k = absurd (h.1 p q k.collide)
one_exclusive asked writers readers exclusive.Yes exclusive.NoPair h k = absurd (k h.0.p h.0.q h.0.pair)
one_exclusive asked writers readers exclusive.NoPair exclusive.Yes h k = absurd (h k.0.p k.0.q k.0.pair)
one_exclusive asked writers readers exclusive.NoPair exclusive.NoPair h k = refl
one_exclusive asked writers readers exclusive.NoPair (exclusive.No p q) h k = absurd (h p q k.collide.pair)
one_exclusive asked writers readers (exclusive.No p q) exclusive.NoPair h k = absurd (k p q h.collide.pair)
one_exclusive asked writers readers (exclusive.No p q) exclusive.Yes h k = absurd (k.1 p q h.collide)
one_exclusive asked writers readers (exclusive.No p q) (exclusive.No i j) h k =
    let up : q ≤ j = h.least_second i j k.order k.collide in
    let down : j ≤ q = k.least_second p q h.order h.collide in
    let second : q ≡ j = omega arith in
    let p_low = h.order in
    let i_low = k.order in
    let left : p ≤ i = h.least_first i (omega arith) (subst (λ n. Collide asked writers readers i n) (sym second) k.collide) in
    let right : i ≤ p = k.least_first p (omega arith) (subst (λ n. Collide asked writers readers p n) second h.collide) in
    let first : p ≡ i = omega arith in
    ap (λ n. exclusive.No n q) first ∙ ap (λ n. exclusive.No i n) second
