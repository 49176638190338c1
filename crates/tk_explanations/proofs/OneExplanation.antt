-- The same events and the same conditions have one explanation.
use Rattle.std.proofs.Common.{◌≡◌, ℕ, Bool, List, [], ◌∷◌, ◌++◌, take, Some, None, Option, refl, sym, ap, ap₂, ◌∙◌, subst, arith}
use Rattle.std.specs.Prelude.{codes}
use Rattle.std.specs.List.{flat_map}
use Rattle.std.proofs.lemmas.Bool.{true≢false}
use Rattle.std.proofs.lemmas.Option.{same_Some}
use Rattle.tk_record.specs.Recorded.{Recorded}
use Rattle.tk_record.specs.Selections.{Selected}
use Rattle.tk_query_lifecycle.specs.LifecycleTexts.{lifecycle_text}
use Rattle.tk_query_lifecycle.specs.declared.lifecycle_rules.Lifecycle.{Lifecycle}
use Rattle.tk_query_lifecycle.proofs.LifecycleIsUnique.{between, lifecycle_is_unique}
use Rattle.tk_query_conditions.specs.CondOf.{cond_of}
use Rattle.tk_query_conditions.specs.declared.conditions.Condition.{Condition}
use Rattle.tk_query.specs.declared.answers.Exact.{Exact}
use Rattle.tk_query.specs.declared.answers.Exclusive.{Exclusive}
use Rattle.tk_query.specs.declared.answers.Exclusive.TheVariants as exclusives
use Rattle.tk_query.specs.declared.answers.InOrder.{InOrder}
use Rattle.tk_query.specs.declared.answers.InOrder.TheVariants as in_order
use Rattle.tk_query.specs.declared.answers.Loose.{Loose}
use Rattle.tk_query.specs.declared.answers.Loose.TheVariants as loose
use Rattle.tk_query_locks.specs.declared.answers.LockAnswer.{LockAnswer}
use Rattle.tk_query_locks.specs.declared.answers.LockAnswer.TheVariants as lock_answers
use Rattle.tk_query_locks.specs.AnswerTexts.{lock_answer_text, lock_answer_yes}
use Rattle.tk_query_locks.proofs.AnswerIsUnique.{one_answer}
use Rattle.tk_query.specs.AnswerTexts.{exact_text, exact_yes, exclusive_text, exclusive_yes, in_order_text, in_order_yes, loose_text, loose_yes, position_text}
use Rattle.tk_query.specs.Asked.{fits}
use Rattle.tk_query.specs.InOrder.{IsLeastInTurn, IsNextFit}
use Rattle.tk_query.specs.Laws.{AreAlike}
use Rattle.tk_query.proofs.AnswerIsUnique.{one_exact, one_exclusive, one_in_order, one_list, one_loose, same_positions}
use Rattle.tk_query.proofs.AnswerIsUnique.{as_many}
use Rattle.tk_query.proofs.EndLemmas.{one_end}
use Rattle.tk_query_nearest.specs.Nearness.{IsNearest}
use Rattle.tk_query_nearest.proofs.NearestIsUnique.{one_nearest}
use Rattle.tk_explanations.specs.Collisions.{AreCollisionRows, IsExclusiveExplanation, StartsAt, overlap_rows, writers_said}
use Rattle.tk_explanations.specs.LockCollisions.{AreLockRows, IsLockExplanation}
use Rattle.tk_explanations.specs.Laws.{ExplanationsAreUnique, IsUnique}
use Rattle.tk_explanations.specs.Lifecycles.{IsLifecycleExplanation, is_kept, lifecycle_rows}
use Rattle.tk_explanations.specs.Lists.{listed_execution}
use Rattle.tk_explanations.specs.MatchRows.{condition_row, found_rows, near_rows}
use Rattle.tk_explanations.specs.Matches.{AreFirstFits, AreInOrderRows, AreLooseRows, AreStuckRows, IsExactExplanation, IsInOrderExplanation, IsLastFit, IsLooseExplanation, after, early_rows, exact_rows, last_of}
use Rattle.tk_explanations.specs.Rows.{AsText, rows_text}
use Rattle.tk_explanations.specs.declared.rows.Row.{Row}
use Rattle.tk_explanations.specs.declared.rows.Span.{Span}
use Rattle.tk_explanations.specs.declared.rows.Row.TheVariants.{Line, Overlap, OverlapOver}

-- at most one answer, and at most one list of rows
abbrev AreOne : (Bool → List Row → Type 0) → Type 0
AreOne Explains = (a b : Bool) (xs ys : List Row) → Explains a xs → Explains b ys → (a ≡ b) × (xs ≡ ys)

one_text : (Explains : Bool → List Row → Type 0) (r : Recorded) → AreOne Explains → IsUnique (AsText Explains r)
one_text Explains r one a b s t x y =
    let same = one a b x.0 y.0 x.1 y.1 in
    (same.0, x.2 ∙ ap (rows_text r) same.1 ∙ sym y.2)

-- ---- exactly

exact_rows_one : (asked : Selected) (cs : List Condition) → AreOne (IsExactExplanation asked cs)
exact_rows_one asked cs a b xs ys x y =
    let same = one_exact asked cs x.0 y.0 x.1 y.1 in
    (x.2 ∙ ap (λ (e : Exact). exact_yes e) same ∙ sym y.2, x.3 ∙ ap (λ (e : Exact). Line (exact_text e) ∷ exact_rows asked cs e) same ∙ sym y.3)

-- ---- loosely

one_fit : (asked : Selected) (c : Condition) (p q : ℕ) → IsNextFit (fits asked) c 0 p → IsNextFit (fits asked) c 0 q → p ≡ q
one_fit asked c p q a b = between p q
    (λ lt. true≢false (sym a.fit ∙ b.first p (omega arith) lt))
    (λ lt. true≢false (sym b.fit ∙ a.first q (omega arith) lt))

first_fits_one : (asked : Selected) (cs : List Condition) (ps qs : List ℕ) → AreFirstFits asked cs ps → AreFirstFits asked cs qs → ps ≡ qs
first_fits_one asked [] [] [] a b = refl
first_fits_one asked [] [] (q ∷ qs) a b = absurd b
first_fits_one asked [] (p ∷ ps) qs a b = absurd a
first_fits_one asked (c ∷ cs) [] qs a b = absurd a
first_fits_one asked (c ∷ cs) (p ∷ ps) [] a b = absurd b
first_fits_one asked (c ∷ cs) (p ∷ ps) (q ∷ qs) a b = ap₂ (λ (x : ℕ) (xs : List ℕ). x ∷ xs) (one_fit asked c p q a.0 b.0) (first_fits_one asked cs ps qs a.1 b.1)

-- the nearest events to a condition, by its number
one_near : (asked : Selected) (cs : List Condition) (k from low : ℕ) (c d : Condition) (ps qs : List ℕ) → from ≡ low → c ≡ d → IsNearest asked from (cond_of c) ps → IsNearest asked low (cond_of d) qs → ps ≡ qs
one_near asked cs k from low c d ps qs same alike a b =
    one_nearest asked low (cond_of d) ps qs
    (subst (λ (n : ℕ). IsNearest asked n (cond_of d) ps) same (subst (λ (x : Condition). IsNearest asked from (cond_of x) ps) alike a)) b

loose_below : (asked : Selected) (cs : List Condition) (answer : Loose) (xs ys : List Row) → AreLooseRows asked cs answer xs → AreLooseRows asked cs answer ys → xs ≡ ys
loose_below asked cs loose.Yes xs ys a b = a.2 ∙ ap (found_rows 0 cs) (first_fits_one asked cs a.0 b.0 a.1 b.1) ∙ sym b.2
loose_below asked cs (loose.No k) xs ys a b =
    let same = same_Some a.0 b.0 (sym a.1 ∙ b.1) in
    let near = one_near asked cs k 0 0 a.0 b.0 a.2 b.2 refl same a.3 b.3 in
    a.4 ∙ ap₂ (λ (c : Condition) (ps : List ℕ). condition_row k c ∷ near_rows asked.recorded c ps) same near ∙ sym b.4

loose_rows_one : (asked : Selected) (cs : List Condition) → AreOne (IsLooseExplanation asked cs)
loose_rows_one asked cs a b xs ys x y =
    let same = one_loose asked cs x.0 y.0 x.1 y.1 in
    let below = loose_below asked cs y.0 x.3 y.3 (subst (λ (e : Loose). AreLooseRows asked cs e x.3) same x.4) y.4 in
    (x.2 ∙ ap (λ (e : Loose). loose_yes e) same ∙ sym y.2, x.5 ∙ ap₂ (λ (e : Loose) (l : List Row). Line (loose_text e) ∷ l) same below ∙ sym y.5)

-- ---- in order

one_in_turn : (asked : Selected) (cs : List Condition) (ps qs : List ℕ) → IsLeastInTurn (fits asked) cs ps → IsLeastInTurn (fits asked) cs qs → ps ≡ qs
one_in_turn asked cs ps qs a b =
    same_positions ps qs (as_many (fits asked) 0 cs ps a.holds ∙ sym (as_many (fits asked) 0 cs qs b.holds)) (a.least qs b.holds) (b.least ps a.holds)

one_last : (asked : Selected) (c : Condition) (o u : Option ℕ) → IsLastFit asked c o → IsLastFit asked c u → o ≡ u
one_last asked c None None a b = refl
one_last asked c None (Some q) a b = absurd (true≢false (sym b.0 ∙ a q (omega arith)))
one_last asked c (Some p) None a b = absurd (true≢false (sym a.0 ∙ b p (omega arith)))
one_last asked c (Some p) (Some q) a b = ap (λ (n : ℕ). Some n) (between p q
    (λ lt. true≢false (sym b.0 ∙ a.1 q (omega arith)))
    (λ lt. true≢false (sym a.0 ∙ b.1 p (omega arith))))

stuck_one : (asked : Selected) (cs : List Condition) (k : ℕ) (xs ys : List Row) → AreStuckRows asked cs k xs → AreStuckRows asked cs k ys → xs ≡ ys
stuck_one asked cs k xs ys a b =
    let same = same_Some a.condition b.condition (sym a.condition_is ∙ b.condition_is) in
    let found = one_in_turn asked (take k cs) a.found b.found a.found_in_turn b.found_in_turn in
    let early = one_last asked b.condition a.early b.early (subst (λ (c : Condition). IsLastFit asked c a.early) same a.early_is_last) b.early_is_last in
    let near = one_near asked cs k (after (last_of a.found)) (after (last_of b.found)) a.condition b.condition a.near b.near (ap (λ (ps : List ℕ). after (last_of ps)) found) same a.near_are b.near_are in
    a.rows_are
    ∙ ap₂ (λ (c : Condition) (ps : List ℕ). found_rows 0 cs ps ++ condition_row k c ∷ early_rows (last_of ps) a.early ++ near_rows asked.recorded c a.near) same found
    ∙ ap₂ (λ (o : Option ℕ) (ps : List ℕ). found_rows 0 cs b.found ++ condition_row k b.condition ∷ early_rows (last_of b.found) o ++ near_rows asked.recorded b.condition ps) early near
    ∙ sym b.rows_are

in_order_both : (asked : Selected) (cs : List Condition) (a b : InOrder) (xs ys : List Row) → AreAlike a b → AreInOrderRows asked cs a xs → AreInOrderRows asked cs b ys
    → (in_order_yes a ≡ in_order_yes b) × (Line (in_order_text a) ∷ xs ≡ Line (in_order_text b) ∷ ys)
in_order_both asked cs (in_order.Yes p) (in_order.Yes q) xs ys e f g =
    (refl, ap (λ (l : List Row). Line (in_order_text (in_order.Yes p)) ∷ l) f ∙ ap (λ (ps : List ℕ). Line (codes "yes" ++ flat_map position_text ps) ∷ found_rows 0 cs ps) e ∙ ap (λ (l : List Row). Line (in_order_text (in_order.Yes q)) ∷ l) (sym g))
in_order_both asked cs (in_order.Yes p) (in_order.No k) xs ys e f g = absurd e
in_order_both asked cs (in_order.No j) (in_order.Yes q) xs ys e f g = absurd e
in_order_both asked cs (in_order.No j) (in_order.No k) xs ys e f g =
    (refl, ap₂ (λ (n : ℕ) (l : List Row). Line (in_order_text (in_order.No n)) ∷ l) e (stuck_one asked cs k xs ys (subst (λ (n : ℕ). AreStuckRows asked cs n xs) e f) g))

in_order_rows_one : (asked : Selected) (cs : List Condition) → AreOne (IsInOrderExplanation asked cs)
in_order_rows_one asked cs a b xs ys x y =
    let same = in_order_both asked cs x.0 y.0 x.3 y.3 (one_in_order asked cs x.0 y.0 x.1 y.1) x.4 y.4 in
    (x.2 ∙ same.0 ∙ sym y.2, x.5 ∙ same.1 ∙ sym y.5)

-- ---- collisions

one_start : (asked : Selected) (p : ℕ) (x y : Span) → StartsAt asked p x → StartsAt asked p y → x ≡ y
one_start asked p x y a b =
    ap₂ (λ (m n : ℕ). record { start = m; end = n }) (a.start_is ∙ sym b.start_is) (one_end asked p x.end y.end a.ends b.ends)

module _ (asked : Selected) (writers readers : Condition) where
  collision_below :
      (answer : Exclusive) (xs ys : List Row) →
      AreCollisionRows asked writers readers answer xs →
      AreCollisionRows asked writers readers answer ys → xs ≡ ys
  collision_below exclusives.Yes xs ys a b = a ∙ sym b
  collision_below (exclusives.No p q) xs ys a b =
      let said = writers_said asked writers readers p q in
      a.4
      ∙ ap₂ (λ (x y : Span). overlap_rows asked.recorded x y (Overlap x y said))
      (one_start asked p a.0 b.0 a.2 b.2) (one_start asked q a.1 b.1 a.3 b.3)
      ∙ sym b.4
  collision_below exclusives.NoPair xs ys a b = a ∙ sym b

  exclusive_rows_one : AreOne (IsExclusiveExplanation asked writers readers)
  exclusive_rows_one a b xs ys x y =
      let same = one_exclusive asked writers readers x.0 y.0 x.1 y.1 in
      let Below : Exclusive → Type 0 = λ e. AreCollisionRows asked writers readers e x.3 in
      let below = collision_below y.0 x.3 y.3 (subst Below same x.4) y.4 in (
        x.2 ∙ ap (λ (e : Exclusive). exclusive_yes e) same ∙ sym y.2,
        x.5 ∙ ap₂ (λ (e : Exclusive) (l : List Row). Line (exclusive_text e) ∷ l) same below ∙ sym y.5,
      )

-- ---- locks

module _ (asked : Selected) where
  lock_below :
      (answer : LockAnswer) (xs ys : List Row) →
      AreLockRows asked answer xs → AreLockRows asked answer ys → xs ≡ ys
  lock_below lock_answers.Yes xs ys a b = a ∙ sym b
  lock_below (lock_answers.No p q name) xs ys a b =
      a.4
      ∙ ap₂ (λ (x y : Span). overlap_rows asked.recorded x y (OverlapOver x y name))
      (one_start asked p a.0 b.0 a.2 b.2) (one_start asked q a.1 b.1 a.3 b.3)
      ∙ sym b.4
  lock_below lock_answers.NoPair xs ys a b = a ∙ sym b

  lock_rows_one : AreOne (IsLockExplanation asked)
  lock_rows_one a b xs ys x y =
      let same = one_answer asked x.0 y.0 x.1 y.1 in
      let Below : LockAnswer → Type 0 = λ e. AreLockRows asked e x.3 in
      let below = lock_below y.0 x.3 y.3 (subst Below same x.4) y.4 in (
        x.2 ∙ ap (λ (e : LockAnswer). lock_answer_yes e) same ∙ sym y.2,
        x.5 ∙ ap₂ (λ (e : LockAnswer) (l : List Row). Line (lock_answer_text e) ∷ l) same below ∙ sym y.5,
      )

-- ---- lifecycles

lifecycle_rows_one : (r : Recorded) → AreOne (IsLifecycleExplanation r)
lifecycle_rows_one r a b xs ys x y =
    let same = lifecycle_is_unique r x.0 y.0 x.1 y.1 in
    (x.2 ∙ ap is_kept same ∙ sym y.2, x.3 ∙ ap (λ (l : Lifecycle). Line (lifecycle_text l) ∷ lifecycle_rows r l) same ∙ sym y.3)

pub explanations_are_unique : ExplanationsAreUnique
explanations_are_unique = record {
  exactly = λ asked cs. one_text (IsExactExplanation asked cs) asked.recorded (exact_rows_one asked cs);
  loosely = λ asked cs. one_text (IsLooseExplanation asked cs) asked.recorded (loose_rows_one asked cs);
  in_order = λ asked cs. one_text (IsInOrderExplanation asked cs) asked.recorded (in_order_rows_one asked cs);
  listed = λ asked a b s t x y. (x.0 ∙ sym y.0, x.1 ∙ sym y.1);
  executions = λ asked a b s t x y. (x.2 ∙ sym y.2, x.3 ∙ ap (flat_map (listed_execution asked.recorded)) (one_list asked x.0 y.0 x.1 y.1) ∙ sym y.3);
  exclusive = λ asked w r. one_text (IsExclusiveExplanation asked w r) asked.recorded (exclusive_rows_one asked w r);
  lifecycle = λ r. one_text (IsLifecycleExplanation r) r (lifecycle_rows_one r);
  locks = λ asked. one_text (IsLockExplanation asked) asked.recorded (lock_rows_one asked);
  statistics = λ asked e a b s t x y. (x.0 ∙ sym y.0, x.1 ∙ sym y.1);
}
