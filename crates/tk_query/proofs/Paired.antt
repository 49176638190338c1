-- The open starts before each place, and the executions that end before it.
use Rattle.std.proofs.Common.{◌≡◌, ◌≢◌, ℕ, zero, suc, ◌+◌, ◌-◌, ◌<◌, ◌≤◌, Bool, true, false, cond, nat_eq, eqb-true, eq-eqb, List, [], ◌∷◌, ◌++◌, length, get_or, Option, Some, None, is_some, MatchOption, refl, sym, ap, ◌∙◌, subst, arith, inl, inr, ⊎_elim, length-append, zero-add, add-zero}
use Rattle.std.specs.List.{Contains, AllPairs}
use Rattle.std.proofs.lemmas.Option.{same_Some, none-some}
use Rattle.std.proofs.lemmas.List.{append-nil, append_assoc, get_or_append_left, get_or_push, get_or_default}
use Rattle.std.proofs.lemmas.List.Elements.{Contains-append_left, Contains-append_right, Contains-append_cases}
use Rattle.std.proofs.lemmas.Bool.{cases_lt, eqb-false, ne_eqb, true≢false}
use Rattle.tk_record.specs.Selections.{Selected}
use Rattle.tk_query.specs.declared.pairing.Pairing.{Pairing}
use Rattle.tk_query.specs.ExecutionSteps.{step_at}
use Rattle.tk_query.proofs.AskedLemmas.{AreFlags, step_clear}
use Rattle.tk_query.specs.Pairing.{HaveSlots, open_of, rest_of, opened, opened_by, ended, ended_by, open_step, to_list, end_step, ended_from}
use Rattle.tk_query.specs.Executions.{IsSpan, IsSkip, IsExecution, AreExecutions}
use Rattle.tk_query.specs.declared.execution.Ending.{Ending}
use Rattle.tk_query.specs.declared.execution.Ending.TheVariants.{Skipped}
use Rattle.tk_query.specs.declared.execution_steps.Transition.{Transition}
use Rattle.tk_query.specs.declared.execution_steps.Transition.TheVariants.{Starts, Skips, Ends}
use Rattle.tk_query.specs.declared.execution_steps.ExecutionStep.{ExecutionStep}
use Rattle.tk_query.specs.declared.execution.Execution.{Execution}

contains_it : (y x : Execution) → y ≡ x → Contains (y ∷ []) x
contains_it y x e = (0, omega arith, e)

contains_one : (y x : Execution) → Contains (y ∷ []) x → y ≡ x
contains_one y x (zero, lt, h) = h
contains_one y x (suc k, lt, h) = absurd (omega arith)

pub contains_none : (x : Execution) → Contains [] x → ⊥
contains_none x h = omega (arith, h.1)

same_execution : (x : Execution) (first last start : ℕ) (ending : Ending) → first ≡ x.first → last ≡ x.last → start ≡ x.start → ending ≡ x.ending → record { key = x.key; first = first; last = last; start = start; stop = x.stop; ending = ending } ≡ x
same_execution x first last start ending e f g h =
    ap (λ (n : ℕ). let y : Execution = record { key = x.key; first = n; last = last; start = start; stop = x.stop; ending = ending } in y) e
    ∙ ap (λ (n : ℕ). let y : Execution = record { key = x.key; first = x.first; last = n; start = start; stop = x.stop; ending = ending } in y) f
    ∙ ap (λ (n : ℕ). let y : Execution = record { key = x.key; first = x.first; last = x.last; start = n; stop = x.stop; ending = ending } in y) g
    ∙ ap (λ (n : Ending). let y : Execution = record { key = x.key; first = x.first; last = x.last; start = x.start; stop = x.stop; ending = n } in y) h

same_step : (a : ExecutionStep) (key stamp : ℕ) (transition : Transition) → a.key ≡ key → a.stamp ≡ stamp → a.transition ≡ transition → a ≡ record { key = key; stamp = stamp; transition = transition }
same_step a key stamp transition e f g =
    ap (λ (n : ℕ). let b : ExecutionStep = record { key = n; stamp = a.stamp; transition = a.transition } in b) e
    ∙ ap (λ (n : ℕ). let b : ExecutionStep = record { key = key; stamp = n; transition = a.transition } in b) f
    ∙ ap (λ (m : Transition). let b : ExecutionStep = record { key = key; stamp = stamp; transition = m } in b) g

module _ (steps : ℕ → Option ExecutionStep) where
  abbrev open_before : ℕ → ℕ → Option (ℕ × ℕ)
  open_before zero key = None
  open_before (suc n) key = open_step (steps n) n key (open_before n key)

  abbrev ended_before : ℕ → List Execution
  ended_before zero = []
  ended_before (suc n) = ended_before n ++ end_step (steps n) n (open_before n)

  record IsOpen (n key i s : ℕ) : Type 0 where
    below : i < n
    starts : steps i ≡ Some (record { key = key; stamp = s; transition = Starts })
    between : (m : ℕ) (a : ExecutionStep) → i < m → m < n → steps m ≡ Some a → a.key ≢ key

  -- nothing of the key at n
  stays_open : (n key i s : ℕ) → IsOpen n key i s → ((a : ExecutionStep) → steps n ≡ Some a → a.key ≢ key) → IsOpen (suc n) key i s
  stays_open n key i s h none =
      record {
        below = let b = h.below in omega arith;
        starts = h.starts;
        between = λ m a lt le e. ⊎_elim {C = a.key ≢ key}
            (λ (below : m < n). h.between m a lt below e)
            (λ (above : n ≤ m). let same : m ≡ n = omega arith in none a (ap steps (sym same) ∙ e))
            (cases_lt m n);
      }

  opens_here : (n key i s : ℕ) (a : ExecutionStep) (transition : Transition) → steps n ≡ Some a → a.transition ≡ transition → a.key ≡ key → opened transition n a.stamp ≡ Some (i, s) → IsOpen (suc n) key i s
  opens_here n key i s a Starts e f g h =
      let p = same_Some (n, a.stamp) (i, s) h in
      let at : n ≡ i = ap (λ q. q.0) p in
      let stamp : a.stamp ≡ s = ap (λ q. q.1) p in
      let here : a ≡ record { key = key; stamp = s; transition = Starts } = same_step a key s Starts g stamp f in
      record {
        below = omega arith;
        starts = ap steps (sym at) ∙ e ∙ ap (λ b. Some b) here;
        between = λ m b lt le e. absurd (omega arith);
      }
  opens_here n key i s a Skips e f g h = absurd (none-some (i, s) h)
  opens_here n key i s a (Ends ending) e f g h = absurd (none-some (i, s) h)

  open_is : (n key i s : ℕ) → open_before n key ≡ Some (i, s) → IsOpen n key i s
  open_is zero key i s h = absurd (none-some (i, s) h)
  open_is (suc n) key i s h =
      elim (steps n) as (λ o. steps n ≡ o → open_step o n key (open_before n key) ≡ Some (i, s) → IsOpen (suc n) key i s) [
        | None ↦ λ e g. stays_open n key i s (open_is n key i s g) (λ a f. absurd (none-some a (sym e ∙ f)))
        | Some a ↦ λ e g.
            (elim (nat_eq a.key key) as (λ b. nat_eq a.key key ≡ b → cond b (opened_by a n) (open_before n key) ≡ Some (i, s) → IsOpen (suc n) key i s) [
              | true ↦ λ same f. opens_here n key i s a a.transition e refl (eqb-true a.key key same) f
              | false ↦ λ other f. stays_open n key i s (open_is n key i s f) (λ b f'. subst (λ (c : ExecutionStep). c.key ≢ key) (same_Some a b (sym e ∙ f')) (eqb-false a.key key other))
            ])
            refl g
      ]
      refl h

  is_open : (n key i s : ℕ) → IsOpen n key i s → open_before n key ≡ Some (i, s)
  is_open zero key i s h = let b = h.below in absurd (omega arith)
  is_open (suc n) key i s h = ⊎_elim {C = open_step (steps n) n key (open_before n key) ≡ Some (i, s)}
      (λ (below : i < n).
      let before = is_open n key i s (record { below = below; starts = h.starts; between = λ m a lt le e. h.between m a lt (omega arith) e }) in
      elim (steps n) as (λ o. steps n ≡ o → open_step o n key (open_before n key) ≡ Some (i, s)) [
        | None ↦ λ e. before
        | Some a ↦ λ e. ap (λ b. cond b (opened_by a n) (open_before n key)) (ne_eqb a.key key (h.between n a below (omega arith) e)) ∙ before
      ]
      refl)
      (λ (above : n ≤ i).
      let b = h.below in
      let at : i ≡ n = omega arith in
      ap (λ o. open_step o n key (open_before n key)) (ap steps (sym at) ∙ h.starts)
      ∙ ap (λ b. cond b (Some (n, s)) (open_before n key)) (eq-eqb key key refl)
      ∙ ap (λ m. Some (m, s)) (sym at))
      (cases_lt i n)

  EndsHere : Execution → ℕ → Type 0
  EndsHere x n = IsExecution steps x × (x.last ≡ n)

  transition_sound : (n : ℕ) (a : ExecutionStep) (transition : Transition) → steps n ≡ Some a → a.transition ≡ transition → (x : Execution) → Contains (to_list (ended a n transition (open_before n a.key))) x → IsExecution steps x × (x.last ≡ n)
  transition_sound n a Starts e f x h = absurd (contains_none x h)
  transition_sound n a Skips e f x h =
      let y : Execution = record { key = a.key; first = n; last = n; start = a.stamp; stop = a.stamp; ending = Skipped } in
      let here : IsSkip steps y = record { one = refl; stamps = refl; skips = e ∙ ap (λ b. Some b) (same_step a a.key a.stamp Skips refl refl f); ending = refl } in
      subst (λ z. IsExecution steps z × (z.last ≡ n)) (contains_one y x h) (inl here, refl)
  transition_sound n a (Ends ending) e f x h =
      elim (open_before n a.key) as (λ o. open_before n a.key ≡ o → Contains (to_list (ended a n (Ends ending) o)) x → IsExecution steps x × (x.last ≡ n)) [
        | None ↦ λ g there. absurd (contains_none x there)
        | Some started ↦ λ g there.
            let y : Execution = record { key = a.key; first = started.0; last = n; start = started.1; stop = a.stamp; ending = ending } in
            let was = open_is n a.key started.0 started.1 g in
            let here : IsSpan steps y = record { before = was.below; starts = was.starts; ends = e ∙ ap (λ b. Some b) (same_step a a.key a.stamp (Ends ending) refl refl f); between = was.between } in
            subst (λ z. IsExecution steps z × (z.last ≡ n)) (contains_one y x there) (inr here, refl)
      ]
      refl h

  end_sound : (n : ℕ) (x : Execution) → Contains (end_step (steps n) n (open_before n)) x → IsExecution steps x × (x.last ≡ n)
  end_sound n x h =
      elim (steps n) as (λ o. steps n ≡ o → Contains (end_step o n (open_before n)) x → IsExecution steps x × (x.last ≡ n))
      [ None ↦ λ e there. absurd (contains_none x there) | Some a ↦ λ e there. transition_sound n a a.transition e refl x there ]
      refl h

  end_complete : (n : ℕ) (x : Execution) → IsExecution steps x → x.last ≡ n → Contains (end_step (steps n) n (open_before n)) x
  end_complete n x h at = ⊎_elim {C = Contains (end_step (steps n) n (open_before n)) x}
      (λ (skip : IsSkip steps x).
      subst (λ o. Contains (end_step o n (open_before n)) x) (sym (ap steps (sym at) ∙ skip.skips))
      (contains_it _ x (same_execution x n n x.stop Skipped (sym at ∙ sym skip.one) (sym at) (sym skip.stamps) (sym skip.ending))))
      (λ (span : IsSpan steps x).
      let b = span.before in
      let was = is_open n x.key x.first x.start (record { below = omega arith; starts = span.starts; between = λ m a lt le e. span.between m a lt (omega arith) e }) in
      subst (λ o. Contains (end_step o n (open_before n)) x) (sym (ap steps (sym at) ∙ span.ends))
      (subst (λ o. Contains (to_list (ended (record { key = x.key; stamp = x.stop; transition = Ends x.ending }) n (Ends x.ending) o)) x) (sym was)
      (contains_it _ x (same_execution x x.first n x.start x.ending refl (sym at) refl refl))))
      h

  below_sound : (n : ℕ) (x : Execution) → Contains (ended_before n) x → IsExecution steps x × (x.last < n)
  below_sound zero x h = absurd (contains_none x h)
  below_sound (suc n) x h = ⊎_elim {C = IsExecution steps x × (x.last < suc n)}
      (λ (old : Contains (ended_before n) x). let r = below_sound n x old in let lt = r.1 in (r.0, omega arith))
      (λ (new : Contains (end_step (steps n) n (open_before n)) x). let r = end_sound n x new in let at = r.1 in (r.0, omega arith))
      (Contains-append_cases (ended_before n) (end_step (steps n) n (open_before n)) x h)

  below_complete : (n : ℕ) (x : Execution) → IsExecution steps x → x.last < n → Contains (ended_before n) x
  below_complete zero x h lt = absurd (omega arith)
  below_complete (suc n) x h lt = ⊎_elim {C = Contains (ended_before n ++ end_step (steps n) n (open_before n)) x}
      (λ (below : x.last < n). Contains-append_left (ended_before n) (end_step (steps n) n (open_before n)) x (below_complete n x h below))
      (λ (above : n ≤ x.last). Contains-append_right (ended_before n) (end_step (steps n) n (open_before n)) x (end_complete n x h (omega arith)))
      (cases_lt x.last n)

  abbrev InOrder : List Execution → Type 0
  InOrder xs = AllPairs (λ (x y : Execution). x.last < y.last) xs

  order_none : InOrder []
  order_none i j d lt within = absurd (omega arith)

  order_more : (xs : List Execution) (y : Execution) → InOrder xs → ((x : Execution) → Contains xs x → x.last < y.last) → InOrder (xs ++ y ∷ [])
  order_more xs y order below i j d lt within = ⊎_elim {C = (get_or (xs ++ y ∷ []) i d).last < (get_or (xs ++ y ∷ []) j d).last}
      (λ (inside : j < length xs).
      let i_in : i < length xs = omega arith in
      rw (get_or_append_left xs (y ∷ []) d i i_in, get_or_append_left xs (y ∷ []) d j inside) (order i j d lt inside))
      (λ (outside : length xs ≤ j).
      let long : length (xs ++ y ∷ []) ≡ length xs + 1 = length-append xs (y ∷ []) in
      let at : j ≡ length xs = omega arith in
      let i_in : i < length xs = omega arith in
      let last : get_or (xs ++ y ∷ []) j d ≡ y = get_or_push xs y d j (sym at) in
      rw (get_or_append_left xs (y ∷ []) d i i_in, last) (below (get_or xs i d) (i, i_in, get_or_default xs i (get_or xs i d) d i_in)))
      (cases_lt j (length xs))

  to_list_order : (xs : List Execution) (o : Option Execution) → InOrder xs → ((x : Execution) → Contains xs x → (y : Execution) → Contains (to_list o) y → x.last < y.last) → InOrder (xs ++ to_list o)
  to_list_order xs None order below = subst InOrder (sym (append-nil xs)) order
  to_list_order xs (Some y) order below = order_more xs y order (λ x has. below x has y (contains_it y y refl))

  end_step_is : (o : Option ExecutionStep) (n : ℕ) (f : ℕ → Option (ℕ × ℕ)) → (e : Option Execution) × (end_step o n f ≡ to_list e)
  end_step_is None n f = (None, refl)
  end_step_is (Some a) n f = (ended_by a n (f a.key), refl)

  in_order : (n : ℕ) → InOrder (ended_before n)
  in_order zero = order_none
  in_order (suc n) =
      let step = end_step_is (steps n) n (open_before n) in
      subst (λ new. InOrder (ended_before n ++ new)) (sym step.1)
      (to_list_order (ended_before n) step.0 (in_order n) (λ x old y new.
      let earlier = (below_sound n x old).1 in
      let at = (end_sound n y (subst (λ list. Contains list y) (sym step.1) new)).1 in
      omega arith))

  -- after the last act, all executions are there
  all_ended : (n : ℕ) → ((m : ℕ) → n ≤ m → steps m ≡ None) → AreExecutions steps (ended_before n)
  all_ended n none =
      record {
        each = λ x. (λ has. (below_sound n x has).0, λ is. below_complete n x is (last_below n none x is));
        order = in_order n;
      }
    where
      last_below : (n : ℕ) → ((m : ℕ) → n ≤ m → steps m ≡ None) → (x : Execution) → IsExecution steps x → x.last < n
      last_below n none x h = ⊎_elim {C = x.last < n}
          (λ (lt : x.last < n). lt)
          (λ (past : n ≤ x.last). ⊎_elim {C = x.last < n}
          (λ (skip : IsSkip steps x). absurd (none-some _ (sym (none x.last past) ∙ skip.skips)))
          (λ (span : IsSpan steps x). absurd (none-some _ (sym (none x.last past) ∙ span.ends)))
          h)
          (cases_lt x.last n)

  -- starts that are the same for each key end the same executions
  end_same : (o : Option ExecutionStep) (n : ℕ) (f g : ℕ → Option (ℕ × ℕ)) → ((key : ℕ) → f key ≡ g key) → end_step o n f ≡ end_step o n g
  end_same None n f g same = refl
  end_same (Some a) n f g same = ap (λ started. to_list (ended_by a n started)) (same a.key)

  from_same : (k n : ℕ) (f g : ℕ → Option (ℕ × ℕ)) → ((key : ℕ) → f key ≡ g key) → ended_from steps f n k ≡ ended_from steps g n k
  from_same zero n f g same = refl
  from_same (suc k) n f g same =
      let after : (ℕ → Option (ℕ × ℕ)) → ℕ → Option (ℕ × ℕ) = λ h key. open_step (steps n) n key (h key) in
      ap (λ list. list ++ ended_from steps (after f) (suc n) k) (end_same (steps n) n f g same)
      ∙ ap (λ list. end_step (steps n) n g ++ list) (from_same k (suc n) (after f) (after g) (λ key. ap (open_step (steps n) n key) (same key)))

  -- all executions that end below a position, and those that end from it on
  all_from : (k n : ℕ) → ended_before n ++ ended_from steps (open_before n) n k ≡ ended_before (n + k)
  all_from zero n = append-nil (ended_before n) ∙ ap ended_before (sym (add-zero n))
  all_from (suc k) n =
      let here = end_step (steps n) n (open_before n) in
      let more = ended_from steps (open_before (suc n)) (suc n) k in
      let same : suc n + k ≡ n + suc k = omega arith in
      sym (append_assoc (ended_before n) here more) ∙ all_from k (suc n) ∙ ap ended_before same

  -- where nothing happens from a position on, up to another
  from_none : (k n : ℕ) (f : ℕ → Option (ℕ × ℕ)) → steps n ≡ None → ended_from steps f n (suc k) ≡ ended_from steps f (suc n) k
  from_none k n f e = ap (λ o. end_step o n f ++ ended_from steps (λ key. open_step o n key (f key)) (suc n) k) e

  from_skip : (d n k : ℕ) (f : ℕ → Option (ℕ × ℕ)) → ((i : ℕ) → n ≤ i → i < n + d → steps i ≡ None) → ended_from steps f n (d + k) ≡ ended_from steps f (n + d) k
  from_skip zero n k f none = let same : n ≡ n + zero = omega arith in ap (ended_from steps f n) (zero-add k) ∙ ap (λ m. ended_from steps f m k) same
  from_skip (suc d) n k f none =
      let same : suc n + d ≡ n + suc d = omega arith in
      let far : suc d + k ≡ suc (d + k) = omega arith in
      ap (ended_from steps f n) far
      ∙ from_none (d + k) n f (none n (omega arith) (omega arith))
      ∙ from_skip d (suc n) k f (λ i low high. none i (omega arith) (omega arith))
      ∙ ap (λ m. ended_from steps f m k) same

  -- up to a position at which something may happen
  up_to : (len n p : ℕ) (f : ℕ → Option (ℕ × ℕ)) → n ≤ p → p < len → ((i : ℕ) → n ≤ i → i < p → steps i ≡ None) → ended_from steps f n (len - n) ≡ ended_from steps f p (suc (len - (p + 1)))
  up_to len n p f low high none =
      let far : len - n ≡ (p - n) + suc (len - (p + 1)) = omega arith in
      let there : n + (p - n) ≡ p = omega arith in
      ap (ended_from steps f n) far
      ∙ from_skip (p - n) n (suc (len - (p + 1))) f (λ i from below. none i from (omega arith))
      ∙ ap (λ m. ended_from steps f m (suc (len - (p + 1)))) there

  pub rest_none : (len n p : ℕ) (f : ℕ → Option (ℕ × ℕ)) → n ≤ p → p < len → ((i : ℕ) → n ≤ i → i < p → steps i ≡ None) → steps p ≡ None → ended_from steps f n (len - n) ≡ ended_from steps f (p + 1) (len - (p + 1))
  rest_none len n p f low high none here =
      let next : suc p ≡ p + 1 = omega arith in
      up_to len n p f low high none ∙ from_none (len - (p + 1)) p f here ∙ ap (λ m. ended_from steps f m (len - (p + 1))) next

  pub rest_step : (len n p : ℕ) (f g : ℕ → Option (ℕ × ℕ)) (a : ExecutionStep) → n ≤ p → p < len → ((i : ℕ) → n ≤ i → i < p → steps i ≡ None) → steps p ≡ Some a → ((key : ℕ) → g key ≡ cond (nat_eq a.key key) (opened_by a p) (f key))
      → ended_from steps f n (len - n) ≡ to_list (ended_by a p (f a.key)) ++ ended_from steps g (p + 1) (len - (p + 1))
  rest_step len n p f g a low high none here step =
      let k : ℕ = len - (p + 1) in
      let next : suc p ≡ p + 1 = omega arith in
      up_to len n p f low high none
      ∙ ap (λ o. end_step o p f ++ ended_from steps (λ key. open_step o p key (f key)) (suc p) k) here
      ∙ ap (λ list. to_list (ended_by a p (f a.key)) ++ list) (from_same k (suc p) (λ key. open_step (Some a) p key (f key)) g (λ key. sym (step key)) ∙ ap (λ m. ended_from steps g m k) next)

  pub rest_past : (len n : ℕ) (f : ℕ → Option (ℕ × ℕ)) → ((i : ℕ) → n ≤ i → steps i ≡ None) → ended_from steps f n (len - n) ≡ []
  rest_past len n f none =
      let far : len - n ≡ (len - n) + zero = omega arith in
      ap (ended_from steps f n) far ∙ from_skip (len - n) n zero f (λ i low high. none i low)

  pub all_from_start : (len : ℕ) (f : ℕ → Option (ℕ × ℕ)) → ((key : ℕ) → f key ≡ None) → ((m : ℕ) → len ≤ m → steps m ≡ None) → AreExecutions steps (ended_from steps f 0 (len - 0))
  all_from_start len f closed none =
      let far : len - 0 ≡ len = omega arith in
      subst (AreExecutions steps) (sym (ap (ended_from steps f 0) far ∙ from_same len 0 f (open_before 0) closed ∙ all_from len 0 ∙ ap ended_before (zero-add len))) (all_ended len none)

-- a pairing of these events that has slots for their keys, and from which the same executions are still to come
pub record IsOnWay (asked : Selected) (first now : Pairing) : Type 0 where
  pub slots : HaveSlots asked.recorded now.starts
  pub rest : rest_of asked first ≡ rest_of asked now

-- an execution that ended is the first of those that were to come
pub yields : (old new : List Execution) (o : Option Execution) → is_some o ≡ true → old ≡ to_list o ++ new → MatchOption o ((old ≡ []) × (new ≡ [])) (λ x. old ≡ x ∷ new)
yields old new None there left = absurd (true≢false (sym there))
yields old new (Some x) there left = left

pub none_ends : (old new : List Execution) (o : Option Execution) → is_some o ≡ false → old ≡ to_list o ++ new → old ≡ new
none_ends old new None there left = left
none_ends old new (Some x) there left = absurd (true≢false there)

-- before the first event all executions of the events are still to come
pub all_to_come : (asked : Selected) (flags : List Bool) → AreFlags asked flags → length flags ≡ length asked.recorded.entries → (p : Pairing) → ((key : ℕ) → open_of p.starts key ≡ None) → p.next ≡ 0 → AreExecutions (step_at asked) (rest_of asked p)
unfolding rest_of
all_to_come asked flags are long p closed first =
    subst (λ n. AreExecutions (step_at asked) (ended_from (step_at asked) (open_of p.starts) n (length asked.recorded.entries - n))) (sym first)
    (all_from_start (step_at asked) (length asked.recorded.entries) (open_of p.starts) closed (λ m past. step_clear asked flags are m (none_past flags m (omega (arith, past, long)))))
  where
    none_past : (flags : List Bool) (m : ℕ) → length flags ≤ m → get_or flags m false ≡ false
    none_past [] m past = refl
    none_past (f ∷ flags) zero past = absurd (omega arith)
    none_past (f ∷ flags) (suc m) past = none_past flags m (omega arith)
