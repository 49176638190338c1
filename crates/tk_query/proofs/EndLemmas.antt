-- Where executions end.
use Rattle.std.proofs.Common.{◌≡◌, ℕ, ◌<◌, ◌≤◌, ◌⊎◌, Bool, true, false, List, [], ◌∷◌, length, get_or, set, Option, Some, None, refl, sym, ap, ◌∙◌, subst, arith, inl, inr, ⊎_elim}
use Rattle.std.specs.Prelude.{if◌then◌else◌, ◌==◌}
use Rattle.std.specs.List.{Contains}
use Rattle.std.specs.Option.{option_and_then}
use Rattle.std.proofs.lemmas.Bool.{cases_lt, cases_eq, true≢false}
use Rattle.std.proofs.lemmas.List.{get_or-set_same, get_or-set_other, get_or_past, length-set}
use Rattle.std.proofs.lemmas.Option.{same_Some, none-some}
use Rattle.tk_events.specs.Event.{kind_code}
use Rattle.tk_events.specs.declared.events.Entry.{Entry}
use Rattle.tk_events.specs.declared.kinds.Kind.{Kind}
use Rattle.tk_events.specs.declared.kinds.Kind.TheVariants as kind
use Rattle.tk_events.specs.declared.payloads.Payload.{Payload}
use Rattle.tk_events.specs.declared.payloads.Payload.TheVariants as payload
use Rattle.tk_record.specs.Entries.{of_kind}
use Rattle.tk_record.specs.Selections.{Selected}
use Rattle.tk_query.specs.declared.execution.Execution.{Execution}
use Rattle.tk_query.specs.declared.execution_steps.Transition.{Transition}
use Rattle.tk_query.specs.declared.execution_steps.Transition.TheVariants.{Starts, Ends}
use Rattle.tk_query.specs.declared.execution_steps.ExecutionStep.{ExecutionStep}
use Rattle.tk_query.specs.declared.pairing.Pairing.{Pairing}
use Rattle.tk_query_conditions.specs.declared.conditions.Condition.TheVariants as condition
use Rattle.tk_query.specs.Asked.{event_at, is_there}
use Rattle.tk_query.specs.Ends.{AreEnds, EndsAt, FinishesAt, is_start}
use Rattle.tk_query.specs.ExecutionSteps.{step_at, step_of, transition_of, with_transition}
use Rattle.tk_query.specs.Executions.{AreExecutions, IsSpan, IsSkip, IsExecution}
use Rattle.tk_query.specs.Laws.{EndIsUnique}
use Rattle.tk_query.specs.Pairing.{HaveSlots, rest_of}
use Rattle.tk_query.proofs.AnswerIsUnique.{head_or_rest, at_head, after_head}
use Rattle.tk_query.proofs.AskedLemmas.{AreFlags, fits_clear, step_clear}
use Rattle.tk_query.proofs.Paired.{contains_none}
use Rattle.tk_query_lifecycle.proofs.LifecycleIsUnique.{between}

-- ---- the end of an execution is one

-- an execution that finishes, and another one with its start, finish at one position
module _ (steps : ℕ → Option ExecutionStep) where
  same_key : (x y : Execution) → IsSpan steps x → IsSpan steps y → x.first ≡ y.first → x.key ≡ y.key
  same_key x y a b e =
      let p : ExecutionStep = record { key = x.key; stamp = x.start; transition = Starts } in
      let q : ExecutionStep = record { key = y.key; stamp = y.start; transition = Starts } in
      ap (λ (s : ExecutionStep). s.key) (same_Some p q (sym a.starts ∙ ap steps e ∙ b.starts))

  not_before : (x y : Execution) → IsSpan steps x → IsSpan steps y → x.first ≡ y.first → x.last < y.last → ⊥
  not_before x y a b e lt =
      let later = a.before in
      b.between x.last (record { key = x.key; stamp = x.stop; transition = Ends x.ending }) (omega arith) lt a.ends (same_key x y a b e)

  one_finish : (x y : Execution) → IsSpan steps x → IsSpan steps y → x.first ≡ y.first → x.last ≡ y.last
  one_finish x y a b e =
      between x.last y.last (λ lt. not_before x y a b e lt) (λ lt. not_before y x b a (sym e) lt)

pub one_end : EndIsUnique
one_end asked p m n (inl a) (inl b) =
    sym a.finishes ∙ one_finish (step_at asked) a.x b.x a.span b.span (a.starts ∙ sym b.starts) ∙ b.finishes
one_end asked p m n (inl a) (inr b) = absurd (b.0.unpaired m a)
one_end asked p m n (inr a) (inl b) = absurd (a.0.unpaired n b)
one_end asked p m n (inr a) (inr b) = a.1 ∙ sym b.1

-- ---- starts

start_kind : (k : Kind) (p : Payload) → transition_of k p ≡ Some Starts → (kind_code k == kind_code kind.Started) ≡ true
start_kind kind.Started p e = refl
start_kind kind.Skipped p e = cc
start_kind kind.Finished (payload.Outcome outcome) e = cc
start_kind kind.Finished _ e = absurd (none-some Starts e)
start_kind _ p e = absurd (none-some Starts e)

start_made : (e : Entry) (o : Option Transition) (a : ExecutionStep) → with_transition e o ≡ Some a → a.transition ≡ Starts → o ≡ Some Starts
start_made e None a is starts = absurd (none-some a is)
start_made e (Some t) a is starts =
    let made : ExecutionStep = record { key = e.event.key; stamp = e.event.stamp; transition = t } in
    ap (λ (s : ExecutionStep). Some s.transition) (same_Some made a is) ∙ ap (λ (s : Transition). Some s) starts

-- what starts an execution is a start
start_there : (o : Option Entry) (a : ExecutionStep) → option_and_then step_of o ≡ Some a → a.transition ≡ Starts → is_there (of_kind kind.Started) o ≡ true
start_there None a is starts = absurd (none-some a is)
start_there (Some e) a is starts =
    start_kind e.event.kind e.event.payload
    (start_made e (transition_of e.event.kind e.event.payload) a is starts)

span_starts : (asked : Selected) (x : Execution) → IsSpan (step_at asked) x → is_start asked x.first ≡ true
span_starts asked x span = start_there (event_at asked.kept x.first) _ span.starts refl

pub end_starts : (asked : Selected) (p n : ℕ) → EndsAt asked p n → is_start asked p ≡ true
end_starts asked p n (inl a) = subst (λ k. is_start asked k ≡ true) a.starts (span_starts asked a.x a.span)
end_starts asked p n (inr a) = a.0.starts

module _ (asked : Selected) (ends : List ℕ) (are : AreEnds asked ends) where
  -- what stands under a start is its end
  pub end_is : (p n : ℕ) → EndsAt asked p n → get_or ends p 0 ≡ n
  end_is p n at = one_end asked p (get_or ends p 0) n (are.each p (end_starts asked p n at)) at

  -- what has an end there is a start
  pub start_is : (p : ℕ) → 0 < get_or ends p 0 → is_start asked p ≡ true
  start_is p lt = by (is_start asked p) refl
    where
      by : (b : Bool) → is_start asked p ≡ b → b ≡ true
      by true is = refl
      by false is = let none = are.others p is in absurd (omega arith)

-- ---- the ends, one finish after the other

module _ (asked : Selected) (flags : List Bool) (are : AreFlags asked flags) (long : length flags ≡ length asked.recorded.entries) where
  -- what steps stands within the record
  step_within : (p : ℕ) (a : ExecutionStep) → step_at asked p ≡ Some a → p < length asked.recorded.entries
  step_within p a e = ⊎_elim {C = p < length asked.recorded.entries}
      (λ (lt : p < length asked.recorded.entries). lt)
      (λ (past : length asked.recorded.entries ≤ p). absurd (none-some a (sym (step_clear asked flags are p (get_or_past flags p false (omega arith))) ∙ e)))
      (cases_lt p (length asked.recorded.entries))

  pub finish_within : (p n : ℕ) → FinishesAt asked p n → n < length asked.recorded.entries
  finish_within p n a = subst (λ k. k < length asked.recorded.entries) a.finishes (step_within a.x.last _ a.span.ends)

  -- no start stands past the record
  pub none_past : (p : ℕ) → length asked.recorded.entries ≤ p → is_start asked p ≡ false
  none_past p past = fits_clear asked flags are condition.Started p (get_or_past flags p false (omega arith))

  start_within : (p : ℕ) → is_start asked p ≡ true → p < length asked.recorded.entries
  start_within p is = ⊎_elim {C = p < length asked.recorded.entries}
      (λ (lt : p < length asked.recorded.entries). lt)
      (λ (past : length asked.recorded.entries ≤ p). absurd (true≢false (sym is ∙ none_past p past)))
      (cases_lt p (length asked.recorded.entries))

-- a start has the finish that was found for it, or lasts to the end so far
abbrev IsEndSoFar : Selected → ℕ → ℕ → Type 0
IsEndSoFar asked p n = FinishesAt asked p n ⊎ (n ≡ length asked.recorded.entries)

-- the executions that ended have their finishes in the list, and the others are still to come
pub record AreSoFar (asked : Selected) (pairing : Pairing) (ends : List ℕ) : Type 0 where
  pub slots : HaveSlots asked.recorded pairing.starts
  pub size : length ends ≡ length asked.recorded.entries
  pub to_come : (x : Execution) → Contains (rest_of asked pairing) x → IsExecution (step_at asked) x
  pub found : (x : Execution) → IsSpan (step_at asked) x → Contains (rest_of asked pairing) x ⊎ (get_or ends x.first 0 ≡ x.last)
  pub each : (p : ℕ) → is_start asked p ≡ true → IsEndSoFar asked p (get_or ends p 0)
  pub others : (p : ℕ) → is_start asked p ≡ false → get_or ends p 0 ≡ 0

module _ (asked : Selected) (old new : Pairing) (ends : List ℕ) (so_far : AreSoFar asked old ends) (y : Execution) (next : rest_of asked old ≡ y ∷ rest_of asked new) (slots : HaveSlots asked.recorded new.starts) where
  was : IsExecution (step_at asked) y
  was = so_far.to_come y (subst (λ list. Contains list y) (sym next) (at_head y (rest_of asked new)))

  still : (x : Execution) → Contains (rest_of asked new) x → IsExecution (step_at asked) x
  still x has = so_far.to_come x (subst (λ list. Contains list x) (sym next) (after_head y (rest_of asked new) x has))

  -- an execution is this one, is still to come, or was found
  this_or_other : (x : Execution) → IsSpan (step_at asked) x → (y ≡ x) ⊎ Contains (rest_of asked new) x ⊎ (get_or ends x.first 0 ≡ x.last)
  this_or_other x span = ⊎_elim {C = (y ≡ x) ⊎ Contains (rest_of asked new) x ⊎ (get_or ends x.first 0 ≡ x.last)}
      (λ (has : Contains (rest_of asked old) x). ⊎_elim {C = (y ≡ x) ⊎ Contains (rest_of asked new) x ⊎ (get_or ends x.first 0 ≡ x.last)}
      (λ (same : y ≡ x). inl same)
      (λ (later : Contains (rest_of asked new) x). inr (inl later))
      (head_or_rest y (rest_of asked new) x (subst (λ list. Contains list x) next has)))
      (λ (there : get_or ends x.first 0 ≡ x.last). inr (inr there))
      (so_far.found x span)

  -- a skip has no finish of its own
  pub skip_taken : y.last ≤ y.first → AreSoFar asked new ends
  skip_taken not_later = record {
    slots = slots;
    size = so_far.size;
    to_come = still;
    found = λ x span. ⊎_elim {C = Contains (rest_of asked new) x ⊎ (get_or ends x.first 0 ≡ x.last)}
        (λ (same : y ≡ x). let a = ap (λ (z : Execution). z.first) same in let b = ap (λ (z : Execution). z.last) same in let c = span.before in absurd (omega arith))
        (λ (rest : Contains (rest_of asked new) x ⊎ (get_or ends x.first 0 ≡ x.last)). rest)
        (this_or_other x span);
    each = so_far.each;
    others = so_far.others;
  }

  spans : y.first < y.last → IsSpan (step_at asked) y
  spans lt = ⊎_elim {C = IsSpan (step_at asked) y}
      (λ (skip : IsSkip (step_at asked) y). let e = skip.one in absurd (omega arith))
      (λ (span : IsSpan (step_at asked) y). span)
      was

  pub span_within : (flags : List Bool) → AreFlags asked flags → length flags ≡ length asked.recorded.entries → y.first < y.last → y.first < length ends
  span_within flags are long lt =
      let size = so_far.size in
      let within = step_within asked flags are long y.first _ (spans lt).starts in
      omega arith

  pub span_taken : y.first < y.last → y.first < length ends → AreSoFar asked new (set ends y.first y.last)
  span_taken lt within = record {
    slots = slots;
    size = length-set ends y.first y.last ∙ so_far.size;
    to_come = still;
    found = λ x span. ⊎_elim {C = Contains (rest_of asked new) x ⊎ (get_or changed x.first 0 ≡ x.last)}
        (λ (same : x.first ≡ y.first). inr (here x.first same ∙ one_finish (step_at asked) y x (spans lt) span (sym same)))
        (λ (other : x.first ≡ y.first → ⊥). ⊎_elim {C = Contains (rest_of asked new) x ⊎ (get_or changed x.first 0 ≡ x.last)}
        (λ (same : y ≡ x). absurd (other (ap (λ (z : Execution). z.first) (sym same))))
        (λ (rest : Contains (rest_of asked new) x ⊎ (get_or ends x.first 0 ≡ x.last)). subst (λ n. Contains (rest_of asked new) x ⊎ (n ≡ x.last)) (sym (there x.first other)) rest)
        (this_or_other x span))
        (cases_eq x.first y.first);
    each = λ p is. ⊎_elim {C = IsEndSoFar asked p (get_or changed p 0)}
        (λ (same : p ≡ y.first). inl (record { x = y; span = spans lt; starts = sym same; finishes = sym (here p same) }))
        (λ (other : p ≡ y.first → ⊥). subst (IsEndSoFar asked p) (sym (there p other)) (so_far.each p is))
        (cases_eq p y.first);
    others = λ p not. ⊎_elim {C = get_or changed p 0 ≡ 0}
        (λ (same : p ≡ y.first). absurd (true≢false (sym (span_starts asked y (spans lt)) ∙ ap (is_start asked) (sym same) ∙ not)))
        (λ (other : p ≡ y.first → ⊥). there p other ∙ so_far.others p not)
        (cases_eq p y.first);
  }
    where
      changed : List ℕ
      changed = set ends y.first y.last

      here : (p : ℕ) → p ≡ y.first → get_or (set ends y.first y.last) p 0 ≡ y.last
      here p same = ap (λ n. get_or (set ends y.first y.last) n 0) same ∙ get_or-set_same ends y.first y.last 0 within

      there : (p : ℕ) → (p ≡ y.first → ⊥) → get_or (set ends y.first y.last) p 0 ≡ get_or ends p 0
      there p other = get_or-set_other ends y.first p y.last 0 other

-- none found yet
pub none_found : (asked : Selected) (pairing : Pairing) (ends : List ℕ) → HaveSlots asked.recorded pairing.starts → AreExecutions (step_at asked) (rest_of asked pairing) →
    length ends ≡ length asked.recorded.entries → ((p : ℕ) → get_or ends p 0 ≡ (if is_start asked p then length asked.recorded.entries else 0)) → AreSoFar asked pairing ends
none_found asked pairing ends slots all size are = record {
  slots = slots;
  size = size;
  to_come = λ x has. (all.each x).0 has;
  found = λ x span. inl ((all.each x).1 (inr span));
  each = λ p is. inr (are p ∙ ap (λ b. if b then length asked.recorded.entries else 0) is);
  others = λ p not. are p ∙ ap (λ b. if b then length asked.recorded.entries else 0) not;
}

-- all found
pub all_found : (asked : Selected) (flags : List Bool) → AreFlags asked flags → length flags ≡ length asked.recorded.entries → (pairing : Pairing) (ends : List ℕ) → AreSoFar asked pairing ends → rest_of asked pairing ≡ [] → AreEnds asked ends
all_found asked flags are long pairing ends so_far done = record {
  size = so_far.size;
  each = at;
  later = λ p is. after p (at p is) (start_within asked flags are long p is);
  others = so_far.others;
}
  where
    found_at : (p n : ℕ) → FinishesAt asked p n → get_or ends p 0 ≡ n
    found_at p n a = ⊎_elim {C = get_or ends p 0 ≡ n}
        (λ (has : Contains (rest_of asked pairing) a.x). absurd (contains_none a.x (subst (λ list. Contains list a.x) done has)))
        (λ (there : get_or ends a.x.first 0 ≡ a.x.last). ap (λ k. get_or ends k 0) (sym a.starts) ∙ there ∙ a.finishes)
        (so_far.found a.x a.span)

    at : (p : ℕ) → is_start asked p ≡ true → EndsAt asked p (get_or ends p 0)
    at p is = ⊎_elim {C = EndsAt asked p (get_or ends p 0)}
        (λ (a : FinishesAt asked p (get_or ends p 0)). inl a)
        (λ (last : get_or ends p 0 ≡ length asked.recorded.entries). inr (
          record {
            starts = is;
            unpaired = λ n a.
                let within = finish_within asked flags are long p n a in
                let there = found_at p n a in
                omega arith;
          },
          last,
        ))
        (so_far.each p is)

    after : (p : ℕ) → EndsAt asked p (get_or ends p 0) → p < length asked.recorded.entries → p < get_or ends p 0
    after p (inl a) within = let before = a.span.before in let start = a.starts in let finish = a.finishes in omega arith
    after p (inr a) within = let last = a.1 in omega arith
