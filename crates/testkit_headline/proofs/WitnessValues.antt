-- That the values with numbers meet the words of the headline, or don't.
use Rattle.std.proofs.Common.{◌≡◌, ◌≢◌, ◌==◌, ℕ, zero, suc, ◌<◌, ◌≤◌, if◌then◌else◌, Bool, true, false, true≢false, List, [], ◌∷◌, ◌++◌, length, All, Option, Some, None, slice_get, sym, refl, ap, ◌∙◌, subst, arith}
use Rattle.std.proofs.lemmas.List.Elements.{All-head, All-from_recursion}
use Rattle.tk_events.specs.declared.events.Event.{Event}
use Rattle.tk_events.specs.declared.events.Entry.{Entry}
use Rattle.tk_record.specs.Mixing.{IsWorkerOf, Mix, of_worker}
use Rattle.tk_record.specs.declared.selections.Selection.TheVariants.{Started}
use Rattle.tk_query_conditions.specs.declared.conditions.Condition.TheVariants as condition
use Rattle.tk_query.specs.Asked.{fits, is_there}
use Rattle.tk_query.specs.Holds.{holds}
use Rattle.tk_query.specs.InOrder.{CanHoldInTurn, HoldInTurn}
use Rattle.tk_locks.specs.NeedView.{NeedView}
use Rattle.tk_locks.specs.Needs.{Access, nothing, writes}
use Rattle.tk_locks.specs.Holdings.{WritersAreAlone, held_access}
use Rattle.tk_queue_session.specs.declared.items.Item.TheVariants.{Entry as Emitted, End}
use Rattle.tk_queue_session.specs.Core.{Core, IsCore, push}
use Rattle.tk_queue_session.proofs.CoreInvariant.{pushes_core, takes}
use Rattle.tk_queue_session.specs.CoreSteps.{fresh_core}
use Rattle.tk_queue_session.specs.Marks.{is_marked}
use Rattle.tk_queue_session.proofs.SharedSteps.{append_cons_ne_nil}
use Rattle.tk_claims.specs.Parts.{EachHasItsList}
use Rattle.tk_engine_execute.proofs.Positions.{same_last}
use Rattle.testkit_headline.specs.Recordings.{Completes, NothingAfterMarks}
use Rattle.testkit_headline.specs.Counting.{IsCount}
use Rattle.testkit_headline.specs.Witnesses.{entry_at, start_of, both_wait, mark_waits, all_taken, five_starts, six_starts, HoldsSixStarts, a_writer, one_start, Witnesses}
use Rattle.testkit_headline.proofs.Runs.{held}

worker_one : IsWorkerOf 1 1
worker_one = (omega arith, omega arith)

-- ---- a session of one worker

fresh_is : IsCore 1 fresh_core
fresh_is = record { kept = λ w. refl; others = λ w not_one. (refl, refl) }

both_are : IsCore 1 both_wait
both_are =
    pushes_core 1 (End 1) (push (Emitted (start_of 1)) fresh_core) worker_one refl
    (pushes_core 1 (Emitted (start_of 1)) fresh_core worker_one refl fresh_is)

waiting_is : IsCore 1 mark_waits
waiting_is = takes 1 (Emitted (start_of 1)) (End 1 ∷ []) both_wait refl both_are

taken_is : IsCore 1 all_taken
taken_is = takes 1 (End 1) [] mark_waits refl waiting_is

only_one : (w : ℕ) → IsWorkerOf 1 w → w ≡ 1
only_one w is = let some = is.0 in let few = is.1 in omega arith

taken_completes : Completes 1 all_taken.taken
taken_completes w is =
    subst (λ v. is_marked v all_taken.taken ≡ true) (sym (only_one w is)) refl

waiting_does_not : ¬ Completes 1 mark_waits.taken
waiting_does_not completes = true≢false (sym (completes 1 worker_one))

event_after : ¬ NothingAfterMarks 2 (End 1 ∷ End 2 ∷ Emitted (start_of 2) ∷ [])
event_after h =
    append_cons_ne_nil [] (Emitted (start_of 2)) []
    (h 2 (End 1 ∷ []) (Emitted (start_of 2) ∷ []) (omega arith, omega arith) refl)

of_another : (lists : ℕ → List Event) → ¬ Mix 1 (start_of 2 ∷ []) lists
of_another lists mix =
    let within : 2 ≤ 1 = (All-head (λ e. IsWorkerOf 1 e.worker) (start_of 2) [] mix.workers).1 in
    omega arith

-- ---- a run of two workers

six_mixed : Mix 2 (five_starts ++ entry_at 2 6 ∷ []) six_starts
six_mixed = record {
  workers = All-from_recursion (λ e. IsWorkerOf 2 e.worker) (five_starts ++ entry_at 2 6 ∷ []) (
    one_of_two,
    (two_of_two, (two_of_two, (one_of_two, (one_of_two, (two_of_two, tt))))),
  );
  each = each;
}
  where
    one_of_two : IsWorkerOf 2 1
    one_of_two = (omega arith, omega arith)

    two_of_two : IsWorkerOf 2 2
    two_of_two = (omega arith, omega arith)

    each :
        (w : ℕ) → IsWorkerOf 2 w
        → of_worker w (five_starts ++ entry_at 2 6 ∷ []) ≡ six_starts w
    each zero own = let some = own.0 in absurd (omega arith)
    each (suc zero) own = refl
    each (suc (suc zero)) own = refl
    each (suc (suc (suc w))) own = let few = own.1 in absurd (omega arith)

-- of worker 2 the record has three starts
of_worker_two :
    (law : EachHasItsList) (last : List Entry) → HoldsSixStarts last
    → of_worker 2 (entry_at 0 0 ∷ five_starts ++ last) ≡ six_starts 2
of_worker_two law last h = held law _ _ 2 six_starts _ h 2 (omega arith, omega arith)

after_units : ¬ HoldsSixStarts (entry_at 0 9 ∷ entry_at 2 6 ∷ [])
after_units h =
    let last = same_last (entry_at 0 0 ∷ five_starts ++ entry_at 0 9 ∷ [])
    (entry_at 0 0 ∷ h.mid) (entry_at 2 6) (entry_at 0 9) h.whole in
    let no : 2 ≡ 0 = ap (λ (e : Entry). e.worker) last.1 in omega (arith, no)

-- ---- locks

writer_beside_none : WritersAreAlone (a_writer ∷ None ∷ [])
writer_beside_none zero zero r h k apart lt first second writing = absurd (apart refl)
writer_beside_none zero (suc zero) r h k apart lt first second writing =
    let none : k ≡ None = cc in ap (λ (x : Option NeedView). held_access x r) none
writer_beside_none zero (suc (suc j)) r h k apart lt first second writing = cc
writer_beside_none (suc zero) j r h k apart lt first second writing =
    let none : h ≡ None = cc in
    let idle : nothing ≡ writes = ap (λ x. held_access x r) (sym none) ∙ writing in cc
writer_beside_none (suc (suc i)) j r h k apart lt first second writing = cc

writes_zero : held_access a_writer 0 ≡ writes
writes_zero = refl

two_writers_clash : ¬ WritersAreAlone (a_writer ∷ a_writer ∷ [])
two_writers_clash alone =
    let zero_not_one : 0 ≢ 1 = λ (e : 0 ≡ 1). omega (arith, e) in
    let idle : writes ≡ nothing =
    sym writes_zero ∙ alone 0 1 0 a_writer a_writer zero_not_one (omega arith) refl refl writes_zero
    in absurd (cc)

-- ---- counts and matches

not_two : ¬ IsCount one_start (Started, 2)
not_two e = let no : 2 ≡ 1 = e in omega (arith, no)

never : (p : ℕ) → fits one_start condition.Succeeded p ≡ false
never p =
    elim (0 == p) as
    (λ b. is_there (holds one_start.recorded condition.Succeeded)
    (if b then Some (start_of 1) else None) ≡ false)
    [ true ↦ refl | false ↦ refl ]

no_turn : ¬ CanHoldInTurn (fits one_start) (condition.Succeeded ∷ [])
no_turn can = none can.0 can.1
  where
    none : (ps : List ℕ) → ¬ HoldInTurn (fits one_start) 0 (condition.Succeeded ∷ []) ps
    none [] h = absurd h
    none (p ∷ ps) h = true≢false (sym h.1 ∙ never p)

pub met : EachHasItsList → Witnesses
met law = record {
  taken_mark_completes = (taken_is, taken_completes);
  waiting_mark_does_not = (waiting_is, waiting_does_not);
  event_after_the_mark = event_after;
  entry_of_another_worker = of_another;
  six_starts_held = record {
    mid = five_starts ++ entry_at 2 6 ∷ [];
    whole = refl;
    mix = six_mixed;
  };
  lost_start = λ h.
      let no : 2 ≡ 3 = ap (λ (l : List Event). length l)
      (of_worker_two law (entry_at 0 9 ∷ []) h) in omega (arith, no);
  invented_start = λ h.
      let no : 4 ≡ 3 = ap (λ (l : List Event). length l)
      (of_worker_two law (entry_at 2 6 ∷ entry_at 2 7 ∷ entry_at 0 9 ∷ []) h) in omega (arith, no);
  start_after_the_units = after_units;
  one_writer = writer_beside_none;
  two_writers = two_writers_clash;
  count_of_one = refl;
  count_of_two = not_two;
  condition_that_holds = (0 ∷ [], (omega arith, refl, tt));
  condition_that_does_not = no_turn;
}
