-- Which records keep what the two workers sent.
use Rattle.std.proofs.Common.{◌≡◌, ℕ, zero, suc, Bool, true, false, List, [], ◌∷◌, ◌++◌, refl, sym, ap, ◌∙◌, arith, length}
use Rattle.atomic_table.specs.Seated.{TableId}
use Rattle.tk_events.specs.declared.events.Event.{Event}
use Rattle.tk_events.specs.declared.events.Entry.{Entry}
use Rattle.tk_record.specs.Mixing.{IsWorkerOf, of_worker}
use Rattle.tk_queue_session.specs.Closing.{ClosedView, sent_in}
use Rattle.tk_engine_execute.specs.declared.engines.UnitFault.TheVariants.{Own}
use Rattle.tk_engine_execute.specs.declared.run_faults.RunFault.{RunFault}
use Rattle.tk_engine_execute.specs.declared.run_faults.RunFault.TheVariants.{Engine, Memory}
use Rattle.tk_engine_execute.specs.Prefix.{IsPrefix}
use Rattle.tk_engine_execute.specs.Witnesses.{start_at, entry_at, six_sent, five_starts, KeepsSix, KeptWitnesses}

-- what holds of both workers holds of each
of_both : (P : ℕ → Type 0) → P 1 → P 2 → (w : ℕ) → IsWorkerOf 2 w → P w
of_both P one two zero own = let some = own.0 in absurd (omega arith)
of_both P one two (suc zero) own = one
of_both P one two (suc (suc zero)) own = two
of_both P one two (suc (suc (suc w))) own = let few = own.1 in absurd (omega arith)

two_of_two : IsWorkerOf 2 2
two_of_two = (omega arith, omega arith)

module _ (session : TableId) where
  -- the session of a record is the one that was closed
  sent_by_two : (fault : RunFault) (is_complete : Bool) (entries : List Entry) (h : KeepsSix session fault is_complete entries) → sent_in h.closed 2 ≡ sent_in (six_sent session) 2
  sent_by_two fault is_complete entries h = let same : six_sent session ≡ h.closed = cc in ap (λ (c : ClosedView). sent_in c 2) (sym same)

  six : KeepsSix session Memory true (entry_at 0 0 ∷ five_starts ++ entry_at 2 6 ∷ [])
  six = record {
    closed = six_sent session;
    is_closed = refl;
    prefix = of_both (λ w. IsPrefix (of_worker w (entry_at 0 0 ∷ five_starts ++ entry_at 2 6 ∷ [])) (sent_in (six_sent session) w)) ([], refl) ([], refl);
    complete = λ _. of_both (λ w. of_worker w (entry_at 0 0 ∷ five_starts ++ entry_at 2 6 ∷ []) ≡ sent_in (six_sent session) w) refl refl;
    begins = ([], refl);
    stopped = λ unit why is. (let no : Memory ≡ Engine unit why = is in cc);
  }

  five : KeepsSix session Memory false (entry_at 0 0 ∷ five_starts)
  five = record {
    closed = six_sent session;
    is_closed = refl;
    prefix = of_both (λ w. IsPrefix (of_worker w (entry_at 0 0 ∷ five_starts)) (sent_in (six_sent session) w)) ([], refl) (start_at 6 ∷ [], refl);
    complete = λ is w own. (let no : false ≡ true = is in absurd (cc));
    begins = ([], refl);
    stopped = λ unit why is. (let no : Memory ≡ Engine unit why = is in cc);
  }

  pub kept_witnesses : KeptWitnesses session
  kept_witnesses = record {
    six = six;
    five = five;
    lost_start = λ h. (let no : 2 ≡ 3 = ap (λ (l : List Event). length l) (h.complete refl 2 two_of_two ∙ sent_by_two Memory true (entry_at 0 0 ∷ five_starts) h) in absurd (omega (arith, no)));
    invented_start = λ h.
        let more = h.prefix 2 two_of_two in
        let no : 3 ≡ suc (suc (suc (suc (length more.0)))) = ap (λ (l : List Event). length l) (sym (sent_by_two Memory false (entry_at 0 0 ∷ five_starts ++ entry_at 2 6 ∷ entry_at 2 7 ∷ []) h) ∙ more.1) in
        absurd (omega (arith, no));
    lost_before = λ h. (let no : 0 ≡ suc (length h.begins.0) = ap (λ (l : List Event). length l) h.begins.1 in absurd (omega (arith, no)));
    start_after_failure = λ h. (let no : 2 ≡ 1 = ap (λ (l : List Event). length l) (h.stopped 0 (Own 1) refl) in absurd (omega (arith, no)));
  }
