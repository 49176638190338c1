-- One reason not to close at most, what a lawful sender is, and what was taken where nothing waits.
use Rattle.std.proofs.Common.{◌≡◌, ℕ, ◌<◌, ◌↔◌, Bool, true, false, true≢false, ◌&&◌, not, if◌then◌else◌, List, [], ◌∷◌, ◌++◌, length, length-append, append_assoc, refl, sym, ap, ◌∙◌, subst, ⊎_elim, arith}
use Rattle.std.specs.Prelude.{nat_lt, Some, None}
use mathlib.Core.Logic.{dite}
use native.Mathlib.Decide.{dec_lt}
use Rattle.std.proofs.lemmas.Bool.{and_parts, lt-ltb}
use Rattle.std.proofs.lemmas.List.{append-nil}
use Rattle.tk_queue_session.proofs.ListCuts.{cut_last}
use Rattle.tk_record.specs.Mixing.{IsWorkerOf}
use Rattle.tk_record.specs.Record.{is_next}
use Rattle.tk_events.specs.declared.events.Event.{Event}
use Rattle.tk_events.specs.Event.{is_lawful}
use Rattle.tk_queue_session.specs.Core.{items_of, script}
use Rattle.tk_queue_session.specs.declared.close_faults.CloseReason.{CloseReason}
use Rattle.tk_queue_session.specs.declared.close_faults.CloseReason.TheVariants.{Missing, Twice, NotDrained}
use Rattle.tk_queue_session.specs.declared.sender_faults.SendFault.TheVariants as unsent
use Rattle.tk_queue_session.specs.Closing.{Least, IsComplete, IsCloseFault}
use Rattle.tk_queue_session.specs.Emission.{entry_by, is_dynamic, is_plain}
use Rattle.tk_queue_session.specs.Limits.{most_events}
use Rattle.tk_queue_session.specs.Receivers.{ReceiverView, NothingWaited}
use Rattle.tk_queue_session.specs.Senders.{SenderView, EmitsLawfully, IsLawfulAfter, knows, record_of_sender, refusal_of, sends}
use Rattle.tk_queue_session.proofs.SenderSteps.{not_refused}

least_same : (n : ℕ) (P : ℕ → Type 0) (v w : ℕ) → Least n P v → Least n P w → v ≡ w
least_same n P v w a b =
    dite (dec_lt v w) (λ lt. absurd (b.below v a.worker lt a.holds))
    (λ ge. dite (dec_lt w v) (λ lt. absurd (a.below w b.worker lt b.holds)) (λ le. omega arith))

pub one : (r : ReceiverView) (tokens : List SenderView) (a b : CloseReason)
    → IsCloseFault a r tokens → IsCloseFault b r tokens → a ≡ b
one r tokens (Missing v) (Missing w) x y = ap Missing (least_same r.workers _ v w x y)
one r tokens (Missing v) (Twice w) x y =
    let some = y.0 v x.worker in let none = x.holds in absurd (omega arith)
one r tokens (Missing v) (NotDrained w) x y =
    let some = y.0 v x.worker in let none = x.holds in absurd (omega arith)
one r tokens (Twice v) (Missing w) x y =
    let some = x.0 w y.worker in let none = y.holds in absurd (omega arith)
one r tokens (Twice v) (Twice w) x y = ap Twice (least_same r.workers _ v w x.1 y.1)
one r tokens (Twice v) (NotDrained w) x y =
    let some = y.0 v x.1.worker in let two = x.1.holds in absurd (omega arith)
one r tokens (NotDrained v) (Missing w) x y =
    let some = x.0 w y.worker in let none = y.holds in absurd (omega arith)
one r tokens (NotDrained v) (Twice w) x y =
    let some = x.0 w y.1.worker in let two = y.1.holds in absurd (omega arith)
one r tokens (NotDrained v) (NotDrained w) x y = ap NotDrained (least_same r.workers _ v w x.1 y.1)

pub none : (r : ReceiverView) (tokens : List SenderView) (why : CloseReason)
    → IsComplete r tokens → IsCloseFault why r tokens → ⊥
none r tokens (Missing w) c x = let one = c.once w x.worker in let no = x.holds in omega arith
none r tokens (Twice w) c x = let one = c.once w x.1.worker in let two = x.1.holds in omega arith
none r tokens (NotDrained w) c x = true≢false (sym (c.drained w x.1.worker) ∙ x.1.holds)

pub more : (s : SenderView) (e : Event) → EmitsLawfully (sends s e)
    ↔ (EmitsLawfully s × IsLawfulAfter s s.sent e × (length s.sent < most_events))
more s e = (to, from)
  where
    to : EmitsLawfully (sends s e)
        → EmitsLawfully s × IsLawfulAfter s s.sent e × (length s.sent < most_events)
    to h = let few = h.few in let k = length-append s.sent (e ∷ []) in (
      record {
        each = λ before d after whole.
            let one = h.each before d (after ++ e ∷ []) (ap (λ (l : List Event). l ++ e ∷ []) whole ∙ append_assoc before (d ∷ after) (e ∷ [])) in
            record { lawful = one.lawful; known = one.known };
        few = omega arith;
      },
      (let last = h.each s.sent e [] refl in record { lawful = last.lawful; known = last.known }),
      omega arith,
    )

    from : EmitsLawfully s × IsLawfulAfter s s.sent e × (length s.sent < most_events)
        → EmitsLawfully (sends s e)
    from h = let room = h.2 in let k = length-append s.sent (e ∷ []) in record {
      each = λ before d after whole. (let one : IsLawfulAfter s before d = ⊎_elim
          (λ (t : (before ≡ s.sent) × (d ≡ e)). subst (λ (y : List Event × Event). IsLawfulAfter s y.0 y.1) (λ i. (sym t.0 i, sym t.1 i)) h.1)
          (λ (t : (rest : List Event) × (s.sent ≡ before ++ d ∷ rest)). h.0.each before d t.0 t.1)
          (cut_last s.sent e before d after whole) in record { lawful = one.lawful; known = one.known });
      few = omega arith;
    }

-- where an event registers nothing, its key is known as that of a descriptor
known_plain : (s : SenderView) (e : Event) (dynamic : Bool) → dynamic ≡ false
    → (if dynamic then is_next (record_of_sender s) (entry_by s.worker e) else knows s e.key) ≡ knows s e.key
known_plain s e dynamic quiet = ap (λ (b : Bool). if b then is_next (record_of_sender s) (entry_by s.worker e) else knows s e.key) quiet

plain_lawful : (lawful dynamic : Bool) → dynamic ≡ false → lawful ≡ true → (lawful && not dynamic) ≡ true
plain_lawful lawful dynamic quiet is = ap (λ (b : Bool). lawful && not b) quiet ∙ ap (λ (b : Bool). b && true) is

pub sent : (s : SenderView) (e : Event) → is_dynamic e ≡ false
    → (refusal_of s e ≡ None) ↔ (IsLawfulAfter s s.sent e × (length s.sent < most_events))
sent s e quiet = (to, from)
  where
    to : refusal_of s e ≡ None → IsLawfulAfter s s.sent e × (length s.sent < most_events)
    to h = let parts = not_refused s e h in (
      record {
        lawful = (and_parts (is_lawful e.kind e.payload) (not (is_dynamic e)) parts.1).0;
        known = known_plain s e (is_dynamic e) quiet ∙ parts.0;
      },
      parts.2,
    )

    by_tests : (k p l : Bool) → k ≡ true → p ≡ true → l ≡ true
        → (if not k then Some (unsent.UnknownNode e) else if not p then Some (unsent.Unlawful e) else if not l then Some (unsent.Limit e) else None) ≡ None
    by_tests true true true a b c = refl
    by_tests true true false a b c = absurd cc
    by_tests true false l a b c = absurd cc
    by_tests false p l a b c = absurd cc

    from : IsLawfulAfter s s.sent e × (length s.sent < most_events) → refusal_of s e ≡ None
    from h = by_tests (knows s e.key) (is_plain e) (nat_lt (length s.sent) most_events)
        (sym (known_plain s e (is_dynamic e) quiet) ∙ h.0.known)
        (plain_lawful (is_lawful e.kind e.payload) (is_dynamic e) quiet h.0.lawful)
        (lt-ltb (length s.sent) most_events h.1)

pub scripts : (r : ReceiverView) → NothingWaited r ↔ ((w : ℕ) → (sent : List Event) × (ended : Bool)
    × (items_of w r.taken ≡ script w sent ended)
    × (¬ IsWorkerOf r.workers w → (sent ≡ []) × (ended ≡ false)))
scripts r = (
  λ h w. (
    h.core.sent w,
    h.core.ended w,
    ap (items_of w) (sym (ap (λ l. h.core.taken ++ l) h.waiting ∙ append-nil h.core.taken ∙ h.taken)) ∙ h.is_core.kept w,
    h.is_core.others w,
  ),
  λ h. record {
    core = record { sent = λ w. (h w).0; ended = λ w. (h w).1; taken = r.taken; waiting = [] };
    is_core = record {
      kept = λ w. ap (items_of w) (append-nil r.taken) ∙ (h w).2;
      others = λ w. (h w).3;
    };
    taken = refl;
    waiting = refl;
  },
)
