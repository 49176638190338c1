-- One turn more.
use Rattle.std.proofs.Common.{◌≡◌, ◌<◌, ◌+◌, ℕ, List, [], ◌∷◌, ◌++◌, length, take, get_or, replicate, Option, Some, None, Result, Ok, Err, refl, sym, ap, subst, ◌∙◌}
use Rattle.std.proofs.lemmas.Option.{same_Some, none-some}
use Rattle.std.proofs.lemmas.List.{take_more}
use Rattle.tk_events.specs.declared.events.Event.{Event}
use Rattle.tk_queue_replay.specs.declared.turns.Turn.{Turn}
use Rattle.std.proofs.lemmas.Option.{slice_get-get_or}
use Rattle.std.proofs.lemmas.List.{length-replicate}
use Rattle.tk_ids.specs.declared.descriptors.Descriptor.{Descriptor}
use Rattle.tk_events.specs.declared.events.Entry.{Entry}
use Rattle.tk_record.specs.declared.records.AppendFault.{AppendFault}
use Rattle.tk_record.specs.Record.{fault_of}
use Rattle.tk_queue_session.specs.declared.items.Item.{Item}
use Rattle.tk_queue_session.specs.declared.items.Item.TheVariants.{Entry as Emitted, End}
use Rattle.tk_queue_replay.specs.declared.replays.ReplayFault.{ReplayFault}
use Rattle.tk_queue_replay.specs.declared.replays.ReplayFault.TheVariants as faults
use Rattle.tk_record.specs.Recorded.{Recorded}
use Rattle.tk_queue_session.specs.CoreState.{CoreState, fresh}
use Rattle.tk_queue_replay.specs.Replay.{Moment, Stop, Faulty, Refuses, turn_step, take_item}
use Rattle.tk_queue_replay.specs.Replay.{append_to, after, plays, start, replay_input, StopsAt}
use Rattle.tk_queue_replay.specs.Replay.{IsReplayed}
use Rattle.tk_queue_replay.specs.steps.Replay.{Suits, IsStop}

pub plays_more : (scripts : List (List Event)) (turns : List Turn) (t : Turn) (m n o : Moment) → plays scripts turns m ≡ Some n → turn_step scripts n t ≡ Ok o → plays scripts (turns ++ t ∷ []) m ≡ Some o
plays_more scripts [] t m n o e step = ap (λ x. after (turn_step scripts x t) (plays scripts [])) (same_Some m n e) ∙ ap (λ r. after r (plays scripts [])) step
plays_more scripts (x ∷ turns) t m n o e step =
    elim (turn_step scripts m x) as (λ r. after r (plays scripts turns) ≡ Some n → after r (plays scripts (turns ++ t ∷ [])) ≡ Some o)
    [ Ok y ↦ λ h. plays_more scripts turns t y n o h step | Err stop ↦ λ h. absurd (none-some n h) ] e

pub one_turn : (scripts : List (List Event)) (turns : List Turn) (i : ℕ) (d : Turn) (m n o : Moment) → i < length turns → plays scripts (take i turns) m ≡ Some n → turn_step scripts n (get_or turns i d) ≡ Ok o → plays scripts (take (i + 1) turns) m ≡ Some o
one_turn scripts turns i d m n o lt e step = ap (λ ts. plays scripts ts m) (take_more turns i d lt) ∙ plays_more scripts (take i turns) (get_or turns i d) m n o e step

pub same_Ok : (m n : Moment) → (let r : Result Moment Stop = Ok m in r) ≡ Ok n → m ≡ n
same_Ok m n e = cc

not_Err : (s : Stop) (n : Moment) → (let r : Result Moment Stop = Err s in r) ≡ Ok n → ⊥
not_Err s n e = absurd cc

abbrev Keeps : Moment → Moment → Type 0
Keeps m n = (n.core.workers ≡ m.core.workers) × (n.emitted ≡ m.emitted)

append_keeps : (m n : Moment) (xs : List Item) (e : Entry) (o : Option AppendFault) → append_to m xs e o ≡ Ok n → Keeps m n
append_keeps m n xs e None h = subst (Keeps m) (same_Ok _ n h) (refl, refl)
append_keeps m n xs e (Some f) h = absurd (not_Err (Refuses f) n h)

take_keeps : (m n : Moment) (xs : List Item) → take_item m xs ≡ Ok n → Keeps m n
take_keeps m n [] h = subst (Keeps m) (same_Ok m n h) (refl, refl)
take_keeps m n (End w ∷ xs) h = subst (Keeps m) (same_Ok _ n h) (refl, refl)
take_keeps m n (Emitted e ∷ xs) h = append_keeps m n xs e (fault_of m.taken e) h

pub suits_taken : (scripts : List (List Event)) (m n : Moment) → take_item m m.core.waiting ≡ Ok n → Suits m scripts → Suits n scripts
suits_taken scripts m n h s = let k = take_keeps m n m.core.waiting h in (k.0 ∙ s.0, ap length k.1 ∙ s.1)

-- where a turn stops
pub stopped : (table : List Descriptor) (scripts : List (List Event)) (turns : List Turn) (i : ℕ) (d : Turn) (m : Moment) (fault : ReplayFault) → i < length turns → plays scripts (take i turns) (start table (length scripts)) ≡ Some m → IsStop i (turn_step scripts m (get_or turns i d)) fault → IsReplayed table scripts turns (Err fault)
stopped table scripts turns i d m (faults.AfterEnd k) lt before stop = subst (λ (j : ℕ). StopsAt (replay_input table scripts turns) j Faulty) (sym stop.0) (record { moment = m; turn = get_or turns i d; before = before; at = slice_get-get_or turns i d lt; stops = stop.1 })
stopped table scripts turns i d m (faults.Append k f) lt before stop = subst (λ (j : ℕ). StopsAt (replay_input table scripts turns) j (Refuses f)) (sym stop.0) (record { moment = m; turn = get_or turns i d; before = before; at = slice_get-get_or turns i d lt; stops = stop.1 })
stopped table scripts turns i d m faults.Memory lt before stop = tt
stopped table scripts turns i d m faults.NoHeader lt before stop = absurd stop
stopped table scripts turns i d m (faults.BadLine n) lt before stop = absurd stop
stopped table scripts turns i d m faults.TooLarge lt before stop = absurd stop
stopped table scripts turns i d m faults.Device lt before stop = absurd stop

moment_is : (a b : CoreState) (c d : List ℕ) (e f : Recorded) → a ≡ b → c ≡ d → e ≡ f → (let m : Moment = record { core = a; emitted = c; taken = e } in m) ≡ record { core = b; emitted = d; taken = f }
moment_is a b c d e f p q r = rw (p, q, r) refl

recorded_is : (a b : List Descriptor) (c d : List Entry) → a ≡ b → c ≡ d → (let m : Recorded = record { table = a; entries = c } in m) ≡ record { table = b; entries = d }
recorded_is a b c d p q = rw (p, q) refl

abbrev started : CoreState → List ℕ → Recorded → Moment
started core counts taken = record { core = core; emitted = counts; taken = taken }

pub begins : (table : List Descriptor) (scripts : List (List Event)) (n : ℕ) (core : CoreState) (counts : List ℕ) (taken : Recorded) → n ≡ length scripts → core ≡ fresh n → counts ≡ replicate n 0 → taken.table ≡ table → taken.entries ≡ [] → Suits (started core counts taken) scripts × (Some (start table (length scripts)) ≡ Some (started core counts taken))
begins table scripts n core counts taken long is zero_ of_table none = (
  (ap (λ (l : CoreState). l.workers) is ∙ long, ap length zero_ ∙ length-replicate n 0 ∙ long),
  ap Some (sym (moment_is core (fresh (length scripts)) counts (replicate (length scripts) 0) taken (record { table = table; entries = [] }) (is ∙ ap fresh long) (zero_ ∙ ap (λ (k : ℕ). replicate k 0) long) (recorded_is taken.table table taken.entries [] of_table none))),
)
