-- What the record of a run has of each worker.
use Rattle.std.proofs.Common.{◌≡◌, ℕ, List, ◌++◌, Result, Ok, Err, IfOk, sym, ap, ◌∙◌}
use Rattle.tk_ids.specs.declared.descriptors.Descriptor.{Descriptor}
use Rattle.tk_events.specs.declared.events.Event.{Event}
use Rattle.tk_record.specs.Recorded.{Recorded}
use Rattle.tk_record.specs.Mixing.{IsWorkerOf, of_worker}
use Rattle.tk_queue_session.specs.Closing.{sent_in}
use Rattle.tk_engine_execute.specs.Results.{RunResults, IsTallied}
use Rattle.tk_engine_execute.specs.declared.run_faults.RunFault.{RunFault}
use Rattle.tk_claims.specs.Parts.{EachHasItsList}
use Rattle.tk_claims.specs.Run.{IsRun}
use Rattle.testkit_headline.specs.Recordings.{HoldsWhatWasSent}

-- what the record has of a worker is what the worker sent
pub held :
    (law : EachHasItsList) (before after : List Event) (n : ℕ) (sent : ℕ → List Event)
    (r : Recorded) → HoldsWhatWasSent before after n sent r
    → (w : ℕ) → IsWorkerOf n w → of_worker w r.entries ≡ sent w
held law before after n sent r holds w own =
    ap (of_worker w) holds.whole ∙ (law before after n holds.mid sent holds.mix).1 w own

pub one_list :
    (law : EachHasItsList) (before after : List Event) (n : ℕ) (a b : ℕ → List Event)
    (r : Recorded) → HoldsWhatWasSent before after n a r → HoldsWhatWasSent before after n b r
    → (w : ℕ) → IsWorkerOf n w → a w ≡ b w
one_list law before after n a b r first second w own =
    sym (held law before after n a r first w own) ∙ held law before after n b r second w own

-- what `execute` answers is what the senders sent
pub sent_of_run :
    (law : EachHasItsList) (may : ℕ → ℕ → ℕ → List Event → Type 0) (table : List Descriptor)
    (before after : List Event) (units workers : ℕ) (answer : Result RunResults RunFault)
    → IfOk answer (λ r. IsRun may table before after units workers r.recorded)
    → IfOk answer (λ r. IsTallied workers r.closed r.recorded.entries)
    → IfOk answer (λ r. HoldsWhatWasSent before after workers (sent_in r.closed) r.recorded)
sent_of_run law may table before after units workers (Ok r) run tally =
    let mix = run.shared.mix in
    let lists = law before after workers run.mid run.shared.lists mix in record {
      mid = run.mid;
      whole = run.whole;
      mix = record {
        workers = mix.workers;
        each = λ w own.
            mix.each w own ∙ sym (lists.1 w own) ∙ sym (ap (of_worker w) run.whole)
            ∙ tally.sent w own;
      };
    }
sent_of_run law may table before after units workers (Err fault) run tally = run
