-- Records of a failed run of two workers, with numbers: which keep what was sent, and which don't.
use Rattle.std.specs.Prelude.{ℕ, Bool, true, false, List, [], ◌∷◌, ◌++◌, None, Some}
use Rattle.atomic_table.specs.Seated.{TableId}
use Rattle.tk_events.specs.declared.kinds.Kind.TheVariants.{Started}
use Rattle.tk_events.specs.declared.payloads.Payload.TheVariants.{Nothing}
use Rattle.tk_events.specs.declared.events.Event.{Event}
use Rattle.tk_events.specs.declared.events.Entry.{Entry}
use Rattle.tk_queue_session.specs.Closing.{ClosedView}
use Rattle.tk_engine_execute.specs.declared.engines.UnitFault.TheVariants.{Own}
use Rattle.tk_engine_execute.specs.declared.run_faults.RunFault.{RunFault}
use Rattle.tk_engine_execute.specs.declared.run_faults.RunFault.TheVariants.{Engine, Memory}
use Rattle.tk_engine_execute.specs.FailedRuns.{KeepsWhatWasSent}

-- the start of descriptor 0 at this time, and that of this worker
abbrev pub start_at : ℕ → Event
start_at stamp = record { kind = Started; key = 0; stamp = stamp; payload = Nothing }

abbrev pub entry_at : ℕ → ℕ → Entry
entry_at w stamp = record { worker = w; event = start_at stamp }

-- what closing the session returned in which each of two workers sent three starts
abbrev pub six_sent : TableId → ClosedView
six_sent session = record {
  session = session;
  lists =
      (1, start_at 1 ∷ start_at 2 ∷ start_at 3 ∷ [])
      ∷ (2, start_at 4 ∷ start_at 5 ∷ start_at 6 ∷ []) ∷ [];
  emitted = 0 ∷ 3 ∷ 3 ∷ [];
}

-- five of the six starts, interleaved
abbrev pub five_starts : List Entry
five_starts = entry_at 1 1 ∷ entry_at 2 4 ∷ entry_at 2 5 ∷ entry_at 1 2 ∷ entry_at 1 3 ∷ []

-- The run with this fault, of which one start came before the units, keeps what was sent by these
-- entries, which are complete or not.
abbrev pub KeepsSix : TableId → RunFault → Bool → List Entry → Type 0
KeepsSix session fault is_complete entries =
    KeepsWhatWasSent (start_at 0 ∷ []) 2
    (record {
      fault = fault;
      recorded = None;
      closed = Some (six_sent session);
      is_complete = is_complete;
    })
    (record { table = []; entries = entries })

pub record KeptWitnesses (session : TableId) : Type 0 where
  -- all that was sent is complete; and where the last start is lost, the record isn't complete
  pub six : KeepsSix session Memory true (entry_at 0 0 ∷ five_starts ++ entry_at 2 6 ∷ [])
  pub five : KeepsSix session Memory false (entry_at 0 0 ∷ five_starts)
  pub lost_start : ¬ KeepsSix session Memory true (entry_at 0 0 ∷ five_starts)
  -- no start is invented, none before the units is lost, and none comes after the units where one
  -- failed
  pub invented_start :
      ¬ KeepsSix session Memory false
      (entry_at 0 0 ∷ five_starts ++ entry_at 2 6 ∷ entry_at 2 7 ∷ [])
  pub lost_before : ¬ KeepsSix session Memory false five_starts
  pub start_after_failure :
      ¬ KeepsSix session (Engine 0 (Own 1)) false (entry_at 0 0 ∷ five_starts ++ entry_at 0 9 ∷ [])
