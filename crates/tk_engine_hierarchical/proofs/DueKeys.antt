-- Where each static key has its turn, no static key that is due is left out.
use Rattle.std.proofs.Common.{◌≡◌, ℕ, ◌<◌, inl, inr, List, [], ◌∷◌, length, Some, slice_get}
use Rattle.std.proofs.Common.{refl}
use Rattle.tk_ids.specs.IdText.{SegmentView}
use Rattle.tk_ids.specs.Table.{AreDifferent, ids_of}
use Rattle.tk_events.specs.declared.kinds.Kind.TheVariants.{Finished, Skipped, Started}
use Rattle.tk_record.specs.Record.{IsRecord}
use Rattle.tk_record.specs.Recorded.{Recorded}
use Rattle.tk_query_lifecycle.specs.KeepsLifecycle.{KeepsLifecycle}
use Rattle.tk_query_lifecycle.specs.NeverRan.{EachDueKeyRuns}
use Rattle.tk_run_laws.proofs.Turns.{IsTurned, ran_by_steps, turned_keys_run}
use Rattle.tk_engine_hierarchical.specs.Laws.{HasTurn, HaveTurns}

turned : (r : Recorded) (key : ℕ) → HasTurn r key → IsTurned r key
turned r key (inl steps) = inl (ran_by_steps r key (Started ∷ Finished ∷ []) steps refl)
turned r key (inr (inl steps)) = inl (ran_by_steps r key (Skipped ∷ []) steps refl)
turned r key (inr (inr u)) = inr
    (record {
      above = u.above;
      skipped = u.skipped;
      id = u.id;
      its = u.its;
      own = u.below.0;
      own_is = u.below.1;
      below = u.below.2;
    })

pub due_keys_run : (r : Recorded) → IsRecord r → KeepsLifecycle r → AreDifferent r.table
    → ((key : ℕ) (id : List SegmentView) → slice_get (ids_of r.table) key ≡ Some id → 0 < length id)
    → HaveTurns r → EachDueKeyRuns r
due_keys_run r is keeps different some turns = turned_keys_run r is keeps different some
    (λ key within. turned r key (turns key within))
