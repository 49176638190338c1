-- Starts of the root, which worker 0 may emit before the units.
use Rattle.std.proofs.Common.{ℕ, ◌<◌, ◌≤◌, refl, replicate}
use Rattle.std.proofs.lemmas.List.{length-replicate}
use Rattle.std.proofs.lemmas.List.Elements.{All-replicate}
use Rattle.tk_events.specs.declared.events.Event.{Event}
use Rattle.tk_events.specs.declared.kinds.Kind.TheVariants.{Started}
use Rattle.tk_events.specs.declared.payloads.Payload.TheVariants.{Nothing}
use Rattle.tk_engine_execute.specs.Engines.{IsStaticEvent, AreOfWorkerZero}

abbrev pub root_start : Event
root_start = record { kind = Started; key = 0; stamp = 0; payload = Nothing }

pub starts_are_of_worker_zero : (n count : ℕ) → 0 < n → count ≤ 1048576 → AreOfWorkerZero n (replicate count root_start)
starts_are_of_worker_zero n count rooted few = record {
  each = All-replicate (IsStaticEvent n) count root_start (rooted, refl);
  few = rw (length-replicate count root_start) few;
}
