use Rattle.std.proofs.Common.{◌≡◌, ℕ, ◌<◌, Some}
use Rattle.tk_ids.specs.declared.descriptors.Descriptor.{Descriptor}
use Rattle.tk_record.specs.Entries.{desc}
use Rattle.tk_query_locks.specs.Conflicts.{Writes}
use Rattle.tk_query_locks.proofs.conflicts.is_written.Given as goal

abbrev pub invariant-loop-key : goal.invariant-loop-key
invariant-loop-key l =
    (key : ℕ) (d : Descriptor) → key < l.key → desc l.«record» key ≡ Some d → ¬ Writes l.name d
