use Rattle.std.proofs.Common.{◌≡◌, ℕ, ◌<◌, None, get_or}
use Rattle.tk_query.specs.Pairing.{open_of, HasSlot}
use Rattle.tk_query.proofs.open_starts.OpenStarts.for_record.Given as goal

abbrev pub invariant-loop-key : goal.invariant-loop-key
invariant-loop-key l =
    ((i : ℕ) → i < l.key-index → HasSlot l.starts (get_or l.key-items i 0))
    × ((q : ℕ) → open_of l.starts q ≡ None)
