use Rattle.std.proofs.Common.{◌≡◌, take}
use Rattle.tk_ids.specs.IdText.{escaped}
use Rattle.tk_ids.proofs.writing.is_plain.Given as goal

abbrev pub invariant-loop-byte : goal.invariant-loop-byte
invariant-loop-byte l = escaped (take l.byte-index l.byte-items) ≡ take l.byte-index l.byte-items
