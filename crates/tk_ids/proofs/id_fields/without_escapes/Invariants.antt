use Rattle.tk_ids.proofs.PlainTextLemmas.{IsWritten}
use Rattle.tk_ids.proofs.id_fields.without_escapes.Given as goal

abbrev pub invariant-loop-byte : goal.invariant-loop-byte
invariant-loop-byte l = IsWritten l.byte-items l.byte-index l.escape l.plain.items
