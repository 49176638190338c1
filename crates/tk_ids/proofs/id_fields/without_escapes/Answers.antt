use Rattle.std.proofs.Common.{sym, ◌∙◌, subst}
use Rattle.std.specs.Str.{IsUtf8}
use Rattle.tk_ids.proofs.PlainTextLemmas.{written_end, utf8_of_id}
use Rattle.tk_ids.proofs.id_fields.without_escapes.Goals as goal

pub from_utf8-requires : goal.from_utf8-requires
from_utf8-requires c =
    subst IsUtf8 (sym (written_end c.args.text.now c.as_bytes-byte-items.result.now c.loop-byte.byte-index c.loop-byte.escape c.loop-byte.plain.items c.as_bytes-byte-items.ensures.value c.requires c.loop-byte-test.false c.loop-byte.invariant)) (utf8_of_id c.args.text.now c.requires)

pub returns : goal.returns
returns c =
    c.from_utf8.ensures ∙ written_end c.args.text.now c.as_bytes-byte-items.result.now c.loop-byte.byte-index c.loop-byte.escape c.loop-byte.plain.items c.as_bytes-byte-items.ensures.value c.requires c.loop-byte-test.false c.loop-byte.invariant
