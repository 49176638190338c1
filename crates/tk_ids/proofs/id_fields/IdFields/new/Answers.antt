use Rattle.std.proofs.Common.{◌∙◌, sym}
use Rattle.tk_ids.proofs.PlainTextLemmas.{same_plain_text}
use Rattle.tk_ids.proofs.id_fields.IdFields.new.Goals as goal

pub returns-then-not-contains-clause-kept : goal.returns-then-not-contains-clause-kept
returns-then-not-contains-clause-kept c =
    record { text = c.requires; plain = same_plain_text c.args.text c.as_bytes.result.now c.args.segment_count c.requires (c.as_bytes.ensures.value ∙ c.as_str.ensures) (sym c.contains.ensures.value ∙ c.if-not-contains.true) }
