use Rattle.std.proofs.Common.{sym, ◌∙◌, arith}
use Rattle.tk_query_conditions.proofs.ReaderLemmas.{ended_part}
use Rattle.tk_query_conditions.proofs.readers.feed_tag.Goals as goal

pub into_text-requires : goal.into_text-requires
into_text-requires c =
    ended_part c.args.partial 44 c.args.byte (omega arith) (sym c.ends.ensures ∙ c.if-ends.true)
    c.requires.text
