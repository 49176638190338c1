use Rattle.std.proofs.Common.{sym}
use Rattle.tk_query_conditions.proofs.ReaderLemmas.{begins_is}
use Rattle.tk_query_conditions.proofs.words.is_prefix_of.Goals as goal

pub returns : goal.returns
returns c = rw (c.starts_with.ensures.value, c.as_bytes.ensures.value) (sym (begins_is c.args.word.now c.args.name.now))
