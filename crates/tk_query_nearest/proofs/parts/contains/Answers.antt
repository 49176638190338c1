use Rattle.std.proofs.lemmas.Str.Pattern.{contains_text}
use Rattle.tk_query.proofs.HoldsLemmas.{within_is}
use Rattle.tk_query_nearest.proofs.parts.contains.Goals as goal

pub returns : goal.returns
returns c = within_is c.args.part.now c.args.text.now c.contains.result (contains_text c.contains.result c.args.part.now c.args.text.now c.contains.ensures.cases)
