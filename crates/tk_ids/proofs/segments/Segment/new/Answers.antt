use Rattle.std.proofs.Common.{arith}
use Rattle.std.proofs.lemmas.Bool.Decides.{nat_tests}
use Rattle.tk_ids.proofs.segments.Segment.new.Goals as goal

pub of_texts-requires-clause-tag : goal.of_texts-requires-clause-tag
of_texts-requires-clause-tag c = (grind (arith, nat_tests), c.utf8.tag)

pub of_texts-requires-clause-value : goal.of_texts-requires-clause-value
of_texts-requires-clause-value c = (grind (arith, nat_tests), c.utf8.value)
