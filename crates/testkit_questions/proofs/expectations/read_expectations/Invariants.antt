use Rattle.std.proofs.Common.{take, map, string_bytes}
use Rattle.tk_record.specs.Statistics.{nothing_expected}
use Rattle.testkit_questions.specs.Questions.{Expecting}
use Rattle.testkit_questions.proofs.expectations.read_expectations.Given as goal

abbrev pub invariant-loop-at : goal.invariant-loop-at
invariant-loop-at l = Expecting nothing_expected (take l.at (map string_bytes l.words)) l.expected
