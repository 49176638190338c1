use Rattle.std.proofs.Common.{◌≡◌, ◌++◌, take, string_bytes}
use Rattle.std.specs.List.{flat_map}
use Rattle.testkit_questions.specs.Answers.{mismatch_line}
use Rattle.testkit_questions.proofs.answers.add_mismatches.Given as goal

abbrev pub invariant-loop-mismatch : goal.invariant-loop-mismatch
invariant-loop-mismatch l = string_bytes l.text ≡ string_bytes l.fn.text ++ flat_map mismatch_line (take l.mismatch-index l.mismatches)
