use Rattle.std.proofs.Common.{Some, arith}
use Rattle.std.proofs.lemmas.Str.Pattern.{split_parts, split_after}
use Rattle.std.specs.Fmt.{decimal}
use Rattle.tk_record.specs.Selections.{selection_name}
use Rattle.testkit_questions.proofs.WordLemmas.{name_lacks}
use Rattle.testkit_questions.proofs.expectations.read_expectation.Goals as goal

pub returns-in_default-read_number-clause-none : goal.returns-in_default-read_number-clause-none
returns-in_default-read_number-clause-none c selection n h =
    let after = split_after 61 c.args.word.now (selection_name selection) (decimal n) (Some (c.in-Some.name, c.in-Some.number)) c.in-Some.ensures.cases (omega arith) h.word_is (name_lacks selection) in
    let number = h.number in
    c.in_default-read_number.ensures n (omega arith) after.1

pub returns-clause-some : goal.returns-clause-some
returns-clause-some c =
    let parts = split_parts 61 c.args.word.now (Some (c.in-Some.name, c.in-Some.number)) c.in-Some.ensures.cases (omega arith) in
    let name = (c.read.ensures c.in-Some-read.selection).0 c.in-Some-read.is in
    let whole = parts.0 in
    let most = c.in-Some-read_number.ensures.0 in
    let number = c.in-Some-read_number.ensures.1 in
    record { number = omega arith; word_is = cc }
