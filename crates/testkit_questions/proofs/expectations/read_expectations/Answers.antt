use Rattle.std.proofs.Common.{rules, ℕ, List, Some, ◌<◌, length, map, string_bytes, subst, add-one}
use Rattle.tk_record.specs.Statistics.{nothing_expected}
use Rattle.testkit_questions.specs.Questions.{IsNextExpected}
use Rattle.testkit_questions.proofs.WordLemmas.{texts_more, expecting_more}
use Rattle.testkit_questions.proofs.expectations.read_expectations.Goals as goal

pub loop-at-preserved : goal.loop-at-preserved
loop-at-preserved c =
    let within : c.loop-at.at < length c.args.words.now = search rules in
    let more = texts_more string_bytes c.args.words.now c.loop-at.at c.index-words-at.result within c.index-words-at.is in
    let next = subst (λ (t : List ℕ). IsNextExpected c.loop-at.expected t (Some c.in-Some.next)) c.as_str.ensures.value c.in-Some.ensures in
    rw add-one (expecting_more (map string_bytes c.args.words.now) c.loop-at.at (string_bytes c.index-words-at.result) nothing_expected c.loop-at.expected c.in-Some.next more c.loop-at.invariant next)
