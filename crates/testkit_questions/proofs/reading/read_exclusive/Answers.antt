use Rattle.std.proofs.Common.{rules, ◌<◌, ◌≤◌, arith, length, map, string_bytes}
use Rattle.std.proofs.lemmas.List.{length-map}
use Rattle.testkit_questions.proofs.UniqueReading.{as_many_texts}
use Rattle.testkit_questions.proofs.reading.read_exclusive.Goals as goal

pub holders-writers-requires-clause-some : goal.holders-writers-requires-clause-some
holders-writers-requires-clause-some c =
    let words = c.args.words.now in
    let many = as_many_texts (map string_bytes words) c.in-Ok.conditions.items c.in-Ok.ensures.ok in
    let same = length-map words string_bytes in
    let some : 0 < length words = search rules in
    omega arith

pub holders-writers-requires-clause-few : goal.holders-writers-requires-clause-few
holders-writers-requires-clause-few c =
    let words = c.args.words.now in
    let many = as_many_texts (map string_bytes words) c.in-Ok.conditions.items c.in-Ok.ensures.ok in
    let same = length-map words string_bytes in
    let few : length words ≤ 2 = search rules in
    omega arith
