use Rattle.std.proofs.Common.{◌≡◌, ◌∙◌, Some, ap, sym}
use Rattle.std.specs.Prelude.{map, string_bytes}
use Rattle.std.specs.Vec.Iter.{into_iter_items}
use Rattle.testkit_command_line.specs.Arguments.{given_words}
use Rattle.testkit_command_line.proofs.OwningIterators.{drained}
use Rattle.testkit_command_line.proofs.arguments.collect_words.Goals as goal

pub returns-in_ok-collect-in-Ok-clause-words : goal.returns-in_ok-collect-in-Ok-clause-words
returns-in_ok-collect-in-Ok-clause-words c =
    let given = c.in-Ok.given in
    let ran = c.in_ok-collect-in-Ok.ensures.ran in
    let all : c.in_ok-collect-in-Ok.field-0.items ≡ into_iter_items given =
    ran.2.0 ∙ drained given ran.0 ran.1 in
    ap given_words c.in-Ok.is ∙ ap (λ items. Some (map string_bytes items)) (sym all)
