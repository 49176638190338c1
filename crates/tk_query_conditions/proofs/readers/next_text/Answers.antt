use Rattle.std.proofs.Common.{[], Some, None, sym, ap, ◌∙◌}
use Rattle.tk_query_conditions.specs.declared.partial_texts.Escape.TheVariants.{Outside}
use Rattle.tk_query_conditions.specs.Cond.{NoPairs}
use Rattle.tk_query_conditions.specs.CondOf.{pairs_from}
use Rattle.tk_query_conditions.specs.steps.Reader.{groups_of}
use Rattle.tk_query_conditions.specs.steps.Reading.{InPairs, next_text}
use Rattle.tk_query_conditions.proofs.ReaderLemmas.{pairs_push}
use Rattle.tk_query_conditions.proofs.readers.next_text.Goals as goal

pub returns-in_ok-push-in-Some : goal.returns-in_ok-push-in-Some
returns-in_ok-push-in-Some c =
    let stack = groups_of c.args.stack.items in
    ap (λ k. Some (next_text stack (pairs_from NoPairs c.args.pairs) k c.args.text)) c.in-Some.is
    ∙ ap (λ ps. Some (InPairs stack ps None ([], Outside))) (sym (ap (pairs_from NoPairs) c.in_ok-push-in-Some.ensures.ok ∙ pairs_push NoPairs c.args.pairs c.in-Some.key c.args.text))
    ∙ ap (λ partial. Some (InPairs stack (pairs_from NoPairs c.push.new.self) None partial)) (sym c.new-in-Some.ensures)
