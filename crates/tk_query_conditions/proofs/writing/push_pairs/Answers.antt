use Rattle.std.proofs.Common.{◌++◌, ◌∷◌, [], string_bytes, ap, ◌∙◌}
use Rattle.tk_query_conditions.specs.Cond.{escaped}
use Rattle.tk_query_conditions.proofs.WritingLemmas.{pair_written}
use Rattle.tk_query_conditions.proofs.writing.push_pairs.Goals as goal

pub loop-at-preserved : goal.loop-at-preserved
loop-at-preserved c =
    let next = string_bytes c.push_separator.new.out in
    pair_written c.args.pairs.now c.loop-at.at c.index-pairs-at.result (string_bytes c.args.out.now ++ 40 ∷ []) (string_bytes c.loop-at.out) next (string_bytes c.push_escaped.new.out) (string_bytes c.push_str-in-loop-at.new.self) (string_bytes c.push_escaped-in-loop-at.new.out)
    c.loop-at-test.true c.index-pairs-at.is c.loop-at.invariant c.in_ok-push_separator.ensures
    (c.in_ok-push_escaped.ensures ∙ ap (λ t. next ++ escaped t) c.as_str.ensures) c.in_ok-push_str-2.ensures.bytes
    (c.in_ok-push_escaped-2.ensures ∙ ap (λ t. string_bytes c.push_str-in-loop-at.new.self ++ escaped t) c.as_str-in-loop-at.ensures)
