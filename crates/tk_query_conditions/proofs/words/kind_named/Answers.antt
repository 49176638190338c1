use Rattle.std.proofs.Common.{sym, ap, ◌∙◌, arith}
use Rattle.std.specs.Prelude.{bytes_eq}
use Rattle.tk_query_conditions.proofs.ReaderLemmas.{look_next}
use Rattle.tk_query_conditions.proofs.words.kind_named.Goals as goal

pub loop-kind-preserved : goal.loop-kind-preserved
loop-kind-preserved c =
    c.loop-kind.invariant ∙ look_next c.args.word.now c.loop-kind.kind-index _ (omega arith) (ap (bytes_eq c.args.word.now) (sym c.word.ensures) ∙ sym c.is_name.ensures ∙ c.if-is_name.false)
