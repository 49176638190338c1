use Rattle.std.proofs.Common.{sym, ◌∙◌, arith}
use Rattle.std.proofs.lemmas.Bool.{eqb-true, eq-eqb, ltb-true, false≢true}
use Rattle.tk_ids.proofs.IdSegmentLemmas.{below_exact, goes_on}
use Rattle.tk_ids.proofs.ids.UniqueId.is_below.Goals as goal
use Rattle.tk_ids.proofs.ids.UniqueId.is_below.Goals.{then-inner-outer, else-inner-outer}

pub returns-then-inner-outer-eq47 : goal.returns-then-inner-outer-eq47
returns-then-inner-outer-eq47 c =
    elim c.if-inner-outer.branch [
      | then-inner-outer w ↦ below_exact c.args.above.now c.args.self.now c.as_bytes-outer.result.now c.as_bytes-inner.result.now c.starts_with.result c.as_bytes-outer.ensures.id c.as_bytes-inner.ensures.id c.as_bytes-outer.ensures.text c.as_bytes-inner.ensures.text w.if-inner-outer.true (eqb-true _ 47 (sym w.value-is ∙ c.if-inner-outer-eq47.true)) c.starts_with.ensures.value
      | else-inner-outer w ↦ let less = ltb-true _ _ (sym w.value-is ∙ c.if-inner-outer-eq47.true) in absurd (omega arith)
    ]

pub returns-else-inner-outer-eq47 : goal.returns-else-inner-outer-eq47
returns-else-inner-outer-eq47 c = (
  λ yes. absurd (false≢true (sym c.if-inner-outer-eq47.false ∙ yes)),
  λ below.
      let on = goes_on c.args.above.now c.args.self.now c.as_bytes-outer.result.now c.as_bytes-inner.result.now c.as_bytes-outer.ensures.id c.as_bytes-outer.ensures.text c.as_bytes-inner.ensures.text below in
      elim c.if-inner-outer.branch [
        | then-inner-outer w ↦ w.value-is ∙ eq-eqb _ 47 on.slash
        | else-inner-outer w ↦ let longer = on.longer in absurd (omega arith)
      ],
)
