use Rattle.std.proofs.Common.{◌≡◌, ◌+◌, ◌≤◌, cond, eqb, get_or, sym, ap, ◌∙◌, arith}
use Rattle.std.proofs.lemmas.Bool.{ne_eqb}
use Rattle.tk_ids.proofs.SplitLemmas.{measured_more, measured_end}
use Rattle.tk_ids.proofs.segment_lists.part_lengths.Goals as goal
use Rattle.tk_ids.proofs.segment_lists.part_lengths.Goals.{then-text-escaped-eq37, else-text-escaped-eq37}

pub bytes-preserved : goal.bytes-preserved
bytes-preserved c =
    let byte = get_or c.args.text.now c.bytes.escaped 0 in
    let step = c.if-text-escaped-eq37.escaped in
    let taken : (step ≡ 1 + cond (eqb byte 37) 2 0) × (step ≤ 3) × (1 ≤ step) = elim c.if-text-escaped-eq37.branch [
      | then-text-escaped-eq37 w ↦ (w.escaped-is ∙ sym (ap (λ b. 1 + cond (eqb b 37) 2 0) w.if-text-escaped-eq37.true), omega (arith, w.escaped-is), omega (arith, w.escaped-is))
      | else-text-escaped-eq37 w ↦ (w.escaped-is ∙ sym (ap (λ t. 1 + cond t 2 0) (ne_eqb byte 37 w.if-text-escaped-eq37.false)), omega (arith, w.escaped-is), omega (arith, w.escaped-is))
    ] in
    measured_more c.args.text.now c.args.stop c.bytes.escaped c.bytes.plain step c.requires c.bytes.invariant c.bytes-test.true c.if-text-escaped.true taken.0 taken.1 taken.2

pub returns-else-text-escaped : goal.returns-else-text-escaped
returns-else-text-escaped c =
    measured_end c.args.text.now c.args.stop c.bytes.escaped c.bytes.plain c.requires c.bytes.invariant (λ _. c.if-text-escaped.false)
