use Rattle.std.proofs.Common.{ℕ, ◌+◌, eqb, sym, ap₂, ◌∙◌, arith}
use Rattle.tk_lanes.proofs.Positions.{counted_more}
use Rattle.tk_lanes.proofs.flags.Flags.count_byte.Goals as goal

pub loop-block-preserved : goal.loop-block-preserved
loop-block-preserved c =
    let more = counted_more (λ (x : ℕ). eqb x c.args.value) c.args.self.now c.args.column.now c.loop-block.block c.requires in
    (ap₂ (λ (a b : ℕ). a + b) c.loop-block.invariant.0 c.count_in_block-total.ensures.value ∙ sym more, omega (arith, c.count_in_block-total.ensures.bound, c.loop-block.invariant.1))
