use Rattle.std.proofs.Common.{◌≤◌, ◌+◌, ◌*◌, eqb, length, arith}
use Rattle.tk_lanes.proofs.Positions.{counted_few}
use Rattle.tk_lanes.proofs.Tallies.{counted_within, tallied_more, tallied_one, tallied_all}
use Rattle.tk_lanes.proofs.flags.Flags.tally.Goals as goal

pub overflow_add-counts : goal.overflow_add-counts
overflow_add-counts c =
    let is = tallied_more c.args.self.now c.args.column.now c.loop-block.block c.loop-code.code c.loop-code.counts c.count_in_block.result c.requires c.loop-code-test.true c.count_in_block.ensures.value c.loop-code.invariant in
    let few = counted_within (λ x. eqb x c.loop-code.code) c.args.self.now c.args.column.now (64 * (c.loop-block.block + 1)) c.requires in
    record { fits = omega (arith, is, few, c.len.ensures.value, c.len.ensures.bound) }

pub loop-code-preserved : goal.loop-code-preserved
loop-code-preserved c =
    let is = tallied_more c.args.self.now c.args.column.now c.loop-block.block c.loop-code.code c.loop-code.counts c.count_in_block.result c.requires c.loop-code-test.true c.count_in_block.ensures.value c.loop-code.invariant in
    tallied_one c.args.self.now c.args.column.now c.loop-block.block c.loop-code.code c.loop-code.counts _ c.loop-code-test.true is c.loop-code.invariant

pub returns-clause-bound : goal.returns-clause-bound
returns-clause-bound c k lt =
    let few = counted_few (λ x. eqb x k) c.args.self.now c.args.column.now c.requires in
    let past : length c.args.self.now ≤ 64 * c.loop-block.block = omega (arith, c.len.ensures.value) in
    omega (arith, few, c.len.ensures.value, c.len.ensures.bound, tallied_all c.args.self.now c.args.column.now c.loop-block.block c.loop-block.counts c.requires past c.loop-block.invariant k lt)
