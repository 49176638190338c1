use Rattle.std.proofs.Common.{◌≤◌, ◌+◌, length, length-take, arith}
use Rattle.std.proofs.lemmas.Grind.{common_steps}
use Rattle.std.proofs.KnownBytes.{Consumes-trans}
use Rattle.std.proofs.lemmas.Result.{err_from_is_err_and}
use Rattle.tk_streams.proofs.Known.{ConsumesUpTo-more}
use Rattle.tk_streams.proofs.transfers.load.Goals as goal

pub returns-then-count-limit-clause-stops : goal.returns-then-count-limit-clause-stops
returns-then-count-limit-clause-stops g c =
    let few : length c.loop-count.bytes.items ≤ c.args.limit = grind (arith, common_steps) in
    let chunk : c.in-Ok.count ≤ 65536 = grind (arith, common_steps) in
    ConsumesUpTo-more _ (g.S.Source.remaining c.loop-count.source) _ c.loop-count.bytes.items c.read_some.new.buffer c.in-Ok.count _ c.loop-count.invariant.taken c.in-Ok.ensures.bytes.1 (omega arith)

pub returns-in_err-extend_from_slice-clause-stops : goal.returns-in_err-extend_from_slice-clause-stops
returns-in_err-extend_from_slice-clause-stops g c =
    let few : length c.loop-count.bytes.items + c.in-Ok.count ≤ c.args.limit = grind (arith, common_steps) in
    let p = err_from_is_err_and c.from_residual.result c.from_residual.ensures.1 in
    rw p.1 (ConsumesUpTo-more _ (g.S.Source.remaining c.loop-count.source) _ c.loop-count.bytes.items c.read_some.new.buffer c.in-Ok.count _ c.loop-count.invariant.taken c.in-Ok.ensures.bytes.1 (omega arith))

pub returns-in_err-extend_from_slice-clause-memory_within : goal.returns-in_err-extend_from_slice-clause-memory_within
returns-in_err-extend_from_slice-clause-memory_within g c =
    let few : length c.loop-count.bytes.items + c.in-Ok.count ≤ c.args.limit = grind (arith, common_steps) in
    λ _. ConsumesUpTo-more _ (g.S.Source.remaining c.loop-count.source) _ c.loop-count.bytes.items c.read_some.new.buffer c.in-Ok.count _ c.loop-count.invariant.taken c.in-Ok.ensures.bytes.1 few

pub returns-then-count-limit-clause-too_large_ready : goal.returns-then-count-limit-clause-too_large_ready
returns-then-count-limit-clause-too_large_ready g c = λ _. c.in-Ok.ensures.broken

pub loop-count-smaller : goal.loop-count-smaller
loop-count-smaller g c =
    let more = c.in_ok-extend_from_slice.ensures.len in
    let read = length-take c.in-Ok.count c.read_some.new.buffer in
    omega (arith, c.in-Ok.ensures.bytes.0)

pub loop-count-preserved : goal.loop-count-preserved
loop-count-preserved g c =
    let more = c.in_ok-extend_from_slice.ensures.len in
    let read = length-take c.in-Ok.count c.read_some.new.buffer in
    record {
      taken = rw c.in_ok-extend_from_slice.ensures.items (Consumes-trans _ _ _ _ _ c.loop-count.invariant.taken c.in-Ok.ensures.bytes.1);
      within = omega (arith, c.in-Ok.ensures.bytes.0);
    }
