use Rattle.std.proofs.Common.{◌≡◌, subst, refl, arith}
use Rattle.tk_locks.specs.Words.{packed}
use Rattle.tk_locks.specs.Needs.{word_of}
use Rattle.tk_locks.proofs.Masks.{all_lanes, one_lane, room_for_lane}
use Rattle.tk_locks.proofs.needs.Need.word.Goals as goal

pub loop-done-init : goal.loop-done-init
unfolding packed
loop-done-init c = refl

pub overflow_mul-word : goal.overflow_mul-word
overflow_mul-word c = let b = room_for_lane _ c.loop-done.done c.loop-done.word c.loop-done-test.true c.loop-done.invariant in omega arith

pub overflow_add-word : goal.overflow_add-word
overflow_add-word c = let b = room_for_lane _ c.loop-done.done c.loop-done.word c.loop-done-test.true c.loop-done.invariant in let l = c.lane_of.ensures.small in omega arith

pub loop-done-preserved : goal.loop-done-preserved
loop-done-preserved c = one_lane _ c.loop-done.done c.loop-done.word c.lane_of.result c.loop-done-test.true c.loop-done.invariant c.lane_of.ensures.value

pub returns : goal.returns
returns c = subst (λ n. c.loop-done.word ≡ word_of n) c.self.view_is (all_lanes _ c.loop-done.done c.loop-done.word (omega arith) c.loop-done.invariant)
