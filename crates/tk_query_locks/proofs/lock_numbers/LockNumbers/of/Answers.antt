use Rattle.std.proofs.Common.{ap, arith, length, sym, ◌∙◌}
use Rattle.std.proofs.lemmas.Option.{none-some}
use Rattle.tk_query_locks.proofs.NumberLemmas.{no_more, none_noted, one_noted, shared_all}
use Rattle.tk_query_locks.proofs.lock_numbers.LockNumbers.of.Goals as goal

pub loop-key-init : goal.loop-key-init
loop-key-init c = none_noted _ _

pub returns : goal.returns
returns c =
    let past = c.loop-key-test.false in
    let size = c.len-key-end.ensures.len in
    let table = ap length c.table.ensures in
    shared_all c.args.«record».now c.loop-key.numbers c.loop-key.key c.shows_record.ensures (omega (arith, past, size, table)) c.loop-key.invariant

pub loop-key-preserved-in_default : goal.loop-key-preserved-in_default
loop-key-preserved-in_default c =
    no_more c.args.«record».now c.loop-key.numbers c.loop-key.key c.loop-key.invariant (λ d is. none-some d (c.in_default.ensures ∙ is))

pub loop-key-preserved : goal.loop-key-preserved
loop-key-preserved c =
    one_noted c.args.«record».now c.loop-key.numbers c.add.new.self c.loop-key.key c.in-Some.descriptor.now
    c.loop-key.invariant (sym c.in-Some.ensures) c.in_ok-add.ensures
