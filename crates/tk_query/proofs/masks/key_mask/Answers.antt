use Rattle.std.proofs.Common.{map, length, length-take, arith, ◌∙◌, ap, ◌++◌, ◌∷◌, [], get_or}
use Rattle.std.proofs.lemmas.List.{length-map, take_more}
use Rattle.std.proofs.lemmas.Result.{err_from_is_err_and}
use Rattle.std.specs.Prelude.{◌==◌}
use Rattle.tk_record.proofs.PickedEntries.{if_ok_same}
use Rattle.tk_events.specs.declared.events.Entry.{Entry}
use Rattle.tk_query.specs.steps.Rules.{key_passes}
use Rattle.tk_query.proofs.MaskLemmas.{column_more, column_done, map-map}
use Rattle.tk_query.proofs.masks.key_mask.Goals as goal

pub loop-key-preserved : goal.loop-key-preserved
loop-key-preserved c =
    let r = c.args.«record».now in
    let keys = c.keys-keys.result.now in
    record {
      column_is = column_more (key_passes c.args.test r) keys c.loop-key.key-index (get_or keys c.loop-key.key-index 0) c.in_ok-answer.answer c.loop-key.column.items c.push.new.self.items
          (take_more keys c.loop-key.key-index 0 c.loop-key-test.true) c.loop-key.invariant.column_is c.in_ok-answer.ensures.answer
          (c.in_ok-push.ensures.items ∙ ap (λ b. c.loop-key.column.items ++ b ∷ []) c.byte_of.ensures);
      answers_are = c.in_ok-answer.ensures.answers;
    }

pub returns : goal.returns
returns c =
    let r = c.args.«record».now in
    let keys = c.keys-keys.result.now in
    if_ok_same c.of_byte.result _ (map (λ (e : Entry). key_passes c.args.test r e.event.key) r.entries)
    (ap (map (λ x. x == 1)) c.deref.ensures.value ∙ column_done (key_passes c.args.test r) keys c.loop-key.key-index c.loop-key.column.items c.loop-key-test.false c.loop-key.invariant.column_is
    ∙ ap (map (key_passes c.args.test r)) c.keys-keys.ensures ∙ map-map (key_passes c.args.test r) (λ (e : Entry). e.event.key) r.entries)
    c.of_byte.ensures

pub returns-in_err-column : goal.returns-in_err-column
returns-in_err-column c = let p = err_from_is_err_and c.from_residual.result c.from_residual.ensures.1 in rw p.1 tt

pub answer_by_key-requires : goal.answer_by_key-requires
answer_by_key-requires c = c.loop-key.invariant.answers_are

pub returns-in_err-answer : goal.returns-in_err-answer
returns-in_err-answer c = let p = err_from_is_err_and c.from_residual-in_err-answer.result c.from_residual-in_err-answer.ensures.1 in rw p.1 tt

pub returns-in_err-push : goal.returns-in_err-push
returns-in_err-push c = let p = err_from_is_err_and c.from_residual-in_err-push.result c.from_residual-in_err-push.ensures.1 in rw p.1 tt

pub of_byte-requires : goal.of_byte-requires
of_byte-requires c =
    let long = simp (length-map, length-take) at (ap length (c.deref.ensures.value ∙ c.loop-key.invariant.column_is)) in
    let keys = simp length-map at (ap length c.keys-keys.ensures) in
    omega (arith, long, keys, c.len.ensures.value, c.len.ensures.bound)
