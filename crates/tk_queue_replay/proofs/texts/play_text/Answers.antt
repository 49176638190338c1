use Rattle.std.proofs.lemmas.Result.{err_from_is_err_and}
use Rattle.tk_queue_replay.proofs.TextSteps.{nodes_played, says, text_played}
use Rattle.tk_queue_replay.proofs.texts.play_text.Goals as goal

pub returns-in_err-table : goal.returns-in_err-table
returns-in_err-table c =
    let p = err_from_is_err_and c.from_residual-in_err-table.result c.from_residual-in_err-table.ensures.1 in
    let fault = c.in_err-table.field-0.0 in
    rw (p.1, p.2) (nodes_played c.in-Some.version c.in_ok-workers.workers c.args.input.now c.in-Some.body.now c.in_ok-workers.rest.now c.in_err-table.ensures.0 fault c.in-Some.ensures c.in_ok-workers.ensures c.in_err-table.ensures.1)

pub returns : goal.returns
returns c =
    let rest = c.in_ok-entries.ensures in
    let is = says c.in-Some.version c.in_ok-workers.workers c.args.input.now c.in-Some.body.now c.in_ok-workers.rest.now c.in_ok-table.rest.now rest.last c.in_ok-table.table c.in_ok-entries.entries.items c.in_ok-entries.turns.items
    c.in-Some.ensures c.in_ok-workers.ensures c.in_ok-table.ensures rest.own rest.ends in
    text_played c.args.input.now _ c.as_slice.result.now c.as_slice-2.result.now _ is c.as_slice.ensures.value c.as_slice-2.ensures.value c.play_turns.ensures
