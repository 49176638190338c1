use Rattle.std.proofs.Common.{◌+◌, arith}
use Rattle.std.proofs.lemmas.Result.{err_from_is_err_and}
use Rattle.tk_queue_replay.specs.ReplayText.{text_head}
use Rattle.tk_queue_replay.proofs.TextSteps.{end_fault}
use Rattle.tk_queue_replay.proofs.texts.read_rest.Goals as goal

pub returns-in_err-turns : goal.returns-in_err-turns
returns-in_err-turns c =
    let p = err_from_is_err_and c.from_residual-in_err-turns.result c.from_residual-in_err-turns.ensures.1 in
    let fault = c.in_err-turns.field-0.0 in
    let number = c.args.nodes + c.len.result + 3 in
    rw (p.1, p.2) (end_fault (text_head c.args.version c.args.workers) c.args.nodes number c.args.input.now c.read_entries.new.entries.items c.in_ok-rest.rest.now fault c.in_ok-rest.ensures
    (omega (arith, c.len.ensures, c.read_entries.new.entries.ok.0)) c.in_err-turns.ensures)
