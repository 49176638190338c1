use Rattle.std.proofs.Common.{sym, ◌∙◌}
use Rattle.tk_report_text.proofs.ReportParts.{none_written}
use Rattle.tk_report_text.proofs.writing.write_report_of.Goals as goal

pub returns-clause-err : goal.returns-clause-err
returns-clause-err g c =
    let sent = c.in-Err.ensures.err in
    (sent.0, sent.1, sym c.in_ok-report.ensures ∙ sent.2, sent.3)

pub returns-in_err-report-clause-err : goal.returns-in_err-report-clause-err
returns-in_err-report-clause-err g c = none_written c.from_residual.result (g.T.Target.contents c.args.target.now) _
