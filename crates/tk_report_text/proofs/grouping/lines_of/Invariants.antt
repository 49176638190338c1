use Rattle.tk_report_text.proofs.LinesById.{Gathers}
use Rattle.tk_report_text.proofs.grouping.lines_of.Given as goal

abbrev pub invariant-entries : goal.invariant-entries
invariant-entries l = Gathers l.«record» l.kept l.view-iterator
