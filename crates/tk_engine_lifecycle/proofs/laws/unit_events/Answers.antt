use Rattle.tk_engine_lifecycle.proofs.Steps.{law_begins, law_closes, law_finishes, law_registers, law_reports, law_skips, law_starts}
use Rattle.tk_engine_lifecycle.proofs.laws.unit_events.Goals as goal

pub returns-clause-begins : goal.returns-clause-begins
returns-clause-begins c = law_begins

pub returns-clause-starts : goal.returns-clause-starts
returns-clause-starts c = law_starts

pub returns-clause-skips : goal.returns-clause-skips
returns-clause-skips c = law_skips

pub returns-clause-reports : goal.returns-clause-reports
returns-clause-reports c = law_reports

pub returns-clause-registers : goal.returns-clause-registers
returns-clause-registers c = law_registers

pub returns-clause-finishes : goal.returns-clause-finishes
returns-clause-finishes c = law_finishes

pub returns-clause-closes : goal.returns-clause-closes
returns-clause-closes c = law_closes
