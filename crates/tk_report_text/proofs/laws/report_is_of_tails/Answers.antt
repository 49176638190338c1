use Rattle.tk_report_text.proofs.Tails as lemma
use Rattle.tk_report_text.proofs.laws.report_is_of_tails.Goals as goal

pub returns-clause-report : goal.returns-clause-report
returns-clause-report c = lemma.report_is_of_tails

pub returns-clause-text : goal.returns-clause-text
returns-clause-text c = lemma.text_has_tails
