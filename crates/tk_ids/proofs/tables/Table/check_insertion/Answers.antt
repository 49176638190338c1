use Rattle.std.proofs.Common.{sym, ◌∙◌}
use Rattle.std.proofs.lemmas.Bool.{false≢true}
use Rattle.tk_ids.proofs.TableLemmas.{insertable}
use Rattle.tk_ids.proofs.tables.Table.check_insertion.Goals as goal

pub returns-then-not-has_parent : goal.returns-then-not-has_parent
returns-then-not-has_parent c = λ has. false≢true (sym c.if-not-has_parent.true ∙ c.has_parent.ensures.1 has)

pub returns : goal.returns
returns c = insertable c.args.self.now c.args.id.now c.check_free.result (c.has_parent.ensures.0 c.if-not-has_parent.false) c.check_free.ensures
