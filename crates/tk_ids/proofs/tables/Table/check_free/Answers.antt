use Rattle.std.proofs.Common.{sym, ◌∙◌}
use Rattle.tk_ids.proofs.TableLemmas.{is_there}
use Rattle.tk_ids.proofs.tables.Table.check_free.Goals as goal

pub returns-then-is_some : goal.returns-then-is_some
returns-then-is_some c = is_there c.args.self.now c.args.id.now c.find.result c.find.ensures.found (sym c.is_some.ensures ∙ c.if-is_some.true)
