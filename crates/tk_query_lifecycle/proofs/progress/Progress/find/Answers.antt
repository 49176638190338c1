use Rattle.std.proofs.Common.{sym, ◌∙◌}
use Rattle.tk_query_lifecycle.proofs.IdMapLemmas.{found_static, found_registered}
use Rattle.tk_query_lifecycle.proofs.progress.Progress.find.Goals as goal

pub returns-in-Some : goal.returns-in-Some
returns-in-Some c past same are = found_static past c.table.result.now c.args.id.now c.in-Some.key (same ∙ sym c.table.ensures) c.in-Some.ensures.found

pub returns-in-None : goal.returns-in-None
returns-in-None c past same are = found_registered past c.table.result.now c.args.self.now.ids c.args.id.now c.key_of.result (same ∙ sym c.table.ensures) are c.in-None.ensures.none c.key_of.ensures.id c.key_of.ensures.key
