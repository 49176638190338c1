use Rattle.std.proofs.Common.{sym, ◌∙◌}
use Rattle.tk_ids.proofs.TableLemmas.{find_none, find_some, find_different}
use Rattle.tk_ids.proofs.tables.Table.find.Goals as goal

pub returns-in_err-index-clause-none : goal.returns-in_err-index-clause-none
returns-in_err-index-clause-none c =
    let invariant = c.self.invariant in
    rw c.from_residual.ensures
    (find_none c.self.inside.by_text.entries c.args.self.now c.args.id.now c.as_str.result.now invariant.0 c.self.view_is (c.as_str.ensures ∙ c.as_text.ensures.text) (sym c.get_index_of.ensures.index ∙ c.in_err-index.was))

pub returns-in_err-index-clause-different : goal.returns-in_err-index-clause-different
returns-in_err-index-clause-different c =
    let invariant = c.self.invariant in
    find_different c.self.inside.by_text.entries c.args.self.now invariant.0 c.self.view_is c.get_index_of.ensures.unique

pub returns-clause-found : goal.returns-clause-found
returns-clause-found c =
    let invariant = c.self.invariant in
    find_some c.self.inside.by_text.entries c.args.self.now c.args.id.now c.as_str.result.now c.in_ok-index.index invariant.0 c.self.view_is (c.as_str.ensures ∙ c.as_text.ensures.text) c.as_text.ensures.id (sym c.get_index_of.ensures.index ∙ c.in_ok-index.was)

pub returns-clause-different : goal.returns-clause-different
returns-clause-different c =
    let invariant = c.self.invariant in
    find_different c.self.inside.by_text.entries c.args.self.now invariant.0 c.self.view_is c.get_index_of.ensures.unique

pub returns-clause-none : goal.returns-clause-none
returns-clause-none c = tt
