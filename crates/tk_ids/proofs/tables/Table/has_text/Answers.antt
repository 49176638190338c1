use Rattle.tk_ids.proofs.TableLemmas.{has_text_exact}
use Rattle.tk_ids.proofs.tables.Table.has_text.Goals as goal

pub returns : goal.returns
returns c = λ id ok is.
    let invariant = c.self.invariant in
    rw (c.is_some.ensures, c.get_index_of.ensures.index) (has_text_exact c.self.inside.by_text.entries c.args.self.now id c.args.text.now invariant.0 c.self.view_is is ok)
