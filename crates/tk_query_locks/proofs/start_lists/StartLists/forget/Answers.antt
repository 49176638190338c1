use Rattle.std.proofs.Common.{◌<◌, ◌∙◌, [], get_or, sym, subst, length}
use Rattle.std.specs.List.{Contains}
use Rattle.std.proofs.lemmas.List.{get_or_default}
use Rattle.tk_query_locks.proofs.StartLemmas.{list_changed}
use Rattle.tk_query_locks.proofs.start_lists.StartLists.forget.Goals as goal

pub returns-clause-kept : goal.returns-clause-kept
returns-clause-kept c = λ n p lt has.
    let lists = c.self.inside.lists.items in
    let within = subst (λ l. c.args.number < length l) (sym c.self.view_is) c.requires in
    let row = c.index_mut.ensures.value ∙ get_or_default lists c.args.number c.index_mut.result.now [] within in
    list_changed lists c.args.number c.forget.new.self (λ q. c.args.position < get_or c.args.ends.now q 0) within
    (λ q is old. c.forget.ensures q is (subst (λ l. Contains l q) (sym row) old)) n p lt
    (subst (λ l. Contains (get_or l n []) p) (sym c.self.view_is) has)
