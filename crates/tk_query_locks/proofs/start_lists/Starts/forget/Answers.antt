use Rattle.std.proofs.Common.{rules, ℕ, Bool, sym, subst, get_or}
use Rattle.std.specs.Prelude.{nat_lt}
use Rattle.std.specs.List.{Contains}
use Rattle.std.proofs.lemmas.Bool.{lt-ltb}
use Rattle.std.proofs.lemmas.Fn.{filter_same}
use Rattle.tk_query_locks.proofs.StartLemmas.{stays}
use Rattle.tk_query_locks.proofs.start_lists.Starts.forget.Goals as goal

pub returns : goal.returns
returns c = λ p lt has.
    let test : ℕ → Bool = λ n. nat_lt c.args.position (get_or c.args.ends.now n 0) in
    let items = c.self.inside.positions.items in
    let same = filter_same _ test _ (λ x b f' k. search rules) _ _ c.retain.ensures.filtered in
    subst (λ l. Contains l p) (sym same)
    (stays test items p (lt-ltb c.args.position (get_or c.args.ends.now p 0) lt) (subst (λ l. Contains l p) (sym c.self.view_is) has))
