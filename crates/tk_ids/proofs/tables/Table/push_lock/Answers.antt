use Rattle.std.proofs.Common.{◌<◌, ◌++◌, ◌∷◌, [], ◌∙◌, length, ap, sym, subst}
use Rattle.std.proofs.lemmas.Result.{err_from_is_err_and}
use Rattle.tk_ids.specs.Table.{with_locks}
use Rattle.tk_ids.proofs.TableLockLemmas.{length_with_locks, restored, put_back}
use Rattle.tk_ids.proofs.tables.Table.push_lock.Goals as goal

pub replace_locks-none-requires : goal.replace_locks-none-requires
replace_locks-none-requires c =
    subst (λ n. c.args.key < n) (sym (ap length c.replace_locks-locks.ensures.after ∙ length_with_locks c.args.self.now c.args.key _)) c.requires.known

pub returns-clause-ok : goal.returns-clause-ok
returns-clause-ok c =
    put_back c.args.self.now c.replace_locks-locks.new.self c.replace_locks-none.new.self c.args.key c.new.result c.push-pushed.new.self c.replace_locks-locks.ensures.after c.replace_locks-none.ensures.after
    ∙ ap (with_locks c.args.self.now c.args.key) (c.in_ok-pushed.ensures.ok ∙ ap (λ l. l ++ c.args.lock ∷ []) c.replace_locks-locks.ensures.before)

pub returns-in_err-pushed-clause-err : goal.returns-in_err-pushed-clause-err
returns-in_err-pushed-clause-err c =
    let p = err_from_is_err_and c.from_residual.result c.from_residual.ensures.1 in
    rw p.1
    (restored c.args.self.now c.replace_locks-locks.new.self c.replace_locks-none.new.self c.args.key c.new.result c.replace_locks-locks.result c.push-pushed.new.self c.replace_locks-locks.ensures.before c.replace_locks-locks.ensures.after c.in_err-pushed.ensures.err c.replace_locks-none.ensures.after)
