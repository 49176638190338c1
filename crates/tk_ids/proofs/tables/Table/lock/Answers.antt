use Rattle.std.proofs.Common.{◌≡◌, ◌<◌, ◌∙◌, ℕ, List, length, ap, sym, subst, arith}
use Rattle.std.proofs.lemmas.Result.{err_from_is_err_and}
use Rattle.tk_ids.specs.Locks.{mode_with}
use Rattle.tk_ids.specs.Table.{locks_at}
use Rattle.tk_ids.proofs.TableLockLemmas.{length_with_locks, restored, put_back, not_empty}
use Rattle.tk_ids.proofs.tables.Table.lock.Goals as goal

pub replace_locks-none-requires : goal.replace_locks-none-requires
replace_locks-none-requires c =
    subst (λ n. c.args.key < n) (sym (ap length c.replace_locks-locks.ensures.after ∙ length_with_locks c.args.self.now c.args.key _)) (omega (arith, c.if-key-len.false, c.len.ensures.len))

pub returns-in_err-added : goal.returns-in_err-added
returns-in_err-added c =
    let p = err_from_is_err_and c.from_residual-in_err-added.result c.from_residual-in_err-added.ensures.1 in
    rw (p.1, p.2)
    (restored c.args.self.now c.replace_locks-locks.new.self c.replace_locks-none.new.self c.args.key c.new.result c.replace_locks-locks.result c.add-added.new.self c.replace_locks-locks.ensures.before c.replace_locks-locks.ensures.after c.in_err-added.ensures.err c.replace_locks-none.ensures.after)

pub returns : goal.returns
returns c =
    let modes : (name : List ℕ) → mode_with c.replace_locks-locks.result (record { name = c.in_ok-name.name; mode = c.args.mode }) name ≡ mode_with (locks_at c.args.self.now c.args.key) (record { name = c.args.name.now; mode = c.args.mode }) name =
    λ name. ap (λ old. mode_with old (record { name = c.in_ok-name.name; mode = c.args.mode }) name) c.replace_locks-locks.ensures.before
    ∙ ap (λ own. mode_with (locks_at c.args.self.now c.args.key) (record { name = own; mode = c.args.mode }) name) c.in_ok-name.ensures in (
      omega (arith, c.if-key-len.false, c.len.ensures.len),
      not_empty _ _ c.if-is_empty.false c.is_empty.ensures,
      c.add-added.new.self,
      put_back c.args.self.now c.replace_locks-locks.new.self c.replace_locks-none.new.self c.args.key c.new.result c.add-added.new.self c.replace_locks-locks.ensures.after c.replace_locks-none.ensures.after,
      λ name. c.in_ok-added.ensures.ok name ∙ modes name,
    )
