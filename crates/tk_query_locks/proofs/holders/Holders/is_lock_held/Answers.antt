use Rattle.std.proofs.Common.{sym, ◌∙◌, subst}
use Rattle.std.specs.List.{Contains}
use Rattle.tk_query_locks.proofs.HolderLemmas.{read_not_write}
use Rattle.tk_query_locks.proofs.holders.Holders.is_lock_held.Goals as goal

pub returns-in-Read : goal.returns-in-Read
returns-in-Read c = λ none. record {
  writers = λ p has. c.some_meets.ensures c.if-some_meets.false p (subst (λ l. Contains l p) (sym c.starts.ensures) has);
  readers = λ is. absurd (read_not_write (sym c.in-Read.is ∙ is));
}

pub returns-in-ReadWrite : goal.returns-in-ReadWrite
returns-in-ReadWrite c = λ none. record {
  writers = λ p has. c.some_meets.ensures c.if-some_meets.false p (subst (λ l. Contains l p) (sym c.starts.ensures) has);
  readers = λ is p has. c.some_meets-in-ReadWrite.ensures none p (subst (λ l. Contains l p) (sym c.starts-in-ReadWrite.ensures) has);
}
