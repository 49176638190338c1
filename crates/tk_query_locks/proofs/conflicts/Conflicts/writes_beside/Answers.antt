use Rattle.std.proofs.Common.{sym, ◌∙◌}
use Rattle.std.proofs.lemmas.Bool.{false≢true}
use Rattle.tk_query_locks.proofs.ConflictLemmas.{used_told}
use Rattle.tk_query_locks.proofs.conflicts.Conflicts.writes_beside.Goals as goal

pub returns-then-not-writes : goal.returns-then-not-writes
returns-then-not-writes c = (
  λ yes. absurd (false≢true yes),
  λ both. absurd (false≢true (sym c.if-not-writes.true ∙ c.writes.ensures.1 both.0)),
)

pub returns : goal.returns
returns c =
    let writes = c.writes.ensures.0 c.if-not-writes.false in (
      λ yes. (writes, c.uses.ensures.yes yes),
      λ both. used_told c.args.self.now c.args.name.now c.args.writer.now c.args.other.now c.uses.result c.requires both.0 c.uses.ensures.no both.1,
    )
