use Rattle.std.proofs.Common.{refl}
use Rattle.tk_query_locks.proofs.ConflictLemmas.{conflict_from, conflict_back, first_or_second}
use Rattle.tk_query_locks.proofs.conflicts.Conflicts.conflict_over.Goals as goal

pub returns-then-writes_beside : goal.returns-then-writes_beside
returns-then-writes_beside c = (
  λ yes. let both = c.writes_beside.ensures.0 c.if-writes_beside.true in
      conflict_from c.args.self.now c.args.name.now c.args.a.now c.args.b.now c.requires.apart both.0 both.1,
  λ over. refl,
)

pub returns : goal.returns
returns c = (
  λ yes. let both = c.writes_beside-2.ensures.0 yes in
      conflict_back c.args.self.now c.args.name.now c.args.a.now c.args.b.now c.requires.apart both.0 both.1,
  λ over. first_or_second c.args.self.now c.args.name.now c.args.a.now c.args.b.now c.writes_beside.result c.writes_beside-2.result
      c.writes_beside.ensures c.writes_beside-2.ensures c.if-writes_beside.false over,
)
