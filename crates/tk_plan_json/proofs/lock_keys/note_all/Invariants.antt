use Rattle.std.proofs.Common.{◌≡◌, drop}
use Rattle.tk_plan.specs.Keys.{note_locks}
use Rattle.tk_plan_json.proofs.lock_keys.note_all.Given as goal

abbrev pub invariant-loop-lock : goal.invariant-loop-lock
invariant-loop-lock l = note_locks l.keys.keys (drop l.lock-index l.locks) ≡ note_locks l.fn.keys.keys l.locks
