use Rattle.std.proofs.Common.{rules}
use Rattle.std.proofs.lemmas.List.Sorted.{IsPartitionPoint-from_clause}
use Rattle.tk_ids.specs.Locks.{is_before}
use Rattle.tk_ids.proofs.LockLemmas.{parted}
use Rattle.tk_ids.proofs.locks.place_of.Goals as goal

pub returns-clause-place : goal.returns-clause-place
returns-clause-place c =
    IsPartitionPoint-from_clause (λ l. is_before l.name c.args.name.now) _ _ c.partition_point.ensures.partitioned (parted c.args.locks.now c.args.name.now c.requires.sorted) (λ a r q k. search rules)
