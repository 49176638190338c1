-- A lock more leaves a table as long as it is.
use Rattle.std.proofs.Common.{◌≡◌, ℕ, List, length, ap, ◌∙◌, Result, Ok, Err}
use Rattle.tk_ids.specs.declared.descriptors.Descriptor.{Descriptor}
use Rattle.tk_ids.specs.declared.locks.Lock.{Lock}
use Rattle.tk_ids.specs.declared.tables.LockFault.{LockFault}
use Rattle.tk_ids.specs.declared.tables.LockFault.TheVariants.{NoDescriptor, NoName, Memory}
use Rattle.tk_ids.specs.Table.{IsLockedAs}
use Rattle.tk_ids.proofs.TableLockLemmas.{length_with_locks}

pub same_length : (old new : List Descriptor) (key : ℕ) (lock : Lock) (result : Result (Unit {0}) LockFault) → IsLockedAs old new key lock result → length new ≡ length old
same_length old new key lock (Ok u) (known, named, locks, is, modes) = ap length is ∙ length_with_locks old key locks
same_length old new key lock (Err NoDescriptor) (past, is) = ap length is
same_length old new key lock (Err NoName) (known, unnamed, is) = ap length is
same_length old new key lock (Err Memory) is = ap length is
