-- What clauses cite of ids, descriptors and the table.
pub use Rattle.tk_ids.specs.Answer.{IsMadeOf, IsReadAs, IsSegmentOf}
pub use Rattle.tk_ids.specs.DTypes.{is_container, is_test}
pub use Rattle.tk_ids.specs.IdText.{FitsLimits, IsBelow, IsEngine, IsId, IsNonEmptyText, id_text}
pub use Rattle.tk_ids.specs.IdText.{parent_of}
pub use Rattle.tk_ids.specs.Locks.{AreLocks, mode_with, mode_of, stronger}
pub use Rattle.tk_ids.specs.Table.{AreDifferent, HasId, HasParent, HasParents, HaveLocks}
pub use Rattle.tk_ids.specs.Table.{IsAddedAs, IsInsertedAs, IsLockedAs, addition, ids_of, locks_at}
pub use Rattle.tk_ids.specs.Table.{with_locks}
