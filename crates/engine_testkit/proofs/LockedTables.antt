-- What an author's `using` names: a table is as long after a lock is declared as before.
pub use Rattle.tk_engine_unit_events.proofs.LockedTables.{same_length}
