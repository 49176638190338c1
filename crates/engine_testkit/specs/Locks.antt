-- What clauses cite of needs and locks.
pub use Rattle.tk_locks.specs.Needs.{Access, Conflict, access, access_of, access_with}
pub use Rattle.tk_locks.specs.Needs.{nothing, reads, word_of, writes}
