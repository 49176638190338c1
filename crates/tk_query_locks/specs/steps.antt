pub mod Parents
pub mod Conflicts
pub mod LockNumbers
pub mod Holders
