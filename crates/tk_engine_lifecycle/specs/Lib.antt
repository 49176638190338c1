pub use Rattle.tk_claims.specs.Run
pub use Rattle.tk_query_lifecycle.specs.KeepsLifecycle
pub mod Units
pub mod UnderWay
pub mod Laws
