-- What an author's `using` names: lemmas on what a unit has done to its sink.
pub use Rattle.tk_engine_execute.proofs.SinkGrowth.{grew_refl, grew_same, grew_one, grew_trans, grew_registered}
