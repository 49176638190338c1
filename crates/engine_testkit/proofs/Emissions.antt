-- What an author's `using` names, and lemmas on what was emitted, in order.
pub use Rattle.tk_engine_unit_events.proofs.Emissions.{emissions, emitted_none, emitted_one, emitted_first, emitted_then, emitted_as_then, grew_emitted, grew_event, grew_registration}
