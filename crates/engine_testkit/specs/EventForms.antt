-- What clauses cite of events.
pub use Rattle.tk_events.specs.Event.{is_lawful, is_strictly_increasing, kind_code, kind_of_code}
pub use Rattle.tk_events.specs.Event.{kind_word, status_code, status_of_code}
pub use Rattle.tk_events.specs.Outcomes.{message_of, outcome_with, status_of}
