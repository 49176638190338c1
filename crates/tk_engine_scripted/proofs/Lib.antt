pub mod RegisteredKeys
pub mod ScriptSteps
