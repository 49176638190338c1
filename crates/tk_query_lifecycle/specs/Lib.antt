pub mod NeverRan
pub mod Lifecycle
pub mod KeepsLifecycle
pub mod LifecycleTexts
pub mod LifecycleLaws
pub mod steps
