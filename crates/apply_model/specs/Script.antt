-- Scripts.
pub mod Limits
pub mod Outcome
pub mod OutcomeMap
pub mod Step
pub mod Waits
