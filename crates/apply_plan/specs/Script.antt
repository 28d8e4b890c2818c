-- How scripts are read. The definitions of scripts themselves are those of `apply_model`.
pub use Rattle.apply_model.specs.Script.Limits
pub use Rattle.apply_model.specs.Script.Outcome
pub use Rattle.apply_model.specs.Script.Step
pub use Rattle.apply_model.specs.Script.Waits
pub mod EntriesView
pub mod Entry
pub mod Limit
pub mod Members
pub mod NeverBeginning
pub mod NextEntry
pub mod OutcomeMap
pub mod OutputView
pub mod Refusals
pub mod RawView
pub mod WaitedStep
pub mod WaitedView
