pub mod Parts
pub mod Entries
pub mod PlannedKinds
