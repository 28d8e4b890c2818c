pub mod Busy
pub mod Finds
pub mod PlanSteps
pub mod StrayKinds
pub mod Taken
