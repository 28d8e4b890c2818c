pub mod PlanKept
pub mod Outcomes
pub mod RecordedRuns
