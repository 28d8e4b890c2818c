pub mod FromReader
pub mod PlanKept
