pub mod Course
pub mod LostObjects
pub mod Planning
pub mod PlansPart
