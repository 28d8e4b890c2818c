pub mod Dealing
pub mod OfLanes
pub mod OfRun
pub mod Schedules
