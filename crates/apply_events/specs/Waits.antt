-- Steps that wait for others: when each begins, and in which lane.
pub mod Done
pub mod Merging
pub mod LaneTime
pub mod Queue
pub mod Schedule
pub mod StartedTurns
pub mod TimeLine
pub mod Turn
