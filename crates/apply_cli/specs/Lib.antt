pub mod Command
pub mod Ended
pub mod Invocation
pub mod Options
pub mod Status
pub mod Unmatched
pub mod Version
