pub mod CachedTexts
mod Dates
pub mod Feeds
pub mod HookLines
pub mod Hooks
pub mod LinesAdded
pub mod Moments
pub mod Progress
pub mod Sending
pub mod ShortDates
pub mod Texts
