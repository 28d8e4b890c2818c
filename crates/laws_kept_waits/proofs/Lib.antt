pub mod Completed
pub mod Lists
pub mod OwnWaits
pub mod Done
pub mod KnownRun
pub mod NumberedLines
pub mod LinesInTurn
