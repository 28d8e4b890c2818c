pub mod Begun
pub mod EvenSteps
pub mod EntryTexts
pub mod Items
pub mod Remains
