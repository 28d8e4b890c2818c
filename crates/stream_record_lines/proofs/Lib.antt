pub mod Appended
pub mod OutputLists
pub mod OutputTexts
pub mod OutputTurns
pub mod Trimmed
