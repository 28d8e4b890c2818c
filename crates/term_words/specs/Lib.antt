pub mod MessageTexts
pub mod Words
