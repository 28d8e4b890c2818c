pub mod Assignment
pub mod Outcome
pub mod Provisioners
pub mod Recording
pub mod Times
pub mod Took
pub mod Warnings
