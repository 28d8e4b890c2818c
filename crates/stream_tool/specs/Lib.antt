pub mod Arguments
pub mod Refused
pub mod Running
pub mod Words
