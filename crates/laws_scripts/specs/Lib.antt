pub mod Kinds
pub mod Outcomes
