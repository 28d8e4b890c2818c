pub mod Stages
pub mod Waiting
