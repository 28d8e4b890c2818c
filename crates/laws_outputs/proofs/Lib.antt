pub mod Names
pub mod Lookups
pub mod Shown
pub mod Stated
pub mod Again
pub mod Read
pub mod Exact
