pub mod Causes
pub mod CommandLine
pub mod Lines
pub mod Places
pub mod Statuses
pub mod Validated
