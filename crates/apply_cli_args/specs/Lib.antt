pub mod CommandLine
pub mod Given
pub mod Halt
pub mod Invocation
pub mod Settings
