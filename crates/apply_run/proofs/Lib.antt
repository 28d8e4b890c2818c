pub mod Collecting
pub mod FromBytes
pub mod Runs
pub mod Sizes
pub mod Workers
