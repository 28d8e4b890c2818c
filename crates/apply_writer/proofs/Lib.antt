pub mod Prefixes
pub mod Streams
