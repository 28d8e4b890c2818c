pub mod Forms
pub mod Sinks
pub mod Stream
