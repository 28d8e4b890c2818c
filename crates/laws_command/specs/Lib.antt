pub mod Alike
pub mod Endings
pub mod Plannings
pub mod Streams
