pub mod Streams
pub mod ReadBack
pub mod TerraformStreams
pub mod WithoutWaits
