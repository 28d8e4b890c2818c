pub mod Alike
pub mod Notes
pub mod Streams
pub mod Terraform
pub mod TimeLines
