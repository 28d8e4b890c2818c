pub mod Drifts
pub mod Elements
pub mod Objects
pub mod Outputs
pub mod Prior
pub mod Selection
pub mod Views
