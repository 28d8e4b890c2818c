pub mod Details
pub mod Plan
pub mod Script
