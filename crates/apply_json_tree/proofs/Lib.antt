pub mod Made
pub mod Scalars
pub mod Trimmed
