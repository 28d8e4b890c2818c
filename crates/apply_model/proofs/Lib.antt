pub mod Lists
pub mod Plans
pub mod Prefixes
pub mod Scripts
