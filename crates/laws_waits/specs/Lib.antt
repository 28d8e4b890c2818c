pub mod Kept
pub mod Places
pub mod Scripts
pub mod Again
