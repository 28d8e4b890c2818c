pub mod Again
pub mod Own
pub mod Places
pub mod ReadBack
pub mod Steps
