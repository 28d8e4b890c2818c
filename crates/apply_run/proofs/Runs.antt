-- Runs: their workers, and how they end.
pub mod Headline
pub mod Joined
pub mod Places
pub mod Ready
