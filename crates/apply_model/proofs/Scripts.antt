-- Lemmas on scripts.
pub mod Limits
pub mod Provisioners
