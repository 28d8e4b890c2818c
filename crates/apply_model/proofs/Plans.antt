-- Lemmas on plans.
pub mod Relative
