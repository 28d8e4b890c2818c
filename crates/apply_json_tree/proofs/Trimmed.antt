-- Lemmas on trimmed trees.
pub mod Items
pub mod Lookups
pub mod Members
