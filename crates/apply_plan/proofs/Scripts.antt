-- Lemmas on scripts.
pub mod Entries
pub mod Forgotten
pub mod ValidItems
pub mod Held
pub mod VerbatimParts
pub mod Limits
pub mod NeverBeginning
pub mod OneEntry
pub mod Read
pub mod Refusals
pub mod Slots
pub mod Timed
pub mod RawSteps
pub mod Waited
pub mod WholeList
