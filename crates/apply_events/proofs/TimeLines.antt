-- Lanes and their time line.
pub mod Changes
pub mod Dealt
pub mod Few
pub mod Merge
pub mod Order
