pub mod Accepted
pub mod Begins
pub mod Graphs
pub mod Scripts
pub mod Texts
