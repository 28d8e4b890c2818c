pub mod Halting
