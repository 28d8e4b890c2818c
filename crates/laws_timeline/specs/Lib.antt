pub mod Agreement
pub mod Memory
pub mod Messages
