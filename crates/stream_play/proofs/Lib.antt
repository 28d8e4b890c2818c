pub mod Dues
pub mod Parsed
pub mod Sent
pub mod Speeds
pub mod Written
