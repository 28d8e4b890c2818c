pub mod Allowed
pub mod Alongside
pub mod Chains
pub mod FactTimes
pub mod Places
pub mod Rising
