-- Workers: what they draw and send.
pub mod Drawing
pub mod Prefixes
pub mod Sent
