pub mod Verbatim
pub mod Parsed
pub mod ShallowView
pub mod Tokens
pub mod Tree
