pub mod Parsed
mod Refusing
mod Written
