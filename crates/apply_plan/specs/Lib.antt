pub mod Bytes
pub mod FilledText
pub mod ValidItems
pub mod ListReading
pub mod NoTree
pub mod Plan
pub mod Results
pub mod Script
