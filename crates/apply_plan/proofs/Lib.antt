pub mod ListReading
pub mod MadeOfRead
pub mod Plans
pub mod Results
pub mod Scripts
pub mod WholeList
