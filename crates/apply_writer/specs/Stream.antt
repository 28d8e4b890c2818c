-- The stream that is written: the accepted events, and the bytes in the sink.
pub mod Delivered
pub mod Ended
pub mod Form
pub mod Outlet
pub mod Counting
pub mod WriterState
pub mod Terraform
