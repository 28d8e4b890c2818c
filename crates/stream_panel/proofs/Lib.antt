pub mod Frames
pub mod Panels
pub mod Parts
pub mod Signs
pub mod Widths
