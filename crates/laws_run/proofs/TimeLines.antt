-- Lanes and their time line.
pub mod Along
pub mod Busy
pub mod Ends
pub mod Open
pub mod Partition
pub mod RunEvents
pub mod Sharing
pub mod StepTimes
