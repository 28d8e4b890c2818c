-- A worker: what it applies, what it draws, and what it returns.
pub mod Drawn
pub mod WorkerJob
pub mod Stopped
