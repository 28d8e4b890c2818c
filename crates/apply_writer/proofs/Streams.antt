-- Streams: what was accepted and written, and how they end.
pub mod Ending
pub mod Lines
pub mod Notes
pub mod Pieces
pub mod WriterState
pub mod Writing
