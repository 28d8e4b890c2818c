mod ChangeSteps
mod Counted
mod LeftOutputs
mod NamedOutputs
mod Pieces
mod Recorded
mod RunTimes
