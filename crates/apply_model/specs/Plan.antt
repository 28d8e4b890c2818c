-- Saved plans and their changes.
pub mod Action
pub mod Address
pub mod ChangeParts
pub mod ResourceChange
pub mod SavedPlan
pub mod StepKind
