pub mod Lines
pub mod Names
pub mod StepWarnings
pub mod StreamWarnings
