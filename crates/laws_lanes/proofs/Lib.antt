mod BegunSteps
mod Chosen
mod FirstReady
mod Mirrored
mod SchedulesAlike
mod StepsAlike
pub mod TimeLinesAlike
mod TurnsAlike
pub mod WithEvents
