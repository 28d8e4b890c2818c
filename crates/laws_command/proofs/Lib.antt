pub mod Beginnings
pub mod CommandEnds
pub mod HeadLevels
pub mod SameElements
pub mod SamePlans
pub mod SameReading
pub mod SavedPlans
pub mod ToldSteps
