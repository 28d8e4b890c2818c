-- How plans are read. The definitions of plans themselves are those of `apply_model`.
pub use Rattle.apply_model.specs.Plan.Action
pub use Rattle.apply_model.specs.Plan.Address
pub use Rattle.apply_model.specs.Plan.ResourceChange
pub use Rattle.apply_model.specs.Plan.StepKind
pub mod Element
pub mod ElementView
pub mod ElementsView
pub mod Header
pub mod Members
pub mod NextChange
pub mod PlannedView
pub mod SavedPlan
pub mod SeenSet
pub mod Steps
pub mod Words
