-- Lemmas on plans.
pub mod Elements
pub mod Held
pub mod Joined
pub mod SeenSet
pub mod NoTree
pub mod Taken
pub mod Top
pub mod WholeList
