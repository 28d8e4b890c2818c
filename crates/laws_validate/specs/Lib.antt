pub mod Laws
pub mod Paths
pub mod Reading
pub mod IgnoredMembers
pub mod IgnoredInForm
