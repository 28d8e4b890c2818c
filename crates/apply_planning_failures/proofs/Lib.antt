pub mod Courses
pub mod Items
pub mod Lost
pub mod ToldChanges
