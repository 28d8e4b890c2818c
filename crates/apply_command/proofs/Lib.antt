pub mod HeadChunks
pub mod Lists
pub mod MadeOfPlanning
pub mod PreparedForms
pub mod Tails
pub mod Unread
