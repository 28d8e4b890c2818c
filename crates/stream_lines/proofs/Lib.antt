pub mod Cut
pub mod Feeds
pub mod FirstLine
