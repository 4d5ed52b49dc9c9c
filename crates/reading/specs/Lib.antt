pub mod Feeds
pub mod Worked
