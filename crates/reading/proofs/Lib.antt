pub mod Ends
pub mod Feeds
