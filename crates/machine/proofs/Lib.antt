pub mod Readings
pub mod Bridge
pub mod Prefix
pub mod Calls
pub mod Ends
pub mod Runs
