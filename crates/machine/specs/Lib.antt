pub mod Machine
pub mod Calls
pub mod Run
