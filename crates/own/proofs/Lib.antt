-- The laws behind the functions of own.
pub mod Values
pub mod Runs
pub mod Bodies
pub mod Parts
