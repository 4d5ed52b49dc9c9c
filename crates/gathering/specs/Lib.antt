-- `Gather` has one call of the gatherer, `Run` a payload handed to it piece by piece, `Worked` a table of worked calls.
pub mod Gather
pub mod Run
pub mod Worked
