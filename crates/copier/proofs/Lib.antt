-- What the copier's code goes by: a whole call.
pub mod Calls
