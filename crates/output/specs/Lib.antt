-- `Output`: the bytes that an event is written as.
pub mod Output
