-- `Lines` is 01's event list, `Worked` its example and another.
pub mod Lines
pub mod Worked
