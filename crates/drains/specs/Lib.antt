-- How many drains so many bytes cost over one buffer, and worked numbers.
pub mod Drains
pub mod Worked
