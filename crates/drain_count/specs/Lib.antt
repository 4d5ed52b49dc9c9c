-- How many drains a message's plain copy costs.
pub mod DrainCount
pub mod Worked
