-- The laws of how far an output goes: `Outcomes`.
pub mod Outcomes
