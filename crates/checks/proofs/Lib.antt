-- The laws of a call's first tests: `Checks`.
pub mod Checks
