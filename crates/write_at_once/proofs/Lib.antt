-- The laws of two varints and what follows them: `Rows`.
pub mod Rows
