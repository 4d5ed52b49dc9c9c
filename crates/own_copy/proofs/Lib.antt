-- The law behind `is_own`.
pub mod Own
