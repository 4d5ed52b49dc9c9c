-- The verdict of the last line: `Verdict`.
pub mod Verdict
