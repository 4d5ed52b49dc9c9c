-- A copier's tests by its parts: what they come to.
pub mod Checked
