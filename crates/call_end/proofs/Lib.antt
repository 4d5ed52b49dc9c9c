-- `Tests` says what the verdict's test is.
pub mod Tests
