-- What a call of the writer comes to, without its state: `Outcome` (all out, full, or refused).
pub mod Outcome
