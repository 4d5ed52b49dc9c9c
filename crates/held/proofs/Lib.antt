-- The laws of how a call ends: `Ends`.
pub mod Ends
