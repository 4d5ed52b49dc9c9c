-- Proofs about the caller's side of the copier.
pub mod Owed
pub mod Sound
pub mod Runs
pub mod Sent
pub mod Ends
pub mod Demand
pub mod Exact
pub mod Worked
