-- The copier's calls. Read in this order: Copier (the state, and which are sound), Calls (feeding, opening, draining, changing the buffer).
-- Feeding is for the code alone.
pub mod Copier
pub mod Calls
pub mod Feeding
