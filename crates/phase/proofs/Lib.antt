-- `Phases`: the phases there and back, and what their tests say. `Keeps`: that a byte keeps a state sound. `Scans`: the machine's scan, a
-- byte at a time. `Steps`: an event with the phase after it.
pub mod Phases
pub mod Keeps
pub mod Scans
pub mod Steps
