pub mod Phases
pub mod Sound
pub mod Steps
