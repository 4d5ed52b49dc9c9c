-- `Slowly`: what a call comes to from any state, by its phase.
pub mod Slowly
