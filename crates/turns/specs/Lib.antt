-- The copier's loop. Said: what a call says. Turns: what a turn comes to, and the loop.
pub mod Said
pub mod Turns
