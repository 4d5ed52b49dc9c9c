-- `Calls` says what a call comes to; `Ways`, that it is the answer from any state.
pub mod Calls
pub mod Ways
