-- The laws behind the exports.
pub mod Numbers
pub mod Filled
pub mod Own
pub mod Fresh
pub mod Streamed
pub mod Length
pub mod Drains
