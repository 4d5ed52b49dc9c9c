-- A writer's cursor within one call's output.
pub mod Cursor
