-- What a drain and a buffer change come to, by the numbers of a writer's state.
pub mod Moved
