-- What a field or an array comes to, by the numbers of a writer's state.
pub mod Went
