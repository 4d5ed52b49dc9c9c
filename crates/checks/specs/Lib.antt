-- What the first tests of a writer's call come to, without its state: `Check`.
pub mod Check
