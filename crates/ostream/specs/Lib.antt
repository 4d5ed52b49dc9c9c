-- What the writer's calls come to. Read in this order: Stream (the state), Emission (one call), Calls (each writing call), Buffer (opening, drains). `Private` is for private functions
-- alone.
pub mod Stream
pub mod Emission
pub mod Calls
pub mod Buffer
pub mod Private
