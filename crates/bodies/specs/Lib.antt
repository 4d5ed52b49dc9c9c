-- What the functions of bodies are held to, beside the definitions of passing.
pub mod Bodies
