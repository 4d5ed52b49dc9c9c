-- What the functions of passing are held to, beside the layout's own definitions.
pub mod Passing
