-- What the functions of shortest and own are held to, beside the layout's own definitions.
pub mod Own
