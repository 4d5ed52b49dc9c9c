-- What the functions of whole are held to, beside the layout's own definitions.
pub mod Whole
