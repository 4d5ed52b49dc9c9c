-- What the functions of lengths are held to, beside the layout's own definitions.
pub mod Lengths
