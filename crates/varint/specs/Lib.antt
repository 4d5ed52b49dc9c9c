-- What the functions of varint are held to, beside the layout's own definitions.
pub mod Varint
