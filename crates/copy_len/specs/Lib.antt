-- What the functions of copy_len are held to, beside the layout's own definitions and those of lengths; Worked has worked lengths.
pub mod CopyLen
pub mod Worked
