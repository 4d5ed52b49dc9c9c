-- `Digits` has the laws of a varint that is written byte by byte, `Part` those of a buffer's last part.
pub mod Digits
pub mod Part
