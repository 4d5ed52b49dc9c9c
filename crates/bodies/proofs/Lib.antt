-- `Bodies` has where what follows a header ends, `Landing` the answers that stand for it, `Left` the laws of the bytes left.
pub mod Bodies
pub mod Landing
pub mod Left
