-- What else holds of the copier's call. Sound, Reader: a sound state stays sound. Bound: what is out is bounded. Whole: a message given whole.
-- Takes, OneEvent, AsIs: what is in its shortest form is copied as it is.
pub mod Sound
pub mod Reader
pub mod Bound
pub mod Whole
pub mod Takes
pub mod OneEvent
pub mod AsIs
