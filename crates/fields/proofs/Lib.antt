-- `Behind` has the law of a field that is written at once behind held headers.
pub mod Behind
