-- Series of writes. Read in this order: Series (the caller's side, from an opening to the end), Written (what a list of writes comes to),
-- Public (the public calls as such writes), Exact (one buffer, drained at "full" alone).
pub mod Series
pub mod Written
pub mod Public
pub mod Exact
