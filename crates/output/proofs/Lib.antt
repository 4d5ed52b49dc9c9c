-- `Laws` serves the functions that write an output.
pub mod Laws
