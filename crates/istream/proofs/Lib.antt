-- `Laws` is what callers cite. `Calls` has the states there and back; `Tests`, what the code's tests of a state are.
pub mod Calls
pub mod Tests
pub mod Laws
