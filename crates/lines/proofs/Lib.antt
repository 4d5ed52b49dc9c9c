-- `Laws` is what callers cite. `Texts` joins texts put one after another; `Numbers` has the digits.
pub mod Texts
pub mod Numbers
pub mod Laws
