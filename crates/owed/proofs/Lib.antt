-- Laws about what is owed.
pub mod Laws
