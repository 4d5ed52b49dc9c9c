-- Laws about what is owed of an event.
pub mod Laws
