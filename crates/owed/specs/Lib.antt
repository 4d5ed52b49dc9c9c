-- What a copier owes.
pub mod Owed
