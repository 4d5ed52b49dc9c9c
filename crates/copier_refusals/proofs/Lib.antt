-- What the code goes by: a writer that holds no id (Rested), the tests one by one (Tests), and what they come to (Judged).
pub mod Rested
pub mod Tests
pub mod Judged
