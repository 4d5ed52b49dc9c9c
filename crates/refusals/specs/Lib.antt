-- `Judged` has what tests in order come to, `Tests` each test by its numbers, `Orders` the tests of each kind of call.
pub mod Judged
pub mod Tests
pub mod Orders
