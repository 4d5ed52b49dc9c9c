-- `Numbers` has the numbers of a verdict, of a length and of a count of drains, as the code gives them.
pub mod Numbers
