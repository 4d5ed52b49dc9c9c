-- `Answers` has what each way of the code comes to.
pub mod Answers
