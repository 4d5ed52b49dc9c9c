-- `Outcomes` has the laws of the layout's outcomes by their lengths, `Answers` those of the answers, `Left` those of the bytes left and of
-- the length, which is no more than the bytes passed.
pub mod Outcomes
pub mod Answers
pub mod Left
