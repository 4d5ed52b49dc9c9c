-- The sequences that a writer holds back, by the bytes that they owe: `Headers`.
pub mod Headers
