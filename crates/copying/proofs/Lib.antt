-- Proofs about the copier's call. Turns: the laws of its loop. Due, Pieces, Keeps: no byte is lost or made up. Allowed: what the reader gives
-- is as the layout allows. Refusals: the tests of a call.
pub mod Turns
pub mod Due
pub mod Pieces
pub mod Keeps
pub mod Allowed
pub mod Refusals
