-- What the loop's code goes by. Events: the reader's events. Turns: a turn that is an event, or a block as it came. Pieces: a turn within a
-- payload. Loop: what holds between turns. Tests: what single functions answer.
pub mod Events
pub mod Turns
pub mod Pieces
pub mod Loop
pub mod Tests
