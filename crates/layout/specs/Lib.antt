-- The layout of a message, from bytes to fields to events: the part that a reader of this repository has to believe.
-- Read in this order: Limits, Varint, Zigzag, Field, Event, Reading, Message, Copy; Worked has the worked bytes.
pub mod Limits
pub mod Varint
pub mod Zigzag
pub mod Field
pub mod Event
pub mod Reading
pub mod Message
pub mod Copy
pub mod Worked
