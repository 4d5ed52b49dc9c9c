-- The copier over the machine's states. Read in this order: Owed (what is owed), Copy (one call), Refusals (which states a call takes, and
-- its refusals in order), Run (what a call keeps); Worked has worked calls.
pub mod Owed
pub mod Copy
pub mod Refusals
pub mod Run
pub mod Worked
