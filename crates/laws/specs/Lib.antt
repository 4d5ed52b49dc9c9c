-- What the layout's laws speak of: which limits fit, which fields are legal, what a field raises, and the bytes of events.
pub mod Legal
pub mod Longer
pub mod Events
