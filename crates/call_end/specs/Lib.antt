-- `CallEnd`: what a call of the reader comes to.
pub mod CallEnd
