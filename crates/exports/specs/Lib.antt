-- What the exports are held to, beside the layout's own definitions; Worked has worked answers.
pub mod Exports
pub mod Worked
