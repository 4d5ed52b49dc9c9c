-- `Laws` is what callers of the step cite; `Step`, `Shortest`, `Zeros` and `Zigzag` are laws of the layout's own definitions, over any width.
-- `Digits` and `Sign` say what the machine's operations come to.
pub mod Digits
pub mod Sign
pub mod Step
pub mod Laws
pub mod Zigzag
pub mod Shortest
pub mod Zeros
