-- Laws of the definitions alone; the layout's own theorems stand in crate `laws`.
pub mod Joined
