pub mod Cuts
pub mod Reassembly
