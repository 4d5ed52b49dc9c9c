-- Read in this order: Demand (what is claimed of the copier as a whole), Desk (the caller's side that it speaks of), Stands (what holds
-- after any acts, of any bytes), Exact (one buffer, drained at "full" alone).
pub mod Desk
pub mod Stands
pub mod Demand
pub mod Exact
