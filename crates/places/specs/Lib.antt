-- The places of held ids, and which states are sound: `Places`.
pub mod Places
