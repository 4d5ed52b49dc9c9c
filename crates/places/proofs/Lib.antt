-- The laws of the held ids' places: `Places`.
pub mod Places
