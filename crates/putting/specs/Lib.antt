-- What writing to a lent buffer leaves there.
pub mod Put
