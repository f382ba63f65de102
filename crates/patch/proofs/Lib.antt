-- The laws of `patch`.
pub mod Every
pub mod Counts
pub mod Discarded
pub mod Plain
