-- The definitions of `strip_walk`.
pub mod Walks
