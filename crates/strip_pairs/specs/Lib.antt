-- The definitions of `strip_pairs`.
pub mod Pairs
