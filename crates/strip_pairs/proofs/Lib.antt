-- The laws of pairs of steps, for other crates.
pub mod Pairs
