-- The laws of `measure`.
mod Counted
pub mod Cutting
pub mod Measured
