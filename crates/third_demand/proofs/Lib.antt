-- The laws of `third_demand`.
pub mod AllPoints
pub mod Drawn
