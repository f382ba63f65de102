-- The laws of `share_answers`.
pub mod Passed
mod Measured
