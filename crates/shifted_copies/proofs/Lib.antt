-- The laws of `shifted_copies`, for other crates.
pub mod Shifts
pub mod Again
