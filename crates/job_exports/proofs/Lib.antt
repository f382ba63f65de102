-- The laws of `job_exports`.
pub mod Calls
pub mod Again
pub mod Back
pub mod Exactly
